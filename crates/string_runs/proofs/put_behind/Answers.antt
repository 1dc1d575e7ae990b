use Rattle.string_runs.proofs.RunLaws.{behind_put}
use Rattle.string_runs.proofs.put_behind.Goals as goal

pub returns : goal.returns
returns c =
    behind_put _ _ _ _ c.args.p c.args.kind c.along-q.result c.between-span.result c.along-q.ensures c.between-span.ensures c.put_error_record.ensures
