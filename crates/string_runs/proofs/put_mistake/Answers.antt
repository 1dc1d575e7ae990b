use Rattle.std.specs.Prelude.{Some}
use mathlib.Core.Path.{◌∙◌, ap}
use Rattle.output.proofs.Buffers.{put_none}
use Rattle.records.specs.Layout.{error_bytes}
use Rattle.string_runs.proofs.RunLaws.{mistake_put, unicode_put, escape_put}
use Rattle.string_runs.proofs.put_mistake.Goals as goal

pub returns-in-None : goal.returns-in-None
unfolding error_bytes
returns-in-None c =
    mistake_put _ _ _ _ c.args.p c.args.mistake _ c.in-None.is (put_none c.args.errors.now c.args.at)

pub returns-in-Some-BadUnicode : goal.returns-in-Some-BadUnicode
returns-in-Some-BadUnicode c =
    mistake_put _ _ _ _ c.args.p c.args.mistake _ (c.in-Some-BadUnicode.is ∙ ap Some (rw c.in-Some-BadUnicode.is at c.in-Some-BadUnicode.field-0-is)) (unicode_put _ _ _ _ c.args.p c.put_behind.ensures)

pub returns-in-Some-BadEscape : goal.returns-in-Some-BadEscape
returns-in-Some-BadEscape c =
    mistake_put _ _ _ _ c.args.p c.args.mistake _ (c.in-Some-BadEscape.is ∙ ap Some (rw c.in-Some-BadEscape.is at c.in-Some-BadEscape.field-0-is)) (escape_put _ _ _ _ c.args.p _ c.put_behind-in-Some-BadEscape.ensures)
