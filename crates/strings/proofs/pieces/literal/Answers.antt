use Rattle.strings.proofs.PieceLaws.{literal_span}
use Rattle.strings.proofs.pieces.literal.Goals as goal

pub returns : goal.returns
returns c =
    literal_span c.args.start c.args.end c.args.from c.args.r c.args.next c.args.ran_out c.args.errors c.between.result c.between.ensures
