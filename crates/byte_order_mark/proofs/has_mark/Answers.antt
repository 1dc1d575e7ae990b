use mathlib.Core.Path.{◌∙◌}
use Rattle.byte_order_mark.proofs.Marks.{starts_with_mark}
use Rattle.byte_order_mark.proofs.has_mark.Goals as goal

pub returns : goal.returns
returns c = c.starts_with.ensures.value ∙ starts_with_mark c.args.text.now
