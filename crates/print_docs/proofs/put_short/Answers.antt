-- `print_docs::put_short` meets its contract. Assumes nothing.
use Rattle.print_docs.proofs.Lining.{short_put}
use Rattle.print_docs.proofs.put_short.Goals as goal

pub returns : goal.returns
returns c =
    short_put c.args.line.now _ _ _ _ _ _ _ _ c.requires.line_value c.put_bytes-front.ensures c.put_bytes-place.ensures c.put_byte.ensures
