-- `print_strings::put_bytes` meets its contract. Assumes nothing.
use Rattle.print_escapes.proofs.Bare.{put_same}
use Rattle.print_strings.proofs.put_bytes.Goals as goal

pub returns-then-plain : goal.returns-then-plain
returns-then-plain c = put_same _ _ _ _ _ _ (c.requires.part_value c.if-plain.true) c.put_bytes.ensures
