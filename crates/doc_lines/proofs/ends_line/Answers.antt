-- `doc_lines::ends_line` meets its contract. Assumes nothing.
use Rattle.doc_lines.proofs.Places.{ends_feed}
use Rattle.doc_lines.proofs.ends_line.Goals as goal

pub returns : goal.returns
returns c = ends_feed _
