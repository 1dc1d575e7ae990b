-- `doc_lines::is_ink` meets its contract. Assumes nothing.
use Rattle.doc_lines.specs.Lines.{is_ink}
use Rattle.doc_lines.proofs.is_ink.Goals as goal

pub returns : goal.returns
unfolding is_ink
returns c = c.within.ensures
