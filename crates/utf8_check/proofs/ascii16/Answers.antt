-- `utf8_check::ascii16` meets its contract. Assumes nothing.
use Rattle.utf8_check.proofs.Check.{ascii_block}
use Rattle.utf8_check.proofs.ascii16.Goals as goal

pub returns : goal.returns
returns c =
    rw (c.ascii4.ensures, c.ascii4-2.ensures, c.ascii4-3.ensures, c.ascii4-4.ensures) (ascii_block c.args.text.now c.args.at)
