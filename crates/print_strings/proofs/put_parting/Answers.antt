-- `print_strings::put_parting` meets its contract. Assumes nothing.
use Rattle.output.proofs.Buffers.{put_none}
use Rattle.prints.specs.Print.{parting}
use Rattle.print_strings.proofs.put_parting.Goals as goal

pub returns-then-named : goal.returns-then-named
unfolding parting
returns-then-named c =
    rw c.if-named.true c.put_bytes.ensures

pub returns : goal.returns
unfolding parting
returns c = rw c.if-named.false (put_none _ _)
