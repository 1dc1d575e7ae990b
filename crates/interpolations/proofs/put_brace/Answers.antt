use Rattle.output.proofs.Buffers.{put_none}
use Rattle.interpolations.specs.Interpolations.{missing}
use Rattle.interpolations.proofs.put_brace.Goals as goal

pub returns-then-found : goal.returns-then-found
unfolding missing
returns-then-found c = rw c.if-found.true (put_none _ _)

pub returns : goal.returns
unfolding missing
returns c =
    rw c.if-found.false c.put_byte.ensures
