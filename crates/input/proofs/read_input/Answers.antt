-- Each piece stands behind the bytes so far, which it leaves as they were.
use Rattle.input.proofs.Pieces.{more_taken}
use Rattle.input.proofs.read_input.Goals as goal

pub loop-n-preserved : goal.loop-n-preserved
loop-n-preserved g c =
    let w = c.in_ok-more.ensures in
    let within = rw c.in-Some.is at w.piece_within in
    (within.1, more_taken _ _ _ _ _ _ _ c.loop-n.invariant.1 w.buf_unchanged (rw c.in-Some.is at w.taken))
