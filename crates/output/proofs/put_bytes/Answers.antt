-- `output::put_bytes` meets its contract. Behind the buffer's end nothing is written; else the bytes that fit stand for the whole part.
use mathlib.Core.Path.{refl, ◌∙◌, ap}
use Prim.Native.Nat.{ℕ}
use lib.ListN.{take}
use lib.Seq.{sets}
use native.Mathlib.Omega.{arith}
use Rattle.output.proofs.Buffers.{none_put, copy_more, part_put}
use Rattle.output.proofs.put_bytes.Goals as goal

pub returns-then-buf-at : goal.returns-then-buf-at
returns-then-buf-at c = none_put _ _ _ _ refl c.if-buf-at.true

pub loop-i-preserved : goal.loop-i-preserved
loop-i-preserved c = copy_more _ _ _ _ _ (omega arith) c.loop-i.invariant

pub returns : goal.returns
returns c = part_put _ _ _ _ _ (omega arith) c.min-n.ensures (c.loop-i.invariant ∙ ap (λ (i : ℕ). sets c.args.buf.now c.args.at (take i c.args.part.now)) (omega arith))
