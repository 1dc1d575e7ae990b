-- `docs::put_feeds` meets its contract. The invariant: the line feeds still to be written, written from here on, give all of them
use Prim.Native.Nat.{ℕ}
use native.Mathlib.Omega.{arith}
use lib.ListN.{length-replicate}
use Rattle.docs.proofs.Cleaning.{feed_start, feed_more, feed_end}
use Rattle.docs.proofs.put_feeds.Goals as goal

pub loop-init : goal.loop-init
loop-init c = feed_start _ _ _

pub put_byte-place-requires : goal.put_byte-place-requires
put_byte-place-requires c = omega (arith, c.loop.invariant.used, length-replicate {A = ℕ} c.args.n 10)

pub loop-preserved : goal.loop-preserved
loop-preserved c = feed_more _ _ _ _ _ _ _ _ c.loop-test.true c.loop.invariant c.put_byte-place.ensures

pub returns : goal.returns
returns c = feed_end _ _ _ _ _ _ c.loop-test.false c.loop.invariant
