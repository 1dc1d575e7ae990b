-- `sequences::second_ok` meets its contract. Assumes nothing.
use borrow.Author.Tests.{eq-eqb, ne_eqb}
use mathlib.Core.Path.{◌∙◌}
use Rattle.characters.specs.Utf8.{second_ok}
use Rattle.sequences.proofs.second_ok.Goals as goal

pub returns-then-a-eq224 : goal.returns-then-a-eq224
unfolding second_ok
returns-then-a-eq224 c = c.within.ensures ∙ simp (eq-eqb _ _ c.if-a-eq224.true)

pub returns-then-a-eq237 : goal.returns-then-a-eq237
unfolding second_ok
returns-then-a-eq237 c =
    let x = ne_eqb _ _ c.if-a-eq224.false in
    c.within-then-a-eq237.ensures ∙ simp (x, eq-eqb _ _ c.if-a-eq237.true)

pub returns-then-a-eq240 : goal.returns-then-a-eq240
unfolding second_ok
returns-then-a-eq240 c =
    let x = ne_eqb _ _ c.if-a-eq224.false in
    let y = ne_eqb _ _ c.if-a-eq237.false in
    c.within-then-a-eq240.ensures ∙ simp (x, y, eq-eqb _ _ c.if-a-eq240.true)

pub returns-then-a-eq244 : goal.returns-then-a-eq244
unfolding second_ok
returns-then-a-eq244 c =
    let x = ne_eqb _ _ c.if-a-eq224.false in
    let y = ne_eqb _ _ c.if-a-eq237.false in
    let z = ne_eqb _ _ c.if-a-eq240.false in
    c.within-then-a-eq244.ensures ∙ simp (x, y, z, eq-eqb _ _ c.if-a-eq244.true)

pub returns : goal.returns
unfolding second_ok
returns c =
    let x = ne_eqb _ _ c.if-a-eq224.false in
    let y = ne_eqb _ _ c.if-a-eq237.false in
    let z = ne_eqb _ _ c.if-a-eq240.false in
    c.is_tail.ensures ∙ simp (x, y, z, ne_eqb _ _ c.if-a-eq244.false)
