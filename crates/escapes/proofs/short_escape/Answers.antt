use mathlib.Core.Path.{◌∙◌, sym}
use borrow.Author.Tests.{eq-eqb, ne_eqb}
use Rattle.escapes.specs.Escapes.{short_escape}
use Rattle.escapes.proofs.short_escape.Goals as goal

pub returns-then-byte_at-eq92 : goal.returns-then-byte_at-eq92
unfolding short_escape
returns-then-byte_at-eq92 c =
    rw (eq-eqb _ 92 (sym c.byte_at.ensures ∙ c.if-byte_at-eq92.true), ← c.byte_at-then-byte_at-eq92.ensures) c.letter_byte.ensures

pub returns : goal.returns
unfolding short_escape
returns c =
    rw (ne_eqb _ 92 (λ x. c.if-byte_at-eq92.false (c.byte_at.ensures ∙ x)))
