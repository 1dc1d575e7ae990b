-- `doc_lines::char_at` meets its contract. Assumes nothing.
use mathlib.Core.Path.{sym, ◌∙◌}
use borrow.Author.Rules.{rules}
use Rattle.characters.proofs.Characters.{chars_past_lem, chars_bad, chars_end}
use Rattle.doc_lines.proofs.Places.{char_here, byte_here}
use Rattle.doc_lines.proofs.char_at.Goals as goal

pub returns-then-part-at : goal.returns-then-part-at
returns-then-part-at c = chars_past_lem _ _ c.if-part-at.true

pub returns-then-b-lt128 : goal.returns-then-b-lt128
returns-then-b-lt128 c = rw c.from.ensures (byte_here _ _ c.if-part-at.false c.if-b-lt128.true)

pub overflow_add-result-in-Code : goal.overflow_add-result-in-Code
overflow_add-result-in-Code c =
    let e = sym c.decode-d.ensures ∙ c.in-Code.is in
    let q = char_here _ c.args.at c.in-Code.c c.in-Code.n e in
    search rules

pub returns-in-Code : goal.returns-in-Code
returns-in-Code c =
    let e = sym c.decode-d.ensures ∙ c.in-Code.is in
    let q = char_here _ c.args.at c.in-Code.c c.in-Code.n e in
    q

pub returns-in-Bad : goal.returns-in-Bad
returns-in-Bad c = chars_bad _ _ (sym c.decode-d.ensures ∙ c.in-Bad.is)

pub returns-in-End : goal.returns-in-End
returns-in-End c = chars_end _ _ (sym c.decode-d.ensures ∙ c.in-End.is)
