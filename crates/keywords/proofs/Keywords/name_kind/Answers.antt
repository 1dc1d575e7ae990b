-- `name_kind` meets its contract. Assumes nothing.
use mathlib.Core.Path.{refl, sym, ◌∙◌}
use Rattle.keywords.proofs.Laws.{entry_length, entry_kind, kind_other, kind_long, kind_found, kind_missed}
use Rattle.keywords.proofs.Keywords.name_kind.Goals as goal

pub returns-then-n-gt-LONGEST : goal.returns-then-n-gt-LONGEST
returns-then-n-gt-LONGEST c = kind_long c.args.name.now _ refl c.if-n-gt-LONGEST.true

pub returns-then-from-n : goal.returns-then-from-n
returns-then-from-n c =
    kind_other c.args.name.now c.row_of-row.result c.row_of-row.ensures.value
    (λ z. c.if-from-n.true ((c.from.ensures ∙ c.entry.ensures) ∙ (entry_length _ ∙ z)))

pub is_keyword-requires-clause-row_len : goal.is_keyword-requires-clause-row_len
is_keyword-requires-clause-row_len c = sym (entry_length _) ∙ (sym (c.from.ensures ∙ c.entry.ensures) ∙ c.if-from-n.false)

pub returns-then-is_keyword : goal.returns-then-is_keyword
returns-then-is_keyword c =
    c.entry-then-is_keyword.ensures
    ∙ (entry_kind _ ∙ kind_found c.args.name.now c.row_of-row.result c.row_of-row.ensures.value (sym c.is_keyword.ensures ∙ c.if-is_keyword.true))

pub returns : goal.returns
returns c = kind_missed c.args.name.now c.row_of-row.result c.row_of-row.ensures.value (sym c.is_keyword.ensures ∙ c.if-is_keyword.false)
