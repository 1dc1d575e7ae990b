-- The words of a line: spellings, code points, and the fixed lines. Assumes nothing.
use Rattle.std.specs.Option.{unwrap_or}
use mathlib.Core.Path.{◌≡◌, refl, ap}
use mathlib.Core.Option.{Option}
use mathlib.Core.Bool.{Bool, true, false, ◌&&◌}
use mathlib.Core.List.{List, [], ◌∷◌, ◌++◌, append-nil}
use Prim.Native.Nat.{ℕ, zero, suc, ◌≤◌, zero-le}
use borrow.Author.Tests.{leb-true}
use lib.Dec.{leb}
use lib.ListN.{length, get_or}
use Rattle.characters.proofs.Choice.{and_both}
use Rattle.records.specs.Errors.{kind_number, kind_code, error_of}
use Rattle.records.specs.Kinds.{has_code}
use Rattle.records.proofs.ErrorLaws.{char_or_none}
use Rattle.spellings.specs.Spelling.{ascii, spellings, spelling}
use Rattle.records.specs.declared.answers.ErrorRecord.{ErrorRecord}
use Rattle.listing_fields.specs.Fields.{field, code_field}
use Rattle.spans.specs.declared.Span.{Span}
use Rattle.listing_lines.specs.Words.{error}
use Rattle.listing_lines.specs.Lines.{ending, head_of, error_line, closed_line}

-- ── Spellings ──

-- Each word has at most nine bytes: one test over the table.
unfoldable nines : List (List ℕ) → Bool
nines [] = true
nines (w ∷ ws) = leb (length w) 9 && nines ws

nine_at : (ws : List (List ℕ)) → nines ws ≡ true → (k : ℕ) → length (get_or ws k []) ≤ 9
unfolding nines
nine_at [] e k = zero-le
nine_at (w ∷ ws) e zero = leb-true (length w) 9 (and_both (leb (length w) 9) (nines ws) e).0
nine_at (w ∷ ws) e (suc k) = nine_at ws (and_both (leb (length w) 9) (nines ws) e).1 k

spellings_nine : nines spellings ≡ true
unfolding nines
spellings_nine = refl

pub spelling_short : (k : ℕ) → length (spelling k) ≤ 9
spelling_short k = nine_at spellings spellings_nine k

-- ── Errors ──

pub error_with : (kind code : ℕ) (span : Span) → has_code kind ≡ true
    → head_of 69 kind span ++ field code ++ ending ≡ error_line (error kind span code)
unfolding error_line code_field
error_with kind code span e = rw e

pub error_bare : (kind code : ℕ) (span : Span) → has_code kind ≡ false → head_of 69 kind span ++ ending ≡ error_line (error kind span code)
unfolding error_line code_field
error_bare kind code span e = rw (e, append-nil (head_of 69 kind span))

-- A record's error, by its number and its code point, which is 0 where it has none.
pub error_named : (r : ErrorRecord) → error (kind_number r.kind) r.span (unwrap_or (kind_code r.kind) 0) ≡ error_of r
error_named r = ap (λ (o : Option ℕ). record { kind = kind_number r.kind; span = r.span; char = o }) (char_or_none r.kind)

-- ── The last line ──

pub closed_line_lem : (b : Bool) → b ≡ true → ascii "closed" ++ ending ≡ closed_line b
unfolding closed_line
closed_line_lem b e = rw e

pub open_line : (b : Bool) → b ≡ false → ascii "open" ++ ending ≡ closed_line b
unfolding closed_line
open_line b e = rw e
