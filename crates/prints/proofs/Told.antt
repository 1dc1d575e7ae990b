-- What the records tell is what the elements say: scripts with the same elements have the same grouping of pieces into strings, and each
-- token in or out of a string alike. Assumes nothing.
use mathlib.Core.Path.{◌≡◌, refl, sym, ap, ap₂, ◌∙◌}
use mathlib.Core.Bool.{Bool, true, false}
use mathlib.Core.List.{List, [], ◌∷◌, ◌++◌, map, map-append, drop_last}
use mathlib.Core.Option.{Option, none, some}
use Prim.Native.Nat.{ℕ, suc, ◌≤◌, ◌<◌}
use native.Mathlib.Omega.{arith}
use borrow.Author.Tests.{eq-eqb}
use Rattle.byte_order_mark.specs.Mark.{after_mark}
use Rattle.rules.specs.Tokens.{Token}
use Rattle.rules.specs.Lexer.{lexed, eof}
use Rattle.rules.specs.Script.{accepted, script_text, as_bytes, script_tokens}
use Rattle.rules.proofs.Ahead.{is_not}
use Rattle.rules.proofs.Join.{drop_eof}
use Rattle.rules.proofs.Starts.{AllAt}
use Rattle.rules.proofs.Fits.{script_body, body_and_eof}
use Rattle.prints.specs.Elements.{Word, Element, lone, string, token_word, script_elements}
use Rattle.prints.specs.Records.{same_start, continues, quote_at, script_continues, script_inside}
use Rattle.prints.proofs.Grouped.{Grouped, no_more, alone, strung, script_grouped}

-- ── Continued strings ──

unfoldable pub piece_continues : Bool → List Word → List Bool
piece_continues b [] = []
piece_continues b (w ∷ ws) = b ∷ piece_continues true ws

unfoldable pub element_continues : List Element → List Bool
element_continues [] = []
element_continues (lone w ∷ xs) = false ∷ element_continues xs
element_continues (string ws ∷ xs) = piece_continues false ws ++ element_continues xs

-- The token before starts before `n`.
abbrev pub StartsBefore : Option ℕ → ℕ → Type 0
StartsBefore none n = Unit {0}
StartsBefore (some m) n = m < n

pub new_start : (o : Option ℕ) (n m : ℕ) → StartsBefore o n → n ≤ m → same_start o m ≡ false
unfolding same_start
new_start none n m h l = refl
new_start (some k) n m h l = is_not k m (λ e. omega arith)

pub old_start : (m n : ℕ) → n ≡ m → same_start (some m) n ≡ true
unfolding same_start
old_start m n e = eq-eqb m n (sym e)

string_continues : (m : ℕ) (g ts : List Token) → AllAt m g
    → continues (some m) (g ++ ts) ≡ piece_continues true (map token_word g) ++ continues (some m) ts
unfolding continues piece_continues
string_continues m [] ts a = refl
string_continues m (t ∷ g) ts a =
    ap₂ (λ x y. x ∷ y) (old_start m t.span.start a.0) (ap (λ n. continues (some n) (g ++ ts)) a.0 ∙ string_continues m g ts a.1)

starts_tell : {q : ℕ → Bool} (n : ℕ) {ts : List Token} {xs : List Element} → Grouped q n ts xs → (o : Option ℕ) → StartsBefore o n
    → continues o ts ≡ element_continues xs
unfolding continues element_continues piece_continues
starts_tell n no_more o h = refl
starts_tell n (alone t l b c g) o h =
    ap₂ (λ x y. x ∷ y) (new_start o n t.span.start h l) (starts_tell (suc t.span.start) g (some t.span.start) (omega arith))
starts_tell n (strung m t g {ts} {xs} l b a c r) o h =
    ap₂ (λ x y. x ∷ y) (new_start o n t.span.start h (omega (arith, a.0)))
    (ap (λ k. continues (some k) (g ++ ts)) a.0
    ∙ (string_continues m g ts a.1 ∙ ap (λ y. piece_continues true (map token_word g) ++ y) (starts_tell (suc m) r (some m) (omega arith))))

-- ── In or out of a string ──

unfoldable pub element_inside : List Element → List Bool
element_inside [] = []
element_inside (lone w ∷ xs) = false ∷ element_inside xs
element_inside (string ws ∷ xs) = map (λ (w : Word). true) ws ++ element_inside xs

string_inside : (q : ℕ → Bool) (m : ℕ) (g : List Token) → q m ≡ true → AllAt m g
    → map (λ (t : Token). q t.span.start) g ≡ map (λ (w : Word). true) (map token_word g)
string_inside q m [] e a = refl
string_inside q m (t ∷ g) e a = ap₂ (λ x y. x ∷ y) (ap q a.0 ∙ e) (string_inside q m g e a.1)

quotes_tell : {q : ℕ → Bool} (n : ℕ) {ts : List Token} {xs : List Element} → Grouped q n ts xs → map (λ (t : Token). q t.span.start) ts ≡ element_inside xs
unfolding element_inside
quotes_tell n no_more = refl
quotes_tell {q} n (alone t l b c g) = ap₂ (λ x y. x ∷ y) b (quotes_tell (suc t.span.start) g)
quotes_tell {q} n (strung m t g {ts} {xs} l b a c r) =
    map-append (λ (t : Token). q t.span.start) (t ∷ g) ts
    ∙ ap₂ (λ x y. x ++ y) (string_inside q m (t ∷ g) b a) (quotes_tell (suc m) r)

-- ── Scripts ──

body_is : (s : List ℕ) → drop_last (script_tokens s) ≡ script_body s
body_is s = ap drop_last (body_and_eof s) ∙ drop_eof (script_body s) (as_bytes (eof (lexed (script_text s)).stop))

pub continues_elements : (s : List ℕ) → accepted s ≡ true → script_continues s ≡ element_continues (script_elements s)
unfolding script_continues
continues_elements s ok = ap (continues none) (body_is s) ∙ starts_tell 0 (script_grouped s ok) none tt

pub inside_elements : (s : List ℕ) → accepted s ≡ true → script_inside s ≡ element_inside (script_elements s)
unfolding script_inside
inside_elements s ok =
    ap (map (λ (t : Token). quote_at (after_mark s) t.span.start)) (body_is s) ∙ quotes_tell 0 (script_grouped s ok)

-- Scripts with the same elements have records that tell the same.
pub same_continues : (s p : List ℕ) → accepted s ≡ true → accepted p ≡ true → script_elements p ≡ script_elements s → script_continues p ≡ script_continues s
same_continues s p a b e = continues_elements p b ∙ (ap element_continues e ∙ sym (continues_elements s a))

pub same_insides : (s p : List ℕ) → accepted s ≡ true → accepted p ≡ true → script_elements p ≡ script_elements s → script_inside p ≡ script_inside s
same_insides s p a b e = inside_elements p b ∙ (ap element_inside e ∙ sym (inside_elements s a))
