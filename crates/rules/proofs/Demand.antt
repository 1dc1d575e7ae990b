-- Demand 3, over bytes: an accepted script that leaves room for a line feed is closed exactly when it joins with every second script
-- that fits. Assumes nothing.
use mathlib.Core.Path.{◌≡◌, refl, sym, ap, ◌∙◌}
use mathlib.Core.Bool.{Bool, true, false, ◌&&◌, not}
use mathlib.Core.List.{List, [], ◌∷◌, ◌++◌, map, map-append, map-map, drop_last, append-nil}
use Prim.Native.Nat.{ℕ, ◌+◌, ◌<◌}
use native.Mathlib.Omega.{arith}
use borrow.Author.Tests.{le-leb, not-true}
use lib.Dec.{leb}
use lib.ListN.{length, length-append}
use Rattle.characters.specs.Choice.{within}
use Rattle.characters.specs.Utf8.{is_scalar, encode_char, chars_of, is_utf8, is_valid, first_bad, check_past, bytes}
use Rattle.byte_order_mark.specs.Mark.{has_mark, after_mark}
use Rattle.characters.proofs.Choice.{and_both}
use Rattle.characters.proofs.Texts.{chars_nil, chars_encoded, chars_append, valid_length, ascii_utf8, utf8_append}
use Rattle.byte_order_mark.proofs.Marks.{no_mark_chars, utf8_after_mark, after_mark_append}
use Rattle.rules.specs.Text.{LF}
use Rattle.rules.specs.Tokens.{Token}
use Rattle.rules.specs.Lexer.{segments, place, origin, lexed, eof, tokens, errors, closed}
use Rattle.rules.specs.Script.{LIMIT, accepted, script_text, as_bytes, script_tokens, script_errors, script_closed}
use Rattle.rules.specs.Shift.{shift_token, joined, Joins, SecondFits, ClosedExactly}
use Rattle.rules.proofs.Join.{whole, drop_eof, TextsJoin, closed_joins}
use Rattle.rules.proofs.Tells.{Z, top}
use Rattle.rules.proofs.Open.{furthest, open_parts}

-- ── Characters of the whole ──

-- A text that begins with a line feed has no mark, and its first character is the line feed.
feed_no_mark : (b : List ℕ) → has_mark (LF ∷ b) ≡ false
unfolding has_mark
feed_no_mark b = refl

feed_chars : (b : List ℕ) → chars_of (LF ∷ b) ≡ LF ∷ chars_of b
unfolding encode_char is_scalar within
feed_chars b = chars_encoded LF b refl

pub accepted_utf8 : (a : List ℕ) → accepted a ≡ true → is_utf8 a ≡ true
unfolding accepted
accepted_utf8 a h = (and_both (leb (length a) LIMIT) (is_utf8 a) h).1

feed_utf8 : (b : List ℕ) → is_utf8 (LF ∷ b) ≡ is_utf8 b
feed_utf8 b = ascii_utf8 LF b (omega arith)

module _ (a : List ℕ) (valid : is_utf8 a ≡ true) where
  pub joined_text : (b : List ℕ) → has_mark b ≡ false → script_text (joined a b) ≡ script_text a ++ (LF ∷ script_text b)
  unfolding script_text
  joined_text b none =
      ap chars_of (after_mark_append a (LF ∷ b) valid (λ _. feed_no_mark b))
      ∙ (chars_append (after_mark a) (LF ∷ b) (utf8_after_mark a ∙ valid)
      ∙ ap (λ t. chars_of (after_mark a) ++ t) (feed_chars b ∙ ap (λ t. LF ∷ t) (sym (no_mark_chars b none))))

  -- Offsets in the first script end at its bytes after the mark.
  pub text_size : bytes (script_text a) ≡ length (after_mark a)
  unfolding script_text
  text_size = sym (valid_length (after_mark a) (utf8_after_mark a ∙ valid))

-- ── The whole is accepted ──

joined_length : (a b : List ℕ) → length (joined a b) ≡ length a + 1 + length b
joined_length a b = omega (arith, length-append a (LF ∷ b))

-- Behind an accepted script, a line feed and a text are accepted exactly if the text is UTF-8 and all is within the limit. A mark in
-- front of the second is a character of the whole.
pub joined_accepted : (a b : List ℕ) → accepted a ≡ true → accepted (joined a b) ≡ (leb (length a + 1 + length b) LIMIT && is_utf8 b)
unfolding accepted
joined_accepted a b h =
    rw (joined_length a b, utf8_append a (LF ∷ b) (accepted_utf8 a h), feed_utf8 b)

-- A second script that fits: the whole is accepted.
pub whole_accepted : (a b : List ℕ) → accepted a ≡ true → SecondFits a b → accepted (joined a b) ≡ true
whole_accepted a b h f =
    joined_accepted a b h ∙ rw (le-leb (length a + 1 + length b) LIMIT f.within_limit, accepted_utf8 b f.second_accepted)

-- ── Tokens with their texts as bytes ──

map_drop : {A B : Type 0} (f : A → B) (xs : List A) → map f (drop_last xs) ≡ drop_last (map f xs)
map_drop f [] = refl
map_drop f (x ∷ []) = refl
map_drop f (x ∷ y ∷ xs) = ap (λ l. f x ∷ l) (map_drop f (y ∷ xs))

shift_bytes : (n l : ℕ) (ts : List Token) → map as_bytes (map (shift_token n l) ts) ≡ map (shift_token n l) (map as_bytes ts)
shift_bytes n l ts = map-map as_bytes (shift_token n l) ts ∙ sym (map-map (shift_token n l) as_bytes ts)

texts_join : (a b : List ℕ) → is_utf8 a ≡ true → has_mark b ≡ false → TextsJoin (script_text a) (script_text b) → Joins a b
unfolding script_tokens script_errors
texts_join a b valid none j =
    record {
      tokens_join =
          rw (joined_text a valid b none, j.tokens_join, text_size a valid, map-append as_bytes, map_drop as_bytes) (simp shift_bytes);
      errors_join = rw (joined_text a valid b none, j.errors_join, text_size a valid);
    }

-- ── The whole's end ──

-- Behind a closed first, the whole is closed exactly if the second is.
pub joined_closed : (a b : List ℕ) → is_utf8 a ≡ true → has_mark b ≡ false → script_closed a ≡ true → script_closed (joined a b) ≡ script_closed b
unfolding script_closed closed
joined_closed a b valid none c =
    let o = not-true (lexed (script_text a)).open_end c in
    rw (joined_text a valid b none, whole (script_text a) (script_text b) o, o)

-- ── An empty second script ──

no_mark_nil : has_mark [] ≡ false
unfolding has_mark
no_mark_nil = refl

empty_accepted : accepted [] ≡ true
unfolding accepted is_utf8 is_valid first_bad check_past
empty_accepted = refl

empty_text : script_text [] ≡ []
unfolding script_text
empty_text = no_mark_chars [] no_mark_nil ∙ chars_nil

empty_tokens : script_tokens [] ≡ as_bytes (eof origin) ∷ []
unfolding script_tokens tokens segments place
empty_tokens = rw empty_text

empty_errors : script_errors [] ≡ []
unfolding script_errors errors segments place
empty_errors = rw empty_text

-- The tokens but EOF, and where they end.
script_body_lem : (s : List ℕ) → drop_last (script_tokens s) ≡ map as_bytes (lexed (script_text s)).body
unfolding script_tokens tokens
script_body_lem s =
    rw (map-append as_bytes (lexed (script_text s)).body (eof (lexed (script_text s)).stop ∷ []))
    (drop_eof (map as_bytes (lexed (script_text s)).body) (as_bytes (eof (lexed (script_text s)).stop)))

furthest_bytes : (ts : List Token) → furthest (map as_bytes ts) ≡ furthest ts
unfolding top
furthest_bytes [] = refl
furthest_bytes (t ∷ ts) = rw (furthest_bytes ts)

script_ends : (s : List ℕ) → furthest (drop_last (script_tokens s)) ≡ furthest (lexed (script_text s)).body
script_ends s = ap furthest (script_body_lem s) ∙ furthest_bytes (lexed (script_text s)).body

script_open_parts : (a : List ℕ) → is_utf8 a ≡ true → (lexed (script_text a)).open_end ≡ true → Joins a [] → ⊥
unfolding script_errors errors
script_open_parts a valid o j = open_parts (script_text a) o same_ends same_errors
  where
    whole_text : script_text (joined a []) ≡ script_text a ++ Z
    whole_text = rw (joined_text a valid [] no_mark_nil, empty_text)

    same_ends : furthest (lexed (script_text a ++ Z)).body ≡ furthest (lexed (script_text a)).body
    same_ends =
        let e : drop_last (script_tokens (joined a [])) ≡ drop_last (script_tokens a)
        = rw (j.tokens_join, empty_tokens) (drop_eof (drop_last (script_tokens a)) _) in
        ap (λ t. furthest (lexed t).body) (sym whole_text) ∙ (sym (script_ends (joined a [])) ∙ (ap furthest e ∙ script_ends a))

    same_errors : (lexed (script_text a ++ Z)).errors ≡ (lexed (script_text a)).errors
    same_errors =
        ap (λ t. (lexed t).errors) (sym whole_text) ∙ (j.errors_join ∙ rw empty_errors (append-nil (lexed (script_text a)).errors))

-- ── Demand 3 ──

pub closed_exactly : (a : List ℕ) → accepted a ≡ true → length a < LIMIT → ClosedExactly a (script_closed a)
unfolding script_closed closed
closed_exactly a h room = (
  λ c b f. texts_join a b valid f.second_unmarked (closed_joins (script_text a) (script_text b) c),
  λ j. go (lexed (script_text a)).open_end refl (j [] empty_fits),
)
  where
    valid : is_utf8 a ≡ true
    valid = accepted_utf8 a h

    empty_fits : SecondFits a []
    empty_fits = record { second_accepted = empty_accepted; second_unmarked = no_mark_nil; within_limit = omega arith }

    go : (o : Bool) → (lexed (script_text a)).open_end ≡ o → Joins a [] → not o ≡ true
    go true e j = absurd (script_open_parts a valid e j)
    go false e j = refl
