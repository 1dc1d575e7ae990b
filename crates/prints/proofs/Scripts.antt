-- Order 2, over bytes: the print of a script without errors, where it is within the limit, is a script that says the same, and its
-- print is itself; and it has at most six times the script's bytes. Assumes nothing.
use mathlib.Core.Path.{◌≡◌, refl, sym, ap, ◌∙◌}
use mathlib.Core.Bool.{Bool, true, false}
use mathlib.Core.List.{List, [], ◌∷◌, ◌++◌, map, map-append}
use Prim.Native.Nat.{ℕ, ◌*◌, ◌≤◌}
use native.Mathlib.Omega.{arith}
use borrow.Author.Tests.{le-leb}
use lib.ListN.{length}
use Rattle.characters.specs.Choice.{◌is◌}
use Rattle.characters.specs.Utf8.{chars_of, is_utf8, Scalars, encode}
use Rattle.byte_order_mark.specs.Mark.{has_mark, after_mark}
use Rattle.byte_order_mark.proofs.Marks.{no_mark_chars, begins_with_mark, mark_begins}
use Rattle.characters.proofs.Texts.{encode_length, encode_chars, encode_valid, chars_scalar}
use Rattle.rules.specs.Text.{Text}
use Rattle.rules.specs.Tokens.{Token}
use Rattle.rules.specs.Tables.{EOF}
use Rattle.rules.specs.Lexer.{origin, lexed, eof, tokens, errors, closed}
use Rattle.rules.specs.Script.{LIMIT, accepted, script_text, as_bytes, script_tokens, script_errors, script_closed}
use Rattle.rules.proofs.Ahead.{is_eq}
use Rattle.rules.proofs.Fits.{script_size}
use Rattle.prints.specs.Elements.{Element, lone, string, elements, token_word, words_of, word_bytes, element_bytes, script_elements}
use Rattle.prints.specs.Print.{print_text, print_bytes}
use Rattle.prints.specs.Reprint.{Reprints}
use Rattle.prints.proofs.Laid.{elements_words}
use Rattle.prints.proofs.Printed.{print_same, print_again, print_unmarked}
use Rattle.prints.proofs.Valid.{print_valid}
use Rattle.prints.proofs.Size.{print_size}
use Rattle.prints.proofs.Told.{same_continues, same_insides}

-- ── The characters of a script and of its print ──

pub text_scalar : (s : List ℕ) → Scalars (script_text s)
unfolding script_text
text_scalar s = chars_scalar (after_mark s)

print_scalar : (s : List ℕ) → Scalars (print_text (script_text s))
print_scalar s = print_valid (script_text s) (text_scalar s)

print_chars : (s : List ℕ) → chars_of (print_bytes s) ≡ print_text (script_text s)
unfolding print_bytes
print_chars s = encode_chars (print_text (script_text s)) (print_scalar s)

-- A text that begins with no mark.
unmarked : (t : Text) → ((r : Text) → t ≡ 0xFEFF ∷ r → ⊥) → begins_with_mark t ≡ false
unmarked [] h = refl
unmarked (c ∷ t) h = go (c is 0xFEFF) refl
  where
    go : (b : Bool) → (c is 0xFEFF) ≡ b → b ≡ false
    go true q = absurd (h t (ap (λ d. d ∷ t) (is_eq c 0xFEFF q)))
    go false q = refl

module _ (s : List ℕ) (right : script_errors s ≡ []) where
  -- The script's text has no errors.
  pub text_right : errors (script_text s) ≡ []
  unfolding script_errors
  text_right = right

  pub print_no_mark : has_mark (print_bytes s) ≡ false
  print_no_mark =
      mark_begins (print_bytes s)
      ∙ (ap begins_with_mark (print_chars s) ∙ unmarked (print_text (script_text s)) (λ r. print_unmarked (script_text s) r text_right))

  -- The print's text is the print of the script's text.
  pub print_text_lem : script_text (print_bytes s) ≡ print_text (script_text s)
  unfolding script_text
  print_text_lem = no_mark_chars (print_bytes s) print_no_mark ∙ print_chars s

-- ── Kinds and texts ──

words_bytes : (ts : List Token) → map token_word (map as_bytes ts) ≡ map word_bytes (map token_word ts)
words_bytes [] = refl
words_bytes (t ∷ ts) = ap (λ ws. word_bytes (token_word t) ∷ ws) (words_bytes ts)

elements_bytes : (ts : List Element) → words_of (map element_bytes ts) ≡ map word_bytes (words_of ts)
unfolding words_of
elements_bytes [] = refl
elements_bytes (lone w ∷ ts) = ap (λ ws. word_bytes w ∷ ws) (elements_bytes ts)
elements_bytes (string xs ∷ ts) = ap (λ ws. map word_bytes xs ++ ws) (elements_bytes ts) ∙ sym (map-append word_bytes xs (words_of ts))

-- The kinds and texts of a script's elements are those of its tokens, and then EOF's.
pub script_words : (s : List ℕ) → map token_word (script_tokens s) ≡ words_of (script_elements s) ++ (record { kind = EOF; text = [] } ∷ [])
unfolding script_tokens script_elements tokens elements encode
script_words s =
    let A = script_text s in
    words_bytes ((lexed A).body ++ (eof (lexed A).stop ∷ []))
    ∙ (ap (map word_bytes) (map-append token_word (lexed A).body (eof (lexed A).stop ∷ []))
    ∙ (map-append word_bytes (map token_word (lexed A).body) _
    ∙ ap (λ ws. ws ++ (record { kind = EOF; text = [] } ∷ [])) (ap (map word_bytes) (elements_words 0 origin A) ∙ sym (elements_bytes (elements A)))))

-- ── The theorems ──

print_utf8 : (s : List ℕ) → is_utf8 (print_bytes s) ≡ true
unfolding print_bytes
print_utf8 s = encode_valid (print_text (script_text s)) (print_scalar s)

print_accepted : (s : List ℕ) → length (print_bytes s) ≤ LIMIT → accepted (print_bytes s) ≡ true
unfolding accepted
print_accepted s fits = rw (le-leb (length (print_bytes s)) LIMIT fits, print_utf8 s)

pub script_same : (s : List ℕ) → script_errors s ≡ [] → script_elements (print_bytes s) ≡ script_elements s
unfolding script_elements
script_same s e =
    ap (λ t. map element_bytes (elements t)) (print_text_lem s e) ∙ ap (map element_bytes) (print_same (script_text s) (text_right s e)).same_elements

pub script_again : (s : List ℕ) → script_errors s ≡ [] → print_bytes (print_bytes s) ≡ print_bytes s
unfolding print_bytes
script_again s e = ap (λ t. encode (print_text t)) (print_text_lem s e) ∙ ap encode (print_again (script_text s) (text_right s e))

pub script_reprints : (s : List ℕ) → accepted s ≡ true → script_errors s ≡ [] → length (print_bytes s) ≤ LIMIT → Reprints s (print_bytes s)
unfolding script_errors script_closed
script_reprints s ok e fits =
    let p = print_bytes s in
    let good : accepted p ≡ true = print_accepted s fits in
    let same : script_elements p ≡ script_elements s = script_same s e in
    let again = print_same (script_text s) (text_right s e) in
    record {
      is_accepted = good;
      no_mark = print_no_mark s e;
      no_error = ap errors (print_text_lem s e) ∙ again.no_error;
      is_closed = ap closed (print_text_lem s e) ∙ again.is_closed;
      same_words =
          script_words p ∙ (ap (λ ts. words_of ts ++ (record { kind = EOF; text = [] } ∷ [])) same ∙ sym (script_words s));
      same_groups = same_continues s p ok good same;
      same_inside = same_insides s p ok good same;
      same_elements = same;
      prints_again = script_again s e;
    }

-- At most six times the script's bytes, its mark not counted.
pub script_print_size : (s : List ℕ) → accepted s ≡ true → script_errors s ≡ [] → length (print_bytes s) ≤ 6 * length (after_mark s)
unfolding print_bytes script_errors
script_print_size s ok e =
    omega (arith, encode_length (print_text (script_text s)), print_size (script_text s) e, script_size s ok)
