-- A number's or a name's own characters, before a space or the text's end, are lexed as the same number or name.
-- Assumes nothing.
use mathlib.Core.Path.{◌≡◌, refl, ap, sym, ◌∙◌}
use mathlib.Core.Bool.{Bool, true, false, ◌&&◌, ◌||◌, not, false≢true}
use mathlib.Core.List.{[], ◌∷◌, ◌++◌, append_assoc}
use borrow.Author.Tests.{not-true}
use Rattle.characters.specs.Choice.{◌is◌, within}
use Rattle.characters.proofs.Choice.{if_all}
use Rattle.rules.specs.Text.{Char, Text, ch, text, one_of, is_digit, is_letter, is_hex_digit, is_ident_part}
use Rattle.rules.specs.Scan.{next, starts_with, Part, run, one_char, nothing, takes, ◌and_then◌}
use Rattle.rules.specs.Tables.{IntLiteral}
use Rattle.rules.specs.Segment.{whole_token, Segment}
use Rattle.rules.specs.Numbers.{is_digit_or_underscore, fraction, exponent, maybe_suffix, decimal, radix, parse_number, zero_then, hex_part, binary_part, decimal_kind}
use Rattle.rules.specs.Names.{parse_identifier_or_keyword}
use Rattle.rules.proofs.Ahead.{and_left, and_right, is_eq}
use Rattle.rules.proofs.Front.{run_splits, one_splits, number_takes}
use Rattle.prints.proofs.Facts.{and_no}
use Rattle.prints.proofs.Laid.{Follows, space, end}

abbrev pub part : Text → Text → Part
part t r = record { taken = t; left = r }

-- ── What follows ──

pub follow_next : (p : Char → Bool) → p (ch " ") ≡ false → {Y : Text} → Follows false Y → next p Y ≡ false
unfolding next
follow_next p e (space B) = e
follow_next p e end = refl

pub follow_starts : (m : Char) (ms : Text) → (ch " " is m) ≡ false → {Y : Text} → Follows false Y → starts_with (m ∷ ms) Y ≡ false
unfolding starts_with
follow_starts m ms e (space B) = rw e
follow_starts m ms e end = refl

-- All of these characters pass the test, so a character that is one of them does.
abbrev pub all_of : (Char → Bool) → Text → Bool
all_of p [] = true
all_of p (d ∷ ds) = p d && all_of p ds

pub all_of_lem : (p : Char → Bool) (ds : Text) (c : Char) → all_of p ds ≡ true → one_of ds c ≡ true → p c ≡ true
unfolding one_of
all_of_lem p [] c h e = absurd (false≢true e)
all_of_lem p (d ∷ ds) c h e = go (c is d) refl (all_of_lem p ds c (and_right (p d) (all_of p ds) h)) e
  where
    go : (b : Bool) → (c is d) ≡ b → (one_of ds c ≡ true → p c ≡ true) → (b || one_of ds c) ≡ true → p c ≡ true
    go true q ih e' = rw (is_eq c d q) (and_left (p d) (all_of p ds) h)
    go false q ih e' = ih e'

-- The same for a test that none of them passes.
abbrev pub none_of : (Char → Bool) → Text → Bool
none_of p ds = all_of (λ c. not (p c)) ds

pub none_of_lem : (p : Char → Bool) (ds : Text) (c : Char) → none_of p ds ≡ true → one_of ds c ≡ true → p c ≡ false
none_of_lem p ds c h e = not-true (p c) (all_of_lem (λ c. not (p c)) ds c h e)

pub next_keeps : (p : Char → Bool) (t r Y : Text) → next p (t ++ r) ≡ false → next p Y ≡ false → next p (t ++ Y) ≡ false
unfolding next
next_keeps p [] r Y e f = f
next_keeps p (c ∷ t) r Y e f = e

-- ── Runs and single characters ──

run_none : (p : Char → Bool) (Z : Text) → next p Z ≡ false → run p Z ≡ nothing Z
unfolding run next
run_none p [] e = refl
run_none p (c ∷ Z) e = rw e

pub run_again : (p : Char → Bool) (cs Z : Text) → next p Z ≡ false → run p ((run p cs).taken ++ Z) ≡ part (run p cs).taken Z
unfolding run
run_again p [] Z e = run_none p Z e
run_again p (c ∷ cs) Z e =
    if_all (λ (a : Part). run p (a.taken ++ Z) ≡ part a.taken Z) (p c)
    (λ q. rw q (ap (takes c) (run_again p cs Z e))) (λ _. run_none p Z e)

run_left : (p : Char → Bool) (cs : Text) → next p (run p cs).left ≡ false
unfolding run next
run_left p [] = refl
run_left p (c ∷ cs) = if_all (λ (a : Part). next p a.left ≡ false) (p c) (λ _. run_left p cs) (λ q. q)

one_none : (p : Char → Bool) (Z : Text) → next p Z ≡ false → one_char p Z ≡ nothing Z
unfolding one_char next
one_none p [] e = refl
one_none p (c ∷ Z) e = rw e

one_again : (p : Char → Bool) (cs Z : Text) → next p Z ≡ false → one_char p ((one_char p cs).taken ++ Z) ≡ part (one_char p cs).taken Z
unfolding one_char
one_again p [] Z e = one_none p Z e
one_again p (c ∷ cs) Z e =
    if_all (λ (a : Part). one_char p (a.taken ++ Z) ≡ part a.taken Z) (p c) (λ q. rw q) (λ _. one_none p Z e)

one_next : (p : Char → Bool) (ds : Text) → none_of p ds ≡ true → (cs Z : Text) → next p Z ≡ false → next p ((one_char (one_of ds) cs).taken ++ Z) ≡ false
unfolding one_char next
one_next p ds h [] Z e = e
one_next p ds h (c ∷ cs) Z e =
    if_all (λ (a : Part). next p (a.taken ++ Z) ≡ false) (one_of ds c) (λ q. none_of_lem p ds c h q) (λ _. e)

-- ── The parts of a number ──

exponent_next : (p : Char → Bool) → none_of p (text "eE") ≡ true → (cs Z : Text) → next p Z ≡ false → next p ((exponent cs).taken ++ Z) ≡ false
unfolding exponent next
exponent_next p h [] Z e = e
exponent_next p h (c ∷ cs) Z e =
    if_all (λ (a : Part). next p (a.taken ++ Z) ≡ false) (one_of (text "eE") c) (λ q. none_of_lem p (text "eE") c h q) (λ _. e)

fraction_next : (p : Char → Bool) → p (ch ".") ≡ false → (cs Z : Text) → next p Z ≡ false → next p ((fraction cs).taken ++ Z) ≡ false
unfolding fraction next
fraction_next p h [] Z e = e
fraction_next p h (c ∷ cs) Z e =
    if_all (λ (a : Part). next p (a.taken ++ Z) ≡ false) (c is ch "." && next is_digit cs)
    (λ q. rw (is_eq c (ch ".") (and_left (c is ch ".") (next is_digit cs) q)) h) (λ _. e)

sign_again : (cs Z : Text) → next (one_of (text "+-")) Z ≡ false → next is_digit Z ≡ false
    → (one_char (one_of (text "+-")) and_then run is_digit) (((one_char (one_of (text "+-")) and_then run is_digit) cs).taken ++ Z)
    ≡ part ((one_char (one_of (text "+-")) and_then run is_digit) cs).taken Z
unfolding one_char run
sign_again [] Z e f = rw (one_none (one_of (text "+-")) Z e, run_none is_digit Z f)
sign_again (c ∷ cs) Z e f =
    let s = one_of (text "+-") in
    if_all (λ (a : Part). (one_char s and_then run is_digit) ((a.taken ++ (run is_digit a.left).taken) ++ Z) ≡ part (a.taken ++ (run is_digit a.left).taken) Z) (s c)
    (λ q. rw (q, run_again is_digit cs Z f))
    (λ q. let t = (run is_digit (c ∷ cs)).taken in
    let none : one_char s (t ++ Z) ≡ nothing (t ++ Z) = one_none s (t ++ Z) (next_keeps s t (run is_digit (c ∷ cs)).left Z (rw (run_splits is_digit (c ∷ cs)) (first_is s q)) e) in
    rw (none, run_again is_digit (c ∷ cs) Z f))
  where
    first_is : (p : Char → Bool) → p c ≡ false → next p (c ∷ cs) ≡ false
    first_is p q = unfold next in q

exponent_none : (Z : Text) → next (one_of (text "eE")) Z ≡ false → exponent Z ≡ nothing Z
unfolding exponent next
exponent_none [] e = refl
exponent_none (c ∷ Z) e = rw e

exponent_again : (cs Z : Text) → next (one_of (text "eE")) Z ≡ false → next (one_of (text "+-")) Z ≡ false → next is_digit Z ≡ false
    → exponent ((exponent cs).taken ++ Z) ≡ part (exponent cs).taken Z
unfolding exponent
exponent_again [] Z e f g = exponent_none Z e
exponent_again (c ∷ cs) Z e f g =
    if_all (λ (a : Part). exponent (a.taken ++ Z) ≡ part a.taken Z) (one_of (text "eE") c)
    (λ q. rw q (ap (takes c) (sign_again cs Z f g))) (λ _. exponent_none Z e)

fraction_none : (Z : Text) → next (λ c. c is ch ".") Z ≡ false → fraction Z ≡ nothing Z
unfolding fraction next
fraction_none [] e = refl
fraction_none (c ∷ Z) e = rw e

digit_runs : (d : Char) → is_digit d ≡ true → is_digit_or_underscore d ≡ true
unfolding is_digit_or_underscore
digit_runs d e = rw e

run_next : (cs Z : Text) → next is_digit cs ≡ true → next is_digit ((run is_digit_or_underscore cs).taken ++ Z) ≡ true
unfolding next run
run_next [] Z e = absurd (false≢true e)
run_next (c ∷ cs) Z e = rw (digit_runs c e) e

fraction_again : (cs Z : Text) → next (λ c. c is ch ".") Z ≡ false → next is_digit_or_underscore Z ≡ false
    → fraction ((fraction cs).taken ++ Z) ≡ part (fraction cs).taken Z
unfolding fraction
fraction_again [] Z e f = fraction_none Z e
fraction_again (c ∷ cs) Z e f =
    if_all (λ (a : Part). fraction (a.taken ++ Z) ≡ part a.taken Z) (c is ch "." && next is_digit cs)
    (λ q. rw (and_left (c is ch ".") (next is_digit cs) q, run_next cs Z (and_right (c is ch ".") (next is_digit cs) q)) (ap (takes c) (run_again is_digit_or_underscore cs Z f)))
    (λ _. fraction_none Z e)

-- ── Numbers ──

abbrev SUFFIX : Text
SUFFIX = text "LlfFdDuU"

decimal_again : (cs Y : Text) → Follows false Y → decimal ((decimal cs).chars ++ Y) ≡ decimal cs
unfolding decimal decimal_kind is_digit_or_underscore is_digit one_of within
decimal_again cs Y h =
    let whole = run is_digit_or_underscore cs in
    let frac = fraction whole.left in
    let exp = exponent frac.left in
    let suffix = maybe_suffix exp.left in
    let Z₃ = suffix.taken ++ Y in
    let Z₂ = exp.taken ++ Z₃ in
    let Z₁ = frac.taken ++ Z₂ in
    let suffix-next : (p : Char → Bool) → none_of p SUFFIX ≡ true → p (ch " ") ≡ false → next p Z₃ ≡ false
    = λ p a b. one_next p SUFFIX a exp.left Y (follow_next p b h) in
    let exp-next : (p : Char → Bool) → none_of p SUFFIX ≡ true → p (ch " ") ≡ false → none_of p (text "eE") ≡ true → next p Z₂ ≡ false
    = λ p a b c. exponent_next p c frac.left Z₃ (suffix-next p a b) in
    let shape : (whole.taken ++ (frac.taken ++ (exp.taken ++ suffix.taken))) ++ Y ≡ whole.taken ++ Z₁
    = simp append_assoc in
    rw (
      shape,
      run_again is_digit_or_underscore cs Z₁ (fraction_next is_digit_or_underscore refl whole.left Z₂ (exp-next is_digit_or_underscore refl refl refl)),
      fraction_again whole.left Z₂ (exp-next (λ c. c is ch ".") refl refl refl) (exp-next is_digit_or_underscore refl refl refl),
      exponent_again frac.left Z₃ (suffix-next (one_of (text "eE")) refl refl) (suffix-next (one_of (text "+-")) refl refl) (suffix-next is_digit refl refl),
      one_again (one_of SUFFIX) exp.left Y (follow_next (one_of SUFFIX) refl h),
    )

radix_is : (p : Char → Bool) (x : Char) → one_of (text "xXbB") x ≡ true → (cs : Text)
    → radix p (ch "0" ∷ x ∷ cs) ≡ whole_token IntLiteral (ch "0" ∷ x ∷ ((run p and_then maybe_suffix) cs).taken)
unfolding radix one_char one_of
radix_is p x e cs = rw e

radix_again : (p : Char → Bool) (x : Char) → one_of (text "xXbB") x ≡ true → p (ch " ") ≡ false → (cs Y : Text) → Follows false Y
    → radix p ((radix p (ch "0" ∷ x ∷ cs)).chars ++ Y) ≡ radix p (ch "0" ∷ x ∷ cs)
unfolding one_of
radix_again p x e q cs Y h =
    let digits = run p cs in
    let suffix = maybe_suffix digits.left in
    let shape : (digits.taken ++ suffix.taken) ++ Y ≡ digits.taken ++ (suffix.taken ++ Y) = append_assoc digits.taken suffix.taken Y in
    let stops : next p (suffix.taken ++ Y) ≡ false
    = next_keeps p suffix.taken suffix.left Y (rw (one_splits (one_of SUFFIX) digits.left) (run_left p cs)) (follow_next p q h) in
    rw (
      radix_is p x e cs,
      radix_is p x e ((digits.taken ++ suffix.taken) ++ Y),
      shape,
      run_again p cs (suffix.taken ++ Y) stops,
      one_again (one_of SUFFIX) digits.left Y (follow_next (one_of SUFFIX) refl h),
    )

abbrev NumberAgain : Text → Type 0
NumberAgain cs = (Y : Text) → Follows false Y → parse_number ((parse_number cs).chars ++ Y) ≡ parse_number cs

-- A zero, one_char of the letters, and digits that pass the test `p`.
radix_number : (letters : Text) (p : Char → Bool) → all_of (one_of (text "xXbB")) letters ≡ true → p (ch " ") ≡ false
    → ((x : Char) → one_of letters x ≡ true → (cs : Text) → parse_number (ch "0" ∷ x ∷ cs) ≡ radix p (ch "0" ∷ x ∷ cs))
    → (c : Char) (cs : Text) → zero_then letters (c ∷ cs) ≡ true → NumberAgain (c ∷ cs)
unfolding zero_then next
radix_number letters p a q f c [] t = absurd (false≢true (and_right (c is ch "0") false t))
radix_number letters p a q f c (x ∷ r) t =
    let l : one_of letters x ≡ true = and_right (c is ch "0") (one_of letters x) t in
    let e : one_of (text "xXbB") x ≡ true = all_of_lem (one_of (text "xXbB")) letters x a l in
    rw (is_eq c (ch "0") (and_left (c is ch "0") (one_of letters x) t)) (λ Y h.
    rw (f x l r, radix_is p x e r, f x l (((run p and_then maybe_suffix) r).taken ++ Y)) (rw (radix_is p x e r) at (radix_again p x e q r Y h)))

hex_number : (x : Char) → one_of (text "xX") x ≡ true → (cs : Text) → parse_number (ch "0" ∷ x ∷ cs) ≡ radix hex_part (ch "0" ∷ x ∷ cs)
unfolding parse_number zero_then next
hex_number x e cs = rw e

binary_number : (x : Char) → one_of (text "bB") x ≡ true → (cs : Text) → parse_number (ch "0" ∷ x ∷ cs) ≡ radix binary_part (ch "0" ∷ x ∷ cs)
unfolding parse_number zero_then next one_of
binary_number x e cs = rw (none_of_lem (one_of (text "xX")) (text "bB") x refl e, e)

-- What was no `0x` is none with the rest cut off.
zero_keeps : (letters : Text) (c : Char) (t r Y : Text) → zero_then letters (c ∷ (t ++ r)) ≡ false → next (one_of letters) Y ≡ false
    → zero_then letters (c ∷ (t ++ Y)) ≡ false
unfolding zero_then next
zero_keeps letters c [] r Y e f = rw f (and_no (c is ch "0"))
zero_keeps letters c (d ∷ t) r Y e f = e

number_decimal : (cs : Text) → zero_then (text "xX") cs ≡ false → zero_then (text "bB") cs ≡ false → parse_number cs ≡ decimal cs
unfolding parse_number
number_decimal cs e₁ e₂ = rw (e₁, e₂)

decimal_number : (c : Char) (cs : Text) → is_digit c ≡ true → zero_then (text "xX") (c ∷ cs) ≡ false → zero_then (text "bB") (c ∷ cs) ≡ false
    → NumberAgain (c ∷ cs)
unfolding one_of
decimal_number c cs d e₁ e₂ Y h =
    let t = number_takes c cs d in
    let q : parse_number (c ∷ cs) ≡ decimal (c ∷ cs) = number_decimal (c ∷ cs) e₁ e₂ in
    let took : (decimal (c ∷ cs)).chars ≡ c ∷ t.more = ap (λ (s : Segment). s.chars) (sym q) ∙ t.took in
    let keeps : (letters : Text) → one_of letters (ch " ") ≡ false → zero_then letters (c ∷ cs) ≡ false → zero_then letters ((decimal (c ∷ cs)).chars ++ Y) ≡ false
    = λ letters n e. rw took (zero_keeps letters c t.more t.rest Y (rw t.split e) (follow_next (one_of letters) n h)) in
    rw (q, number_decimal ((decimal (c ∷ cs)).chars ++ Y) (keeps (text "xX") refl e₁) (keeps (text "bB") refl e₂)) (decimal_again (c ∷ cs) Y h)

pub number_again : (c : Char) (cs : Text) → is_digit c ≡ true → NumberAgain (c ∷ cs)
unfolding hex_part binary_part is_hex_digit is_digit one_of within
number_again c cs d = go (zero_then (text "xX") (c ∷ cs)) (zero_then (text "bB") (c ∷ cs)) refl refl
  where
    go : (a b : Bool) → zero_then (text "xX") (c ∷ cs) ≡ a → zero_then (text "bB") (c ∷ cs) ≡ b → NumberAgain (c ∷ cs)
    go true b e₁ e₂ = radix_number (text "xX") hex_part refl refl hex_number c cs e₁
    go false true e₁ e₂ = radix_number (text "bB") binary_part refl refl binary_number c cs e₂
    go false false e₁ e₂ = decimal_number c cs d e₁ e₂

-- ── Names ──

pub name_again : (cs Y : Text) → Follows false Y → parse_identifier_or_keyword ((parse_identifier_or_keyword cs).chars ++ Y) ≡ parse_identifier_or_keyword cs
unfolding parse_identifier_or_keyword is_ident_part is_letter is_digit within
name_again cs Y h = rw (run_again is_ident_part cs Y (follow_next is_ident_part refl h))
