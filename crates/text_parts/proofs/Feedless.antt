-- A cleaned line of a doc comment has no line feed in it, nor have its bytes. Assumes nothing.
use mathlib.Core.Path.{◌≡◌, refl, sym}
use mathlib.Core.Bool.{true, false, ◌&&◌, not}
use mathlib.Core.List.{List, [], ◌∷◌, ◌++◌}
use Prim.Native.Nat.{ℕ, ◌≤◌}
use native.Mathlib.Omega.{arith}
use lib.Dec.{leb}
use lib.Seq.{slice}
use borrow.Author.Tests.{not-true, eqb-false, ne_eqb}
use Rattle.characters.specs.Choice.{◌is◌}
use Rattle.characters.specs.Space.{is_white}
use Rattle.characters.specs.Utf8.{encode_char, encode, chars_at}
use Rattle.characters.proofs.Choice.{if_all, or_neither}
use Rattle.rules.specs.Text.{Char, Text, ch, LF, one_of, is_empty}
use Rattle.rules.specs.Scan.{Part, run}
use Rattle.rules.specs.Docs.{trim_start, trim_end, trim, strip_stars, clean_line}
use Rattle.doc_lines.specs.Lines.{in_line, LineAt}
use Rattle.doc_lines.specs.declared.Line.{Line}

abbrev NoFeed : Text → Type 0
NoFeed t = one_of t LF ≡ false

-- ── Lists ──

none_cons : (c : Char) (t : Text) → (LF is c) ≡ false → NoFeed t → NoFeed (c ∷ t)
unfolding one_of
none_cons c t e h = rw (e, h)

none_parts : (c : Char) (t : Text) → NoFeed (c ∷ t) → ((LF is c) ≡ false) × NoFeed t
unfolding one_of
none_parts c t h = or_neither (LF is c) (one_of t LF) h

none_nil : NoFeed []
unfolding one_of
none_nil = refl

none_append : (a b : Text) → NoFeed a → NoFeed b → NoFeed (a ++ b)
none_append [] b h k = k
none_append (c ∷ a) b h k = let p = none_parts c a h in none_cons c (a ++ b) p.0 (none_append a b p.1 k)

-- ── A cleaned line ──

none_start : (t : Text) → NoFeed t → NoFeed (trim_start t)
unfolding trim_start
none_start [] h = h
none_start (c ∷ t) h = if_all NoFeed (is_white c) (λ _. none_start t (none_parts c t h).1) (λ _. h)

none_stars : (t : Text) → NoFeed t → NoFeed (strip_stars t)
unfolding strip_stars
none_stars [] h = h
none_stars (c ∷ t) h = if_all NoFeed (c is ch "*") (λ _. none_stars t (none_parts c t h).1) (λ _. h)

none_end : (t : Text) → NoFeed t → NoFeed (trim_end t)
unfolding trim_end
none_end [] h = h
none_end (c ∷ t) h =
    let p = none_parts c t h in
    if_all NoFeed (is_white c && is_empty (trim_end t)) (λ _. none_nil) (λ _. none_cons c (trim_end t) p.0 (none_end t p.1))

none_clean : (t : Text) → NoFeed t → NoFeed (clean_line t)
unfolding clean_line trim
none_clean t h = none_start (strip_stars (trim_end (trim_start t))) (none_stars (trim_end (trim_start t)) (none_end (trim_start t) (none_start t h)))

none_run : (cs : Text) → NoFeed (run (in_line true) cs).taken
unfolding run in_line
none_run [] = none_nil
none_run (c ∷ cs) =
    if_all (λ (y : Part). NoFeed y.taken) (not (c is LF))
    (λ e. none_cons c (run (in_line true) cs).taken (turned (not-true (c is LF) e)) (none_run cs)) (λ _. none_nil)
  where
    turned : (c is LF) ≡ false → (LF is c) ≡ false
    turned e = ne_eqb LF c (λ q. eqb-false c LF e (sym q))

-- ── Its bytes ──

high : (b : ℕ) → 0x80 ≤ b → (LF is b) ≡ false
high b h = ne_eqb LF b (λ e. omega arith)

none_char : (c : Char) → (LF is c) ≡ false → NoFeed (encode_char c)
unfolding encode_char
none_char c e =
    if_all NoFeed (leb c 0x7F) (λ _. none_cons c [] e none_nil)
    (λ _. if_all NoFeed (leb c 0x7FF) (λ _. more _ _ (omega arith) (one _ (omega arith)))
    (λ _. if_all NoFeed (leb c 0xFFFF) (λ _. more _ _ (omega arith) (more _ _ (omega arith) (one _ (omega arith))))
    (λ _. more _ _ (omega arith) (more _ _ (omega arith) (more _ _ (omega arith) (one _ (omega arith)))))))
  where
    more : (b : ℕ) (bs : List ℕ) → 0x80 ≤ b → NoFeed bs → NoFeed (b ∷ bs)
    more b bs h k = none_cons b bs (high b h) k

    one : (b : ℕ) → 0x80 ≤ b → NoFeed (b ∷ [])
    one b h = more b [] h none_nil

none_encode : (t : Text) → NoFeed t → NoFeed (encode t)
unfolding encode
none_encode [] h = h
none_encode (c ∷ t) h =
    let p = none_parts c t h in
    none_append (encode_char c) (encode t) (none_char c p.0) (none_encode t p.1)

pub line_feedless : (s : List ℕ) (at : ℕ) (l : Line) → LineAt clean_line true s at l → one_of (slice l.from l.to s) LF ≡ false
line_feedless s at l a =
    let t = (run (in_line true) (chars_at s at)).taken in
    rw a.text (none_encode (clean_line t) (none_clean t (none_run (chars_at s at))))

pub nothing_feedless : one_of [] LF ≡ false
nothing_feedless = none_nil
