-- The units of a string: a run of them is one step of what is left. Assumes nothing.
use Rattle.std.specs.Prelude.{if◌then◌else◌}
use mathlib.Core.Path.{◌≡◌, refl, sym, ap, ◌∙◌}
use mathlib.Core.Bool.{Bool, true, false, not, false≢true}
use mathlib.Core.List.{List, [], ◌∷◌, ◌++◌, map, append_assoc, append-nil}
use mathlib.Core.Option.{Option, none, some}
use Prim.Native.Nat.{ℕ, zero, suc, ◌+◌, ◌≤◌, zero-le}
use native.Mathlib.Omega.{arith}
use lib.ListN.{length, take, drop, length-append, take-append-drop}
use lib.Seq.{drop-append_seam, take-append_seam, length-take-le}
use lib.Dec.{leb}
use borrow.Author.Tests.{leb-true, not-true}
use Rattle.characters.specs.Choice.{◌is◌}
use Rattle.characters.specs.Utf8.{width, bytes}
use Rattle.characters.proofs.Texts.{bytes_append}
use Rattle.characters.proofs.Choice.{if_all}
use Rattle.spans.specs.declared.Position.{Position}
use Rattle.rules.specs.Text.{Char, Text, ch, LF}
use Rattle.rules.specs.Scan.{next}
use Rattle.rules.specs.Tokens.{TokenizeError}
use Rattle.rules.specs.Tables.{ESCAPES, lookup}
use Rattle.rules.specs.Segment.{Fault, string, Segment, skipped}
use Rattle.rules.specs.Strings.{Escape, hex_code, unicode_escape, plain_escape, escape, before, on, other_escape, is_interp_start, string_escape, string_dollar, turn, string_from, string_ran_out}
use Rattle.rules.specs.Lexer.{size_behind_first, advance, advances, span, errors_of}
use Rattle.rules.proofs.Ahead.{is_eq}
use Rattle.rules.proofs.Kept.{escape_fits}
use Rattle.rules.proofs.Bounds.{escape_one, errors_length}
use Rattle.rules.proofs.Sources.{all_rows, found_right}
use Rattle.rules.proofs.Sizes.{width_low, chars_few, char_bytes}
use Rattle.cursor.specs.Strings.{StringUnit, plain_unit, escape_unit, unit_of, stands, unit_errors, made_from, units_made, errors_from, units_errors, ahead_from, units_ahead}
use Rattle.cursor.specs.Cursor.{place_from, tokens_from, faults_from, and_then, held}
use Rattle.cursor.proofs.Inside.{taking, string_turn, later_from, later_fault, escape_later, other_later, advances_append, then_join, held_step}

-- ── The errors of a unit stand behind its first character ──

abbrev Near : List Fault → Type 0
Near [] = Unit
Near (f ∷ fs) = (f.from ≡ 1) × (f.to ≡ 1) × Near fs

-- The error that a fault records, at one place.
abbrev error_at : Fault → Position → TokenizeError
error_at f at = record { kind = f.kind; span = span at at; char = f.char }

errors_near : (start p : Position) (c : Char) (t u : Text) (s : Segment) (fs : List Fault) → s.chars ≡ c ∷ t → Near fs
    → faults_from start p (c ∷ (t ++ u)) (map (later_fault 1) fs) ≡ errors_of p s fs
unfolding faults_from place_from later_from errors_of
errors_near start p c t u s [] e h = refl
errors_near start p c t u s (f ∷ fs) e h =
    rw (h.0, h.1, errors_near start p c t u s fs e h.2)
    (ap (λ (x : Text). error_at f (advances p (take 1 x)) ∷ errors_of p s fs) (sym e))

unicode_near : (o : Option ℕ) → Near (unicode_escape 1 o).faults
unfolding unicode_escape
unicode_near none = (refl, refl, tt)
unicode_near (some n) = tt

plain_near : (e : Char) (o : Option Char) → Near (plain_escape (other_escape 1 e) o).faults
unfolding plain_escape other_escape
plain_near e none = (refl, refl, tt)
plain_near e (some d) = tt

escape_near : (e : Char) (cs : Text) → Near (escape 1 (other_escape 1 e) e cs).faults
unfolding escape
escape_near e cs =
    if_all (λ (x : Escape). Near x.faults) (e is ch "u") (λ _. unicode_near (hex_code 4 0 cs)) (λ _. plain_near e (lookup e ESCAPES))

unit_near : (cs : Text) → Near (unit_of cs).faults
unfolding unit_of escape_unit plain_unit
unit_near [] = tt
unit_near (c ∷ cs) = if_all (λ (u : StringUnit). Near u.faults) (c is ch "\\") (λ _. esc cs) (λ _. tt)
  where
    esc : (cs : Text) → Near (escape_unit cs).faults
    esc [] = tt
    esc (e ∷ cs) = escape_near e cs

-- ── The turn at a unit ──

plain_turn : (buf : Text) (x : Bool) (c : Char) (cs : Text) → (c is ch "\\") ≡ false → stands (c ∷ cs) ≡ true
    → turn 1 buf x c cs ≡ on [] [] false 0 (buf ++ (c ∷ [])) x
unfolding stands turn string_dollar
plain_turn buf x c cs n h = go (c is LF) (c is ch "\"") (c is ch "$") refl refl refl h
  where
    go : (a b d : Bool) → (c is LF) ≡ a → (c is ch "\"") ≡ b → (c is ch "$") ≡ d → stands (c ∷ cs) ≡ true
        → turn 1 buf x c cs ≡ on [] [] false 0 (buf ++ (c ∷ [])) x
    go true b d p q r h = absurd (false≢true (rw p at h))
    go false true d p q r h = absurd (false≢true (rw (p, q) at h))
    go false false true p q r h =
        let o : not (next is_interp_start cs) ≡ true = rw (p, q, r) at h in
        rw (p, q, n, r, not-true (next is_interp_start cs) o) (rw (is_eq c (ch "$") r))
    go false false false p q r h = rw (p, q, n, r)

-- What a unit does: it stands in front of `rest`, and what it makes is held back.
abbrev Does : Text → Bool → Text → StringUnit → Text → Type 0
Does buf x cs u rest =
    (cs ≡ u.chars ++ rest)
    × (string_from 0 1 buf x cs ≡ taking u.chars (before [] (map (later_fault 1) u.faults) false (string_from 0 (1 + length u.chars) (buf ++ u.made) x rest)))

plain_does : (buf : Text) (x : Bool) (c : Char) (cs : Text) → (c is ch "\\") ≡ false → stands (c ∷ cs) ≡ true → Does buf x (c ∷ cs) (plain_unit c) cs
unfolding plain_unit
plain_does buf x c cs n h = (refl, string_turn 1 buf x c cs [] [] false 0 (buf ++ (c ∷ [])) x (plain_turn buf x c cs n h) (omega arith))

ran_does : (buf : Text) (x : Bool) → Does buf x (ch "\\" ∷ []) (escape_unit []) []
unfolding escape_unit string_from turn string_escape string_ran_out
ran_does buf x = (refl, rw (append-nil buf))

other_extra : (e : Char) (cs : Text) → (other_escape 1 e).extra ≤ length cs
unfolding other_escape
other_extra e cs = zero-le

other_one : (e : Char) → length (other_escape 1 e).faults ≤ 1
unfolding other_escape
other_one e = omega arith

escape_turn : (buf : Text) (x : Bool) (e : Char) (cs : Text)
    → turn 1 buf x (ch "\\") (e ∷ cs)
    ≡ on [] (map (later_fault 1) (escape 1 (other_escape 1 e) e cs).faults) false (suc (escape 1 (other_escape 1 e) e cs).extra) (buf ++ (escape 1 (other_escape 1 e) e cs).text) x
unfolding turn string_escape
escape_turn buf x e cs =
    ap (λ (y : Escape). on [] y.faults false (suc y.extra) (buf ++ y.text) x)
    (escape_later 1 0 (other_escape 1 e) (other_escape 2 e) e cs (other_later 1 0 e))

escape_does : (buf : Text) (x : Bool) (e : Char) (cs : Text)
    → Does buf x (ch "\\" ∷ e ∷ cs) (escape_unit (e ∷ cs)) (drop (escape 1 (other_escape 1 e) e cs).extra cs)
unfolding escape_unit
escape_does buf x e cs =
    let y = escape 1 (other_escape 1 e) e cs in
    let f : y.extra ≤ length cs = escape_fits 1 (other_escape 1 e) e cs (other_extra e cs) in
    let l : length (take y.extra cs) ≡ y.extra = length-take-le y.extra cs f in
    let n : 1 + suc (suc (length (take y.extra cs))) ≡ 2 + suc y.extra = omega arith in (
      ap (λ t. ch "\\" ∷ e ∷ t) (sym (take-append-drop y.extra cs)),
      string_turn 1 buf x (ch "\\") (e ∷ cs) [] (map (later_fault 1) y.faults) false (suc y.extra) (buf ++ y.text) x (escape_turn buf x e cs) (omega arith)
          ∙ ap (λ (i : ℕ). taking (ch "\\" ∷ e ∷ take y.extra cs) (before [] (map (later_fault 1) y.faults) false (string_from 0 i (buf ++ y.text) x (drop y.extra cs)))) (sym n),
    )

unit_does : (buf : Text) (x : Bool) (cs : Text) → stands cs ≡ true → (rest : Text) × Does buf x cs (unit_of cs) rest
unfolding stands unit_of
unit_does buf x [] h = absurd (false≢true h)
unit_does buf x (c ∷ cs) h = go (c is ch "\\") refl
  where
    go : (b : Bool) → (c is ch "\\") ≡ b → (rest : Text) × Does buf x (c ∷ cs) (if b then escape_unit cs else plain_unit c) rest
    go true e = rw (is_eq c (ch "\\") e) (esc cs)
      where
        esc : (cs : Text) → (rest : Text) × Does buf x (ch "\\" ∷ cs) (escape_unit cs) rest
        esc [] = ([], ran_does buf x)
        esc (e ∷ cs) = (_, escape_does buf x e cs)
    go false e = (cs, plain_does buf x c cs e h)

-- ── Where a unit stands ──

-- A unit takes the first character, and its characters are the text's.
pub unit_first : (c : Char) (cs : Text) → (t : Text) × ((unit_of (c ∷ cs)).chars ≡ c ∷ t)
unfolding unit_of escape_unit plain_unit
unit_first c cs =
    if_all (λ (u : StringUnit). (t : Text) × (u.chars ≡ c ∷ t)) (c is ch "\\") (λ e. rw (is_eq c (ch "\\") e) (esc cs)) (λ _. ([], refl))
  where
    esc : (cs : Text) → (t : Text) × ((escape_unit cs).chars ≡ ch "\\" ∷ t)
    esc [] = (_, refl)
    esc (e ∷ cs) = (_, refl)

pub unit_splits : (cs : Text) → stands cs ≡ true → cs ≡ (unit_of cs).chars ++ drop (length (unit_of cs).chars) cs
unit_splits cs h =
    let (r, (e, _)) = unit_does [] false cs h in
    e ∙ ap (λ (t : Text). (unit_of cs).chars ++ t) (sym (drop-append_seam (unit_of cs).chars r) ∙ ap (drop (length (unit_of cs).chars)) (sym e))

pub stands_cons : (cs : Text) → stands cs ≡ true → (c : Char) × (ds : Text) × (cs ≡ c ∷ ds)
unfolding stands
stands_cons [] h = absurd (false≢true h)
stands_cons (c ∷ cs) h = (c, cs, refl)

-- ── One unit of the string ──

none_tokens : (start p : Position) (t : Text) → tokens_from start p t [] ≡ []
unfolding tokens_from
none_tokens start p t = refl

errors_unit : (start p : Position) (c : Char) (t u : Text) (x : StringUnit) → x.chars ≡ c ∷ t → Near x.faults
    → faults_from start p (x.chars ++ u) (map (later_fault 1) x.faults) ≡ unit_errors p x
unfolding unit_errors
errors_unit start p c t u x e n =
    ap (λ (l : Text). faults_from start p (l ++ u) (map (later_fault 1) x.faults)) e
    ∙ errors_near start p c t u (skipped string x.chars x.faults false) x.faults e n

-- The one error of a unit stands behind its first character.
pub unit_error : (p : Position) (c : Char) (t : Text) (u : StringUnit) (k : ℕ) (o : Option Char)
    → u.chars ≡ c ∷ t → u.faults ≡ record { kind = k; from = 1; to = 1; char = o } ∷ []
    → unit_errors p u ≡ record { kind = k; span = span (advance p c) (advance p c); char = o } ∷ []
unfolding unit_errors errors_of advances
unit_error p c t u k o e f = rw (f, e)

-- One unit is one step of what is left: its errors come out, and what it makes is held back.
pub unit_step : (x : Bool) (start p : Position) (buf cs rest : Text) → stands cs ≡ true → cs ≡ (unit_of cs).chars ++ rest
    → held x start p buf cs ≡ and_then [] (unit_errors p (unit_of cs)) false (held x start (advances p (unit_of cs).chars) (buf ++ (unit_of cs).made) rest)
unit_step x start p buf [] rest h q = absurd (let (c, ds, e) = stands_cons [] h in let z : ◌≡◌ {A = ℕ} 0 1 = cc in omega arith)
unit_step x start p buf (c ∷ cs) rest h q = go (unit_of (c ∷ cs)) (unit_first c cs) (unit_near (c ∷ cs)) (unit_does buf x (c ∷ cs) h) q
  where
    go : (b : StringUnit) → ((t : Text) × (b.chars ≡ c ∷ t)) → Near b.faults → ((r : Text) × Does buf x (c ∷ cs) b r) → c ∷ cs ≡ b.chars ++ rest
        → held x start p buf (c ∷ cs) ≡ and_then [] (unit_errors p b) false (held x start (advances p b.chars) (buf ++ b.made) rest)
    go b (t, e) near (r, (s, d)) q =
        let same : r ≡ rest = sym (drop-append_seam b.chars r) ∙ (ap (drop (length b.chars)) (sym s ∙ q) ∙ drop-append_seam b.chars rest) in
        let d₁ : string_from 0 1 buf x (b.chars ++ rest)
        ≡ taking b.chars (before [] (map (later_fault 1) b.faults) false (string_from 0 (1 + length b.chars) (buf ++ b.made) x rest)) = rw (same, q) at d in
        let w = held_step x x start p buf (buf ++ b.made) b.chars rest [] (map (later_fault 1) b.faults) false d₁ in
        let n = (string_from 0 1 (buf ++ b.made) x rest).chars in
        rw q (w ∙ rw (errors_unit start p c t n b e near, none_tokens start p (b.chars ++ n)))

-- ── The units of a part ──

made_skip : (k n j : ℕ) (cs : Text) → k ≤ length cs → n ≡ k + j → made_from k n cs ≡ made_from 0 j (drop k cs)
unfolding made_from
made_skip zero n j cs h e = let z : n ≡ j = omega arith in rw z
made_skip (suc k) n j [] h e = absurd (omega arith)
made_skip (suc k) zero j (c ∷ cs) h e = absurd (omega arith)
made_skip (suc k) (suc n) j (c ∷ cs) h e = made_skip k n j cs (omega arith) (omega arith)

errors_skip : (k n j : ℕ) (p : Position) (cs : Text) → k ≤ length cs → n ≡ k + j
    → errors_from k n p cs ≡ errors_from 0 j (advances p (take k cs)) (drop k cs)
unfolding errors_from advances
errors_skip zero n j p cs h e = let z : n ≡ j = omega arith in rw z
errors_skip (suc k) n j p [] h e = absurd (omega arith)
errors_skip (suc k) zero j p (c ∷ cs) h e = absurd (omega arith)
errors_skip (suc k) (suc n) j p (c ∷ cs) h e = errors_skip k n j (advance p c) cs (omega arith) (omega arith)

ahead_skip : (k : ℕ) (cs : Text) → k ≤ length cs → ahead_from k cs ≡ k + ahead_from 0 (drop k cs)
unfolding ahead_from
ahead_skip zero cs h = omega arith
ahead_skip (suc k) [] h = absurd (omega arith)
ahead_skip (suc k) (c ∷ cs) h = let ih = ahead_skip k cs (omega arith) in omega arith

-- One unit in front, and those of the next `j` characters behind it.
module _ (c : Char) (cs t rest : Text) (first_is : (unit_of (c ∷ cs)).chars ≡ c ∷ t) (split : cs ≡ t ++ rest) where
  abbrev u : StringUnit
  u = unit_of (c ∷ cs)

  size : size_behind_first u.chars ≡ length t
  size = rw first_is

  fits : length t ≤ length cs
  fits = omega (arith, ap length split, length-append t rest)

  dropped : drop (length t) cs ≡ rest
  dropped = ap (drop (length t)) split ∙ drop-append_seam t rest

  taken : take (length t) cs ≡ t
  taken = ap (take (length t)) split ∙ take-append_seam t rest

  made_first : (j n : ℕ) → n ≡ length u.chars + j → units_made n (c ∷ cs) ≡ u.made ++ units_made j rest
  unfolding units_made made_from
  made_first j zero e = absurd (omega (arith, ap length first_is))
  made_first j (suc n) e =
      let m : n ≡ length t + j = omega (arith, ap length first_is) in
      rw size (ap (λ (l : Text). u.made ++ l) (made_skip (length t) n j cs fits m ∙ ap (made_from 0 j) dropped))

  errors_first : (j n : ℕ) (p : Position) → n ≡ length u.chars + j
      → units_errors n p (c ∷ cs) ≡ unit_errors p u ++ units_errors j (advances p u.chars) rest
  unfolding units_errors errors_from advances
  errors_first j zero p e = absurd (omega (arith, ap length first_is))
  errors_first j (suc n) p e =
      let m : n ≡ length t + j = omega (arith, ap length first_is) in
      let a : advances (advance p c) t ≡ advances p u.chars = rw first_is in
      rw size (ap (λ (l : List TokenizeError). unit_errors p u ++ l)
      (errors_skip (length t) n j (advance p c) cs fits m ∙ rw (taken, dropped, a)))

  ahead_first : stands (c ∷ cs) ≡ true → units_ahead (c ∷ cs) ≡ length u.chars + units_ahead rest
  unfolding units_ahead ahead_from
  ahead_first h =
      let k = ahead_skip (length t) cs fits in
      rw (h, size) (omega (arith, k, ap length first_is, ap (ahead_from 0) dropped))

-- ── The size of a unit ──

-- An escape makes no more bytes than it has, and has one error at most.
escape_small : (e : Char) (cs : Text) → bytes (escape 1 (other_escape 1 e) e cs).text ≤ 1 + width e + (escape 1 (other_escape 1 e) e cs).extra
unfolding escape unicode_escape plain_escape other_escape bytes width ESCAPES all_rows
escape_small e cs =
    if_all (λ (x : Escape). bytes x.text ≤ 1 + width e + x.extra) (e is ch "u") (λ _. uni (hex_code 4 0 cs)) (λ _. plain (lookup e ESCAPES) refl)
  where
    uni : (o : Option ℕ) → bytes (unicode_escape 1 o).text ≤ 1 + width e + (unicode_escape 1 o).extra
    uni none = zero-le
    uni (some v) = omega (arith, char_bytes v)

    plain : (o : Option Char) → lookup e ESCAPES ≡ o
        → bytes (plain_escape (other_escape 1 e) o).text ≤ 1 + width e + (plain_escape (other_escape 1 e) o).extra
    plain none q = omega arith
    plain (some d) q =
        let h : leb (width d) 2 ≡ true = found_right (λ e v. leb (width v) 2) e ESCAPES d refl q in
        omega (arith, leb-true (width d) 2 h, width_low e)

unit_small : (cs : Text) → bytes (unit_of cs).made ≤ bytes (unit_of cs).chars
unfolding unit_of escape_unit plain_unit bytes
unit_small [] = zero-le
unit_small (c ∷ cs) = if_all (λ (u : StringUnit). bytes u.made ≤ bytes u.chars) (c is ch "\\") (λ _. esc cs) (λ _. omega arith)
  where
    esc : (cs : Text) → bytes (escape_unit cs).made ≤ bytes (escape_unit cs).chars
    esc [] = zero-le
    esc (e ∷ cs) =
        let y = escape 1 (other_escape 1 e) e cs in
        let l : length (take y.extra cs) ≡ y.extra = length-take-le y.extra cs (escape_fits 1 (other_escape 1 e) e cs (other_extra e cs)) in
        omega (arith, escape_small e cs, chars_few (take y.extra cs), width_low (ch "\\"))

unit_few : (p : Position) (cs : Text) → length (unit_errors p (unit_of cs)) ≤ 1
unfolding unit_errors unit_of escape_unit plain_unit
unit_few p cs = omega (arith, errors_length p (skipped string (unit_of cs).chars (unit_of cs).faults false) (unit_of cs).faults, faults cs)
  where
    esc : (cs : Text) → length (escape_unit cs).faults ≤ 1
    esc [] = zero-le
    esc (e ∷ cs) = escape_one 1 (other_escape 1 e) e cs (other_one e)

    faults : (cs : Text) → length (unit_of cs).faults ≤ 1
    faults [] = zero-le
    faults (c ∷ cs) = if_all (λ (u : StringUnit). length u.faults ≤ 1) (c is ch "\\") (λ _. esc cs) (λ _. zero-le)

-- ── Whole units ──

-- The front `t` of a text `cs`, before `rest`, is a row of whole units. What they make and their errors are those of the next
-- `length t` characters of `cs`; they make no more bytes than they have, and have no more errors than characters; and they are one step
-- of what is left, which holds back what they make.
pub record Whole (cs t rest : Text) : Type 0 where
  pub split : cs ≡ t ++ rest
  pub made_more : (j : ℕ) → units_made (length t + j) cs ≡ units_made (length t) cs ++ units_made j rest
  pub errors_more : (j : ℕ) (p : Position) → units_errors (length t + j) p cs ≡ units_errors (length t) p cs ++ units_errors j (advances p t) rest
  pub ahead : units_ahead cs ≡ length t + units_ahead rest
  pub small : bytes (units_made (length t) cs) ≤ bytes t
  pub few : (p : Position) → length (units_errors (length t) p cs) ≤ length t
  pub same :
      (x : Bool) (start p : Position) (buf : Text)
      → held x start p buf cs ≡ and_then [] (units_errors (length t) p cs) false (held x start (advances p t) (buf ++ units_made (length t) cs) rest)

pub made_none : (cs : Text) → units_made 0 cs ≡ []
unfolding units_made made_from
made_none cs = refl

pub errors_none : (p : Position) (cs : Text) → units_errors 0 p cs ≡ []
unfolding units_errors errors_from
errors_none p cs = refl

pub whole_none : (cs : Text) → Whole cs [] cs
unfolding units_made made_from units_errors errors_from advances bytes
whole_none cs =
    record {
      split = refl;
      made_more = λ j. let z : 0 + j ≡ j = omega arith in rw z;
      errors_more = λ j p. let z : 0 + j ≡ j = omega arith in rw z;
      ahead = omega arith;
      small = zero-le;
      few = λ p. zero-le;
      same = λ x start p buf. rw (append-nil buf);
    }

-- One unit is whole; what it makes and its errors are its own.
module _ (cs rest : Text) (h : stands cs ≡ true) (e : cs ≡ (unit_of cs).chars ++ rest) where
  unit_facts :
      ((j n : ℕ) → n ≡ length (unit_of cs).chars + j → units_made n cs ≡ (unit_of cs).made ++ units_made j rest)
      × ((j n : ℕ) (p : Position) → n ≡ length (unit_of cs).chars + j
      → units_errors n p cs ≡ unit_errors p (unit_of cs) ++ units_errors j (advances p (unit_of cs).chars) rest)
      × (units_ahead cs ≡ length (unit_of cs).chars + units_ahead rest)
  unit_facts = go cs h e
    where
      go : (cs : Text) → stands cs ≡ true → cs ≡ (unit_of cs).chars ++ rest
          → ((j n : ℕ) → n ≡ length (unit_of cs).chars + j → units_made n cs ≡ (unit_of cs).made ++ units_made j rest)
          × ((j n : ℕ) (p : Position) → n ≡ length (unit_of cs).chars + j
          → units_errors n p cs ≡ unit_errors p (unit_of cs) ++ units_errors j (advances p (unit_of cs).chars) rest)
          × (units_ahead cs ≡ length (unit_of cs).chars + units_ahead rest)
      go [] h e = absurd (let (c, ds, q) = stands_cons [] h in let z : ◌≡◌ {A = ℕ} 0 1 = cc in omega arith)
      go (c ∷ ds) h e =
          let (t, f) = unit_first c ds in
          let s : ds ≡ t ++ rest = ap (drop 1) (e ∙ ap (λ (l : Text). l ++ rest) f) in
          (made_first c ds t rest f s, errors_first c ds t rest f s, ahead_first c ds t rest f s h)

  pub unit_made : units_made (length (unit_of cs).chars) cs ≡ (unit_of cs).made
  unit_made = unit_facts.0 0 (length (unit_of cs).chars) (omega arith) ∙ rw (made_none rest) (append-nil (unit_of cs).made)

  pub unit_errors_lem : (p : Position) → units_errors (length (unit_of cs).chars) p cs ≡ unit_errors p (unit_of cs)
  unit_errors_lem p =
      unit_facts.1 0 (length (unit_of cs).chars) p (omega arith)
      ∙ rw (errors_none (advances p (unit_of cs).chars) rest) (append-nil (unit_errors p (unit_of cs)))

  unit_long : 1 ≤ length (unit_of cs).chars
  unit_long = let (c, ds, q) = stands_cons cs h in let (t, f) = unit_first c ds in rw q (omega (arith, ap length f))

  pub whole_unit : Whole cs (unit_of cs).chars rest
  whole_unit =
      record {
        split = e;
        made_more = λ j. unit_facts.0 j (length (unit_of cs).chars + j) refl ∙ rw unit_made;
        errors_more = λ j p. unit_facts.1 j (length (unit_of cs).chars + j) p refl ∙ rw (unit_errors_lem p);
        ahead = unit_facts.2;
        small = rw unit_made (unit_small cs);
        few = λ p. rw (unit_errors_lem p) (omega (arith, unit_few p cs, unit_long));
        same = λ x start p buf. unit_step x start p buf cs rest h e ∙ rw (unit_errors_lem p, unit_made);
      }

-- Whole units behind whole units.
pub whole_join : (cs t mid u rest : Text) → Whole cs t mid → Whole mid u rest → Whole cs (t ++ u) rest
whole_join cs t mid u rest a b =
    let n = length-append t u in
    let made : units_made (length (t ++ u)) cs ≡ units_made (length t) cs ++ units_made (length u) mid = rw n (a.made_more (length u)) in
    let errs : (p : Position) → units_errors (length (t ++ u)) p cs ≡ units_errors (length t) p cs ++ units_errors (length u) (advances p t) mid
    = λ p. rw n (a.errors_more (length u) p) in
    record {
      split = a.split ∙ (ap (λ (l : Text). t ++ l) b.split ∙ sym (append_assoc t u rest));
      made_more =
          λ j.
          let k : length (t ++ u) + j ≡ length t + (length u + j) = omega arith in
          rw k (a.made_more (length u + j))
          ∙ (ap (λ (l : Text). units_made (length t) cs ++ l) (b.made_more j)
          ∙ (sym (append_assoc (units_made (length t) cs) (units_made (length u) mid) (units_made j rest)) ∙ ap (λ (l : Text). l ++ units_made j rest) (sym made)));
      errors_more =
          λ j p.
          let k : length (t ++ u) + j ≡ length t + (length u + j) = omega arith in
          let es = units_errors (length t) p cs in
          let fs = units_errors (length u) (advances p t) mid in
          let gs = units_errors j (advances (advances p t) u) rest in
          rw k (a.errors_more (length u + j) p)
          ∙ (ap (λ (l : List TokenizeError). es ++ l) (b.errors_more j (advances p t))
          ∙ (sym (append_assoc es fs gs)
          ∙ (ap (λ (l : List TokenizeError). l ++ gs) (sym (errs p)) ∙ ap (λ (q : Position). units_errors (length (t ++ u)) p cs ++ units_errors j q rest) (sym (advances_append p t u)))));
      ahead = omega (arith, a.ahead, b.ahead);
      small = omega (arith, a.small, b.small, ap bytes made, bytes_append (units_made (length t) cs) (units_made (length u) mid), bytes_append t u);
      few =
          λ p.
          omega (
            arith,
            a.few p,
            b.few (advances p t),
            ap length (errs p),
            length-append (units_errors (length t) p cs) (units_errors (length u) (advances p t) mid),
          );
      same =
          λ x start p buf.
          let es = units_errors (length t) p cs in
          let fs = units_errors (length u) (advances p t) mid in
          let m = units_made (length t) cs in
          let m' = units_made (length u) mid in
          a.same x start p buf
          ∙ (ap (and_then [] es false) (b.same x start (advances p t) (buf ++ m))
          ∙ (then_join [] [] es fs false false (held x start (advances (advances p t) u) (buf ++ m ++ m') rest)
          ∙ rw (errs p, made, advances_append p t u, append_assoc buf m m')));
    }

-- Where no unit stands, the units in front are all.
pub ahead_stops : (cs : Text) → stands cs ≡ false → units_ahead cs ≡ 0
unfolding units_ahead ahead_from
ahead_stops [] h = refl
ahead_stops (c ∷ cs) h = rw h

pub whole_all : (cs t rest : Text) → Whole cs t rest → stands rest ≡ false → units_ahead cs ≡ length t
whole_all cs t rest w h = omega (arith, w.ahead, ahead_stops rest h)
