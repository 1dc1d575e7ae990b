-- Laws of the text call and of its check. Assumes nothing.
use Rattle.std.specs.Prelude.{if◌then◌else◌}
use mathlib.Core.Path.{◌≡◌, refl}
use mathlib.Core.Bool.{Bool, true, false, not}
use mathlib.Core.List.{List, []}
use Prim.Native.Nat.{ℕ, ◌+◌, ◌-◌, ◌≤◌, ◌<◌}
use lib.Dec.{leb}
use lib.ListN.{length, take, drop}
use borrow.Author.Tests.{lt-leb, leb-true}
use native.Mathlib.Nat.{add-sub_cancel_left}
use native.Mathlib.Omega.{arith}
use Rattle.byte_order_mark.specs.Mark.{mark_length, after_mark}
use Rattle.byte_order_mark.specs.Slices.{bytes_behind}
use Rattle.records.specs.Kinds.{has_text, is_made}
use Rattle.refusals.specs.Answers.{Answer, got, refused}
use Rattle.record_reading.specs.Reading.{is_whole, record_at}
use Rattle.record_texts.specs.Texts.{home_of, is_inside, part_of, text_check_at, text_at, home_place, part_place, text_place_at}
use Rattle.records.specs.declared.answers.TokenRecord.{TokenRecord}
use Rattle.record_reading.proofs.Places.{leb_same}

-- ── A part of a buffer ──

module _ (s : List ℕ) (o n : ℕ) where
  pub inside_past : length s < o → is_inside s o n ≡ false
  unfolding is_inside
  inside_past h = let t : length s < o + n = omega arith in lt-leb (o + n) (length s) t

  pub inside_same : o ≤ length s → leb n (length s - o) ≡ is_inside s o n
  unfolding is_inside
  inside_same h = leb_same n (length s - o) (o + n) (length s) (λ a. omega arith) (λ a. omega arith)

  pub inside_room : is_inside s o n ≡ true → o + n ≤ length s
  unfolding is_inside
  inside_room e = leb-true (o + n) (length s) e

  pub part_inside : is_inside s o n ≡ true → take (o + n - o) (drop o s) ≡ part_of s o n
  unfolding part_of
  part_inside e = rw (e, add-sub_cancel_left)

  pub part_none : is_inside s o n ≡ false → [] ≡ part_of s o n
  unfolding part_of
  part_none e = rw e

  pub place_inside : (p : ℕ × ℕ) → is_inside s o n ≡ true → bytes_behind o p ≡ part_place p s o n
  unfolding part_place
  place_inside p e = rw e

  pub place_none : (p : ℕ × ℕ) → is_inside s o n ≡ false → p ≡ part_place p s o n
  unfolding part_place
  place_none p e = rw e

-- ── The buffer of a kind ──

module _ (script texts : List ℕ) (k : ℕ) where
  pub home_made : is_made k ≡ true → home_of script texts k ≡ texts
  unfolding home_of
  home_made e = rw e

  pub home_script : is_made k ≡ false → home_of script texts k ≡ after_mark script
  unfolding home_of
  home_script e = rw e

module _ (p q : ℕ × ℕ) (script : List ℕ) (k : ℕ) where
  pub place_made : is_made k ≡ true → home_place p q script k ≡ q
  unfolding home_place
  place_made e = rw e

  pub place_script : is_made k ≡ false → home_place p q script k ≡ bytes_behind (mark_length script) p
  unfolding home_place
  place_script e = rw e

-- ── The calls ──

module _ (script texts s : List ℕ) (at : ℕ) (r : TokenRecord) (w : is_whole s at ≡ true) (e : r ≡ record_at s at) where
  pub text_fixed : has_text r.kind ≡ false → [] ≡ text_at script texts s at
  unfolding text_at
  text_fixed t = rw (w, ← e, t)

  pub text_part : (home out : List ℕ) → has_text r.kind ≡ true → home ≡ home_of script texts r.kind → out ≡ part_of home r.offset r.length
      → out ≡ text_at script texts s at
  unfolding text_at
  text_part home out t h p = rw (w, ← e, t, ← h) p

  pub text_fixed_place : (p q : ℕ × ℕ) → has_text r.kind ≡ false → p ≡ text_place_at p q script texts s at
  unfolding text_place_at
  text_fixed_place p q t = rw (w, ← e, t)

  pub text_part_place : (p q : ℕ × ℕ) (home : List ℕ) (h-place out-place : ℕ × ℕ) → has_text r.kind ≡ true
      → home ≡ home_of script texts r.kind → h-place ≡ home_place p q script r.kind → out-place ≡ part_place h-place home r.offset r.length
      → out-place ≡ text_place_at p q script texts s at
  unfolding text_place_at
  text_part_place p q home h-place out-place t h hp x = rw (w, ← e, t, ← h, ← hp) x

  pub check_fixed : has_text r.kind ≡ false → got tt ≡ text_check_at script texts s at
  unfolding text_check_at
  check_fixed t = rw (w, ← e, t)

  pub check_inside : (home : List ℕ) → has_text r.kind ≡ true → home ≡ home_of script texts r.kind → is_inside home r.offset r.length ≡ true
      → got tt ≡ text_check_at script texts s at
  unfolding text_check_at
  check_inside home t h i = rw (w, ← e, t, ← h, i)

  pub check_outside : (home : List ℕ) → has_text r.kind ≡ true → home ≡ home_of script texts r.kind → is_inside home r.offset r.length ≡ false
      → refused 8 r.offset ≡ text_check_at script texts s at
  unfolding text_check_at
  check_outside home t h i = rw (w, ← e, t, ← h, i)

module _ (script texts s : List ℕ) (at : ℕ) (w : is_whole s at ≡ false) where
  pub text_none : [] ≡ text_at script texts s at
  unfolding text_at
  text_none = rw w

  pub text_none_place : (p q : ℕ × ℕ) → p ≡ text_place_at p q script texts s at
  unfolding text_place_at
  text_none_place p q = rw w

  pub check_none : refused 7 at ≡ text_check_at script texts s at
  unfolding text_check_at
  check_none = rw w

-- ── The text is empty where the check refuses ──

empty_by : (a b i : Bool) (x : List ℕ) (at o n f : ℕ)
    → ◌≡◌ {A = Answer (Unit {0})} (if not a then refused 7 at else if not b then got tt else if not i then refused 8 o else got tt) (refused n f)
    → ◌≡◌ {A = List ℕ} (if not a then [] else if not b then [] else if i then x else []) []
empty_by false b i x at o n f e = refl
empty_by true false i x at o n f e = refl
empty_by true true false x at o n f e = refl
empty_by true true true x at o n f e = let z : ◌≡◌ {A = ℕ} 0 1 = cc in absurd (omega arith)

pub text_refused : (script texts s : List ℕ) (at n f : ℕ) → text_check_at script texts s at ≡ refused n f → text_at script texts s at ≡ []
unfolding text_check_at text_at part_of
text_refused script texts s at n f e =
    let r = record_at s at in
    let home = home_of script texts r.kind in
    empty_by (is_whole s at) (has_text r.kind) (is_inside home r.offset r.length) (take r.length (drop r.offset home)) at r.offset n f e
