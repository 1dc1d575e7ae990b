-- A part of a text between quotes, written run by run: the bytes that stand as they are, and then one that is escaped. Assumes nothing.
use mathlib.Core.Path.{◌≡◌, refl, sym, ◌∙◌, ap, ap₂, subst}
use mathlib.Core.Bool.{Bool, true, false, not}
use mathlib.Core.List.{List, [], ◌∷◌, ◌++◌}
use Prim.Native.Nat.{ℕ, zero, suc, ◌+◌, ◌-◌, ◌*◌, ◌≤◌, ◌<◌}
use native.Mathlib.Nat.{add-zero}
use native.Mathlib.Numerals.{add-one}
use native.Mathlib.Omega.{arith}
use lib.ListN.{length, get_or, take, drop}
use Rattle.std.proofs.lemmas.Slice.{between_is}
use Rattle.runs.specs.Runs.{RunTo}
use lib.Seq.{take_all, slice, slice_empty, slice-cons, length-slice}
use Rattle.rules.specs.Text.{Char}
use Rattle.output.specs.Writing.{Put}
use Rattle.output.proofs.Buffers.{slice_split, Writing, write_start, write_more, write_end}
use Rattle.prints.specs.Print.{escaped, escapes}
use Rattle.prints.proofs.Bytewise.{escapes_append}
use Rattle.print_escapes.specs.Escapes.{is_escaped, PastBare}
use Rattle.print_escapes.proofs.Bare.{bare_one, escapes_one}
use Rattle.print_escapes.proofs.Sizes.{escapes_length}

-- A part and the byte behind it.
part_more : (s : List ℕ) (from at : ℕ) → from ≤ at → at < length s → slice from (at + 1) s ≡ slice from at s ++ (get_or s at 0 ∷ [])
part_more s from at h k =
    slice_split from at (at + 1) s h (omega arith) (omega arith)
    ∙ ap (λ (l : List ℕ). slice from at s ++ l)
    (slice-cons at (at + 1) s 0 (omega arith) (omega arith)
    ∙ ap (λ (l : List ℕ). get_or s at 0 ∷ l) (ap (λ (n : ℕ). slice n (at + 1) s) (sym (add-one at)) ∙ slice_empty (at + 1) s))

-- ── Past the bytes that stand as they are ──

pub record Passing (q : Char) (s : List ℕ) (from to at : ℕ) : Type 0 where
  pub forth : from ≤ at
  pub inside : at ≤ to
  pub bare : escapes q (slice from at s) ≡ slice from at s

pub pass_start : (q : Char) (s : List ℕ) (from to : ℕ) → from ≤ to → Passing q s from to from
unfolding escapes
pass_start q s from to h =
    record {
      forth = omega arith;
      inside = h;
      bare = rw (slice_empty from s);
    }

pub pass_more : (q : Char) (s : List ℕ) (from to at : ℕ) → Passing q s from to at → at < to → to ≤ length s
    → is_escaped q (get_or s at 0) ≡ false → Passing q s from to (at + 1)
pass_more q s from to at p h k e =
    let f = part_more s from at p.forth (omega arith) in
    record {
      forth = omega (arith, p.forth);
      inside = omega arith;
      bare =
          ap (escapes q) f
          ∙ (escapes_append q (slice from at s) (get_or s at 0 ∷ [])
          ∙ (ap₂ (λ (a b : List ℕ). a ++ b) p.bare (escapes_one q (get_or s at 0) ∙ bare_one q (get_or s at 0) e) ∙ sym f));
    }

not_of : (x b : Bool) → b ≡ not x → x ≡ not b
not_of true b e = ap not (sym e)
not_of false b e = ap not (sym e)

-- A walk to `at` past the bytes that pass, where its test passes those that are not escaped.
module _ (q : Char) (s : List ℕ) (from at : ℕ) {A : ℕ → Bool → Type 0}
    (tells : (i : ℕ) (b : Bool) → A (get_or s i 0) b → b ≡ not (is_escaped q (get_or s i 0))) (r : RunTo A s from at) where
  told : (i : ℕ) (b : Bool) → A (get_or s i 0) b → is_escaped q (get_or s i 0) ≡ not b
  told i b a = not_of (is_escaped q (get_or s i 0)) b (tells i b a)

  passes : (n : ℕ) → from + n ≤ at → Passing q s from (length s) (from + n)
  passes zero l = subst (Passing q s from (length s)) (sym (add-zero from)) (pass_start q s from (length s) (omega (arith, r.inside, r.forth)))
  passes (suc n) l =
      let e : from + n + 1 ≡ from + suc n = omega arith in
      let u : from + n < length s = omega (arith, r.inside) in
      subst (Passing q s from (length s)) e
      (pass_more q s from (length s) (from + n) (passes n (omega arith)) u (omega arith) (told (from + n) true (r.passed (from + n) (omega arith) (omega arith))))

  pub run_bare : PastBare q s from (length s) at
  run_bare =
      let e : from + (at - from) ≡ at = omega (arith, r.forth) in
      let p = subst (Passing q s from (length s)) e (passes (at - from) (omega arith)) in
      record {
        forth = p.forth;
        inside = p.inside;
        bare = p.bare;
        stops = λ l. told at false (r.stop l);
      }

-- ── The runs of a part ──

-- The bytes from `next` on are still to be written, from the place `p` on.
pub record Escaping (q : Char) (s old b : List ℕ) (from to at next p : ℕ) : Type 0 where
  pub writing : Writing old b at p (escapes q (slice next to s)) (escapes q (slice from to s))
  pub before : next ≤ to
  pub inside : to ≤ length s

pub escape_start : (q : Char) (s b : List ℕ) (from to at : ℕ) → from ≤ to → to ≤ length s → Escaping q s b b from to at from at
escape_start q s b from to at h k =
    record { writing = write_start b at (escapes q (slice from to s)); before = h; inside = k }

module _ (q : Char) (s old b : List ℕ) (from to at next p : ℕ) (w : Escaping q s old b from to at next p) where
  -- No place is far behind the first.
  pub escape_small : p ≤ at + 6 * to
  escape_small =
      omega (arith, w.writing.used, escapes_length q (slice from to s), length-slice from to s w.inside)

  module _ (stop : ℕ) (e : PastBare q s next to stop) where
    run_split : escapes q (slice next to s) ≡ slice next stop s ++ escapes q (slice stop to s)
    run_split =
        ap (escapes q) (slice_split next stop to s e.forth e.inside w.inside)
        ∙ (escapes_append q (slice next stop s) (slice stop to s) ∙ ap (λ (l : List ℕ). l ++ escapes q (slice stop to s)) e.bare)

    module _ (c : List ℕ) (r : ℕ) (x : Put b c p (slice next stop s) r) where
      -- The bytes that stand as they are, written.
      pub escape_run : Escaping q s old c from to at stop r
      escape_run =
          record {
            writing =
                write_more old b c at p r (slice next stop s) (escapes q (slice stop to s)) (escapes q (slice from to s))
                (subst (λ (l : List ℕ). Writing old b at p l (escapes q (slice from to s))) run_split w.writing)
                x;
            before = e.inside;
            inside = w.inside;
          }

  -- One byte more is written.
  pub escape_more : (c : List ℕ) (r : ℕ) → next < to → Put b c p (escaped q (get_or s next 0)) r → Escaping q s old c from to at (next + 1) r
  unfolding escapes
  escape_more c r h x =
      let f : escapes q (slice next to s) ≡ escaped q (get_or s next 0) ++ escapes q (slice (next + 1) to s)
      = ap (escapes q) (slice-cons next to s 0 h w.inside)
      ∙ ap (λ (n : ℕ). escaped q (get_or s next 0) ++ escapes q (slice n to s)) (sym (add-one next)) in
      record {
        writing =
            write_more old b c at p r (escaped q (get_or s next 0)) (escapes q (slice (next + 1) to s)) (escapes q (slice from to s))
            (subst (λ (l : List ℕ). Writing old b at p l (escapes q (slice from to s))) f w.writing)
            x;
        before = omega arith;
        inside = w.inside;
      }

  -- Nothing is left.
  pub escape_end : next ≡ to → Put old b at (escapes q (slice from to s)) p
  escape_end h = write_end old b at p (escapes q (slice from to s)) (subst (λ (l : List ℕ). Writing old b at p l (escapes q (slice from to s))) none w.writing)
    where
      none : escapes q (slice next to s) ≡ []
      none = ap (λ (n : ℕ). escapes q (slice n to s)) h ∙ (ap (escapes q) (slice_empty to s) ∙ (unfold escapes in refl))

-- All of a text is the part from its start to its end.
pub escapes_whole : (q : Char) (s : List ℕ) {a b : List ℕ} {at r : ℕ} → Put a b at (escapes q (slice 0 (length s) s)) r → Put a b at (escapes q s) r
escapes_whole q s p = rw (← take_all (length s) s (omega arith)) p

-- The part of a text that the code lends is the slice that a rule names.
pub escapes_slice : (q : Char) (s : List ℕ) (from to : ℕ) {a b : List ℕ} {at r : ℕ} → Put a b at (escapes q (take (to - from) (drop from s))) r
    → Put a b at (escapes q (slice from to s)) r
escapes_slice q s from to p = rw (← between_is s from to) p
