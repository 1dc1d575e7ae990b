-- Laws of bytes written into a buffer from a place on, with no condition on the room. Assumes nothing.
use mathlib.Core.Path.{◌≡◌, refl, sym, ◌∙◌, ap, subst}
use mathlib.Core.Logic.{⊎_elim}
use mathlib.Core.List.{List, [], ◌∷◌, ◌++◌}
use Prim.Native.Nat.{ℕ, suc, ◌+◌, ◌-◌, ◌≤◌, ◌<◌, min}
use native.Mathlib.Nat.{add-zero}
use native.Mathlib.Omega.{arith}
use lib.ListN.{length, set, get_or, take, drop, length-append, length-take, length-drop, take-append-drop}
use lib.Seq.{sets, sets-eq, length-sets, set_out, slice}
use lib.Seq.{take_all, take_at, drop_at, take-add, take-suc, drop-append-le, length-take-le}
use Rattle.std.proofs.lemmas.Slice.{between_is}
use Rattle.characters.proofs.Choice.{le_or_lt}
use Rattle.characters.proofs.Buffers.{sets_append, sets_more}
use Rattle.output.specs.Writing.{Put}

-- ── Writes one after another ──

-- Nothing is written.
pub put_none : (b : List ℕ) (at : ℕ) → Put b b at [] at
put_none b at = record { written = refl; place = sym (add-zero at) }

-- Two writes, the second at the place after the first.
pub put_then : (a b c : List ℕ) (at m r : ℕ) (vs ws : List ℕ) → Put a b at vs m → Put b c m ws r → Put a c at (vs ++ ws) r
put_then a b c at m r vs ws p q =
    record {
      written = q.written ∙ rw (p.written, p.place) (sets_append a at vs ws);
      place = omega (arith, length-append vs ws, p.place, q.place);
    }

pub put_length : (a b : List ℕ) (at r : ℕ) (vs : List ℕ) → Put a b at vs r → length b ≡ length a
put_length a b at r vs p = ap length p.written ∙ length-sets a at vs

-- ── What lies outside of the buffer ──

-- A write that begins past the end changes nothing.
pub sets_out : (b : List ℕ) (at : ℕ) (vs : List ℕ) → length b ≤ at → sets b at vs ≡ b
sets_out b at [] h = refl
sets_out b at (v ∷ vs) h =
    let g : length b ≤ suc at = omega arith in
    rw (set_out b at v h) (sets_out b (suc at) vs g)

-- Of the bytes written only those inside count.
pub sets_front : (b : List ℕ) (at : ℕ) (vs ws : List ℕ) → length b ≤ at + length vs → sets b at (vs ++ ws) ≡ sets b at vs
sets_front b at vs ws h =
    let g : length (sets b at vs) ≤ at + length vs = rw (length-sets b at vs) h in
    sym (sets_append b at vs ws) ∙ sets_out (sets b at vs) (at + length vs) ws g

-- One byte, where there is room for it and where there is none.
pub byte_inside : (b : List ℕ) (at v r : ℕ) → r ≡ at + 1 → Put b (set b at v) at (v ∷ []) r
byte_inside b at v r e = record { written = refl; place = e }

pub byte_outside : (b : List ℕ) (at v r : ℕ) → length b ≤ at → r ≡ at + 1 → Put b b at (v ∷ []) r
byte_outside b at v r h e = record { written = sym (set_out b at v h); place = e }

-- ── Parts ──

-- A part is its front and the rest.
pub slice_split : (f m t : ℕ) (s : List ℕ) → f ≤ m → m ≤ t → t ≤ length s → slice f t s ≡ slice f m s ++ slice m t s
slice_split f m t s h k l =
    let e : m + (t - m) ≡ t = omega arith in
    let g : m ≤ length s = omega arith in
    let w = length-take-le m s g in
    let i : f ≤ length (take m s) = omega arith in
    let x : take t s ≡ take m s ++ take (t - m) (drop m s) = ap (λ (n : ℕ). take n s) (sym e) ∙ take-add m (t - m) s in
    ap (drop f) x
    ∙ drop-append-le f (take m s) (take (t - m) (drop m s)) i
    ∙ ap (λ (r : List ℕ). slice f m s ++ r) (sym (ap (drop m) x ∙ drop_at (take m s) (take (t - m) (drop m s)) m w))

-- The bytes of a part that fit stand for the whole part.
part_fits : (old vs : List ℕ) (at n : ℕ) → n ≤ length vs → (n < length vs → length old ≤ at + n) → sets old at (take n vs) ≡ sets old at vs
part_fits old vs at n h g =
    let e = length-take-le n vs h in
    ⊎_elim
    (λ f. ap (sets old at) (take_all n vs f))
    (λ f. let i : length old ≤ at + length (take n vs) = rw e (g f) in sym (ap (sets old at) (sym (take-append-drop n vs)) ∙ sets_front old at (take n vs) (drop n vs) i))
    (le_or_lt (length vs) n)

-- One byte more of a part.
pub copy_more : (old b vs : List ℕ) (at i : ℕ) → i < length vs → b ≡ sets old at (take i vs)
    → set b (at + i) (get_or vs i 0) ≡ sets old at (take (i + 1) vs)
copy_more old b vs at i h e =
    let f : i + 1 ≡ suc i = omega arith in
    rw f (sets_more old b _ at i (take i vs) (get_or vs i 0 ∷ []) (length-take-le i vs (omega arith)) e refl ∙ ap (sets old at) (sym (take-suc vs i 0 h)))

-- The bytes of the part that fit were written.
pub part_put : (old b vs : List ℕ) (at n : ℕ) → at ≤ length old → n ≡ min (length vs) (length old - at) → b ≡ sets old at (take n vs)
    → Put old b at vs (at + length vs)
part_put old b vs at n h e f =
    record { written = f ∙ part_fits old vs at n (omega arith) (omega arith); place = refl }

-- The part of a text that the code lends is the slice that a rule names.
pub put_slice : (s : List ℕ) (from to : ℕ) {old new : List ℕ} {at r : ℕ} → Put old new at (take (to - from) (drop from s)) r → Put old new at (slice from to s) r
put_slice s from to p = rw (← between_is s from to) p

pub part_bound : (s : List ℕ) (from to n : ℕ) → length s ≤ n → length (take (to - from) (drop from s)) ≤ n
part_bound s from to n h = omega (arith, length-take (to - from) (drop from s), length-drop from s)

-- The bytes that were written at a buffer's front, read from it.
pub front_part : (l vs : List ℕ) (n : ℕ) → length vs ≡ n → n ≤ length l → take n (sets l 0 vs) ≡ vs
front_part l vs n e h =
    let g : 0 + length vs ≤ length l = omega arith in
    ap (take n) (sets-eq vs l 0 g) ∙ take_at vs (drop (0 + length vs) l) n e

-- ── Whole values: at once where they fit, else over a small buffer ──

pub whole_put : (old new : List ℕ) (at n r : ℕ) (vs : List ℕ) → length vs ≡ n → r ≡ at + n → new ≡ sets old at vs → Put old new at vs r
whole_put old new at n r vs e f g = record { written = g; place = omega arith }

-- A value none of whose bytes fits changes nothing.
pub none_put : (old : List ℕ) (at n : ℕ) (vs : List ℕ) → length vs ≡ n → length old ≤ at → Put old old at vs (at + n)
none_put old at n vs e h = record { written = sym (sets_out old at vs h); place = omega arith }

-- The value stands at the front of a small buffer, and that front is put.
pub cut_put : (old new small b : List ℕ) (at n r : ℕ) (vs : List ℕ) → length vs ≡ n → n ≤ length b → small ≡ sets b 0 vs
    → Put old new at (take n small) r → Put old new at vs r
cut_put old new small b at n r vs e h f p =
    subst (λ (l : List ℕ). Put old new at l r) (ap (take n) f ∙ front_part b vs n e h) p

-- ── A loop of writes: what is still to be written, from here on, gives what the whole gives from the start on ──

pub record Writing (old b : List ℕ) (at p : ℕ) (rest all : List ℕ) : Type 0 where
  pub same : sets b p rest ≡ sets old at all
  pub used : p + length rest ≡ at + length all
  pub size : length b ≡ length old

pub write_start : (b : List ℕ) (at : ℕ) (all : List ℕ) → Writing b b at at all all
write_start b at all = record { same = refl; used = refl; size = refl }

pub write_more : (old b c : List ℕ) (at p r : ℕ) (vs rest all : List ℕ) → Writing old b at p (vs ++ rest) all → Put b c p vs r
    → Writing old c at r rest all
write_more old b c at p r vs rest all w q =
    record {
      same = rw (q.written, q.place) (sets_append b p vs rest) ∙ w.same;
      used = omega (arith, w.used, q.place, length-append vs rest);
      size = put_length b c p r vs q ∙ w.size;
    }

-- The last of it.
pub write_last : (old b c : List ℕ) (at p r : ℕ) (vs all : List ℕ) → Writing old b at p vs all → Put b c p vs r → Put old c at all r
write_last old b c at p r vs all w q =
    record { written = q.written ∙ w.same; place = q.place ∙ w.used }

-- Nothing is left.
pub write_end : (old b : List ℕ) (at p : ℕ) (all : List ℕ) → Writing old b at p [] all → Put old b at all p
write_end old b at p all w = record { written = w.same; place = sym (add-zero p) ∙ w.used }
