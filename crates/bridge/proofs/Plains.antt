-- Laws of the walk past characters that pass a test, byte by byte. Assumes nothing.
use mathlib.Core.Path.{◌≡◌, refl, sym, ◌∙◌, ap, subst}
use mathlib.Core.Bool.{Bool, true, false, false≢true, true≢false}
use mathlib.Core.Logic.{⊎_elim}
use mathlib.Core.List.{List, [], ◌∷◌}
use Prim.Native.Nat.{ℕ, zero, suc, ◌+◌, ◌-◌, ◌≤◌, ◌<◌}
use lib.ListN.{length, get_or}
use native.Mathlib.Omega.{arith}
use native.Mathlib.Nat.{add-zero}
use borrow.Author.Tests.{le-leb, leb-true, ne_eqb}
use Rattle.characters.specs.Utf8.{is_tail, decode_at, chars_at}
use Rattle.characters.specs.declared.Decoded.{Decoded}
use Rattle.characters.specs.declared.Decoded.TheVariants.{Code, Bad, End}
use Rattle.characters.proofs.Choice.{and_both, le_or_lt}
use Rattle.characters.proofs.Sequences.{tail_bounds}
use Rattle.characters.proofs.Decoding.{placed_code}
use Rattle.characters.proofs.Characters.{chars_ascii, chars_past_lem}
use Rattle.characters.proofs.Valids.{not_bad, not_end, tail_at, lead_none}
use Rattle.spans.specs.declared.Position.{Position}
use Rattle.rules.specs.Text.{Char}
use Rattle.rules.specs.Scan.{next, Part, run, takes}
use Rattle.runs.specs.Runs.{RunTo}
use Rattle.bridge.specs.Bridge.{Within, Reach, Stops, is_plain, PastRun, RunEnd}
use Rattle.bridge.proofs.Cuts.{run_none}
use Rattle.bridge.proofs.Reaches.{reach_nil, reach_join, next_char, advance_along}

-- ── Runs by positions ──

module _ (f : Char → Bool) (s : List ℕ) where
  pub past_nil : (p : Position) → Within s p → next f (chars_at s p.offset) ≡ false → PastRun f s p p
  past_nil p w e =
      let r = run_none f (chars_at s p.offset) e in
      record { reach = rw r (reach_nil s p w); left = rw r; forth = omega arith }

  pub past_cons : (p q r : Position) (c : ℕ) → Reach s p (c ∷ []) q → p.offset < q.offset → f c ≡ true → PastRun f s q r → PastRun f s p r
  unfolding run
  past_cons p q r c h m t k =
      let e : run f (chars_at s p.offset) ≡ takes c (run f (chars_at s q.offset)) = ap (run f) h.chars ∙ rw t in
      record { reach = rw e (reach_join s p q r (c ∷ []) _ h k.reach); left = k.left ∙ ap (λ (a : Part). a.left) (sym e); forth = omega (arith, k.forth) }

  pub past_none : (p : Position) → Within s p → length s ≤ p.offset → PastRun f s p p
  unfolding next
  past_none p w l = past_nil p w (ap (next f) (chars_past_lem s p.offset l))

-- ── Plain characters ──

-- The line feed is none, and every character beyond ASCII is one.
pub plain_least : (x y z c : ℕ) → is_plain x y z c ≡ true → 11 ≤ c
unfolding is_plain
plain_least x y z c e = leb-true 11 c (and_both _ _ (and_both _ _ (and_both _ _ e).0).0).0

pub plain_high : (x y z c : ℕ) → Stops x y z → 0x80 ≤ c → is_plain x y z c ≡ true
unfolding is_plain
plain_high x y z c t h =
    let a = t.first in
    let b = t.second in
    let d = t.third in
    rw (le-leb 11 c (omega arith), ne_eqb c x (λ e. omega arith), ne_eqb c y (λ e. omega arith), ne_eqb c z (λ e. omega arith))

-- ── The walk between two bytes ──

-- The position at the byte `at` and the column `col` of the line of `p`.
abbrev pub spot : Position → ℕ → ℕ → Position
spot p at col = record { offset = at; line = p.line; col = col }

-- The walk stands at the byte `at`, before the tails, `more` of them, of a character that it has counted; behind them the column is
-- `col`. Whatever ends the walk from there ends it from `p`.
pub record Mid (f : Char → Bool) (s : List ℕ) (p : Position) (at col : ℕ) : Type 0 where
  pub more : ℕ
  pub tails : (i : ℕ) → i < more → is_tail (get_or s (at + i) 0) ≡ true
  pub within : Within s (spot p (at + more) col)
  pub going : (q : Position) → PastRun f s (spot p (at + more) col) q → PastRun f s p q

pub mid_start : (f : Char → Bool) (s : List ℕ) (p : Position) → Within s p → Mid f s p p.offset p.col
mid_start f s p w =
    let e = add-zero p.offset in
    record { more = 0; tails = λ i l. absurd (omega arith); within = rw e w; going = λ q k. rw e at k }

module _ (x y z : ℕ) (stops : Stops x y z) (s : List ℕ) (p : Position) (at col : ℕ) where
  abbrev f : Char → Bool
  f = is_plain x y z

  abbrev b : ℕ
  b = get_or s at 0

  -- At a character's first byte.
  module _ (w : Within s (spot p at col)) (h : at < length s) (t : is_tail b ≡ false) (g : f b ≡ true) where
    passes : (c n : ℕ) → decode_at s at ≡ Code c n → f c ≡ true
    passes c n e =
        ⊎_elim (λ l. rw ((placed_code s at c n e).low l) g) (λ l. plain_high x y z c stops l) (le_or_lt c 0x7F)

    steps : (c n : ℕ) → decode_at s at ≡ Code c n → Reach s (spot p at col) (c ∷ []) (spot p (at + n) (col + 1))
    steps c n e =
        let d = placed_code s at c n e in
        let l = plain_least x y z c (passes c n e) in
        (next_char s (spot p at col) (spot p (at + n) (col + 1)) c n w e (advance_along (spot p at col) c n d.width_is (λ k. omega arith))).0

    char_of : (d : Decoded) → decode_at s at ≡ d → ((q : Position) → PastRun f s (spot p at col) q → PastRun f s p q) → Mid f s p (at + 1) (col + 1)
    char_of (Code c n) e go =
        let k = (placed_code s at c n e).least in
        let m : at + 1 + (n - 1) ≡ at + n = omega arith in
        let r = steps c n e in
        record {
          more = n - 1;
          tails = λ i l.
              let j : at + 1 + i ≡ at + suc i = omega arith in
              rw j (tail_at s at h w.valid c n (suc i) e (omega arith) (omega arith));
          within = rw m r.within;
          going = λ q u. go q (past_cons f s (spot p at col) (spot p (at + n) (col + 1)) q c r (omega arith) (passes c n e) (rw m at u));
        }
    char_of Bad e go = absurd (not_bad s at h w.valid e)
    char_of End e go = absurd (not_end s at h w.valid e)

  -- One byte on: a character's first byte is counted, a tail is not.
  pub mid_char : Mid f s p at col → at < length s → is_tail b ≡ false → f b ≡ true → Mid f s p (at + 1) (col + 1)
  mid_char m h t g = go m.more m.tails m.within m.going
    where
      go : (k : ℕ) → ((i : ℕ) → i < k → is_tail (get_or s (at + i) 0) ≡ true) → Within s (spot p (at + k) col)
          → ((q : Position) → PastRun f s (spot p (at + k) col) q → PastRun f s p q) → Mid f s p (at + 1) (col + 1)
      go zero ts w k =
          let e = add-zero at in
          char_of (rw e at w) h t g (decode_at s at) refl (λ q u. k q (rw e u))
      go (suc n) ts w k =
          let e = add-zero at in
          absurd (true≢false (sym (rw e at (ts 0 (omega arith))) ∙ t))

  pub mid_tail : Mid f s p at col → at < length s → is_tail b ≡ true → Mid f s p (at + 1) col
  mid_tail m h t = go m.more m.tails m.within m.going
    where
      go : (k : ℕ) → ((i : ℕ) → i < k → is_tail (get_or s (at + i) 0) ≡ true) → Within s (spot p (at + k) col)
          → ((q : Position) → PastRun f s (spot p (at + k) col) q → PastRun f s p q) → Mid f s p (at + 1) col
      go zero ts w k = absurd (false≢true (sym (lead_none s at h (rw (add-zero at) at w.valid)) ∙ t))
      go (suc n) ts w k =
          let e : at + 1 + n ≡ at + suc n = omega arith in
          record {
            more = n;
            tails = λ i l.
                let j : at + 1 + i ≡ at + suc i = omega arith in
                rw j (ts (suc i) (omega arith));
            within = rw e w;
            going = λ q u. k q (rw e at u);
          }

  -- The walk ends at a byte that does not pass, and at the end.
  pub mid_stop : Mid f s p at col → at < length s → f b ≡ false → PastRun f s p (spot p at col)
  unfolding next
  mid_stop m h g = go m.more m.tails m.within m.going
    where
      low : 0x80 ≤ b → ⊥
      low l = true≢false (sym (plain_high x y z b stops l) ∙ g)

      go : (k : ℕ) → ((i : ℕ) → i < k → is_tail (get_or s (at + i) 0) ≡ true) → Within s (spot p (at + k) col)
          → ((q : Position) → PastRun f s (spot p (at + k) col) q → PastRun f s p q) → PastRun f s p (spot p at col)
      go zero ts w k =
          let e = add-zero at in
          let u : b ≤ 0x7F = ⊎_elim (λ l. l) (λ l. absurd (low l)) (le_or_lt b 0x7F) in
          k (spot p at col) (rw e (past_nil f s (spot p at col) (rw e at w) (ap (next f) (chars_ascii s at h u) ∙ g)))
      go (suc n) ts w k = absurd (low (tail_bounds b (rw (add-zero at) at (ts 0 (omega arith)))).0)

  pub mid_end : Mid f s p at col → length s ≤ at → PastRun f s p (spot p at col)
  mid_end m l =
      let w = m.within in
      let n : at + m.more ≡ at = omega (arith, w.inside) in
      m.going (spot p at col) (rw n (past_none f s (spot p at col) (rw n at w) l))

-- ── The walk by places ──

-- A walk from the place `from` stands at the byte `at`, whatever the column is there.
abbrev pub MidAt : (Char → Bool) → List ℕ → ℕ → ℕ → Type 0
MidAt f s from at = (p : Position) → p.offset ≡ from → Within s p → (col : ℕ) × Mid f s p at col

pub mid_at_start : (f : Char → Bool) (s : List ℕ) (from : ℕ) → MidAt f s from from
mid_at_start f s from p e w = (p.col, subst (λ (n : ℕ). Mid f s p n p.col) e (mid_start f s p w))

module _ (x y z : ℕ) (stops : Stops x y z) (s : List ℕ) (from at : ℕ) (m : MidAt (is_plain x y z) s from at) where
  pub mid_at_more : at < length s → is_plain x y z (get_or s at 0) ≡ true → MidAt (is_plain x y z) s from (at + 1)
  mid_at_more h g p e w = go (is_tail (get_or s at 0)) refl
    where
      go : (t : Bool) → is_tail (get_or s at 0) ≡ t → (col : ℕ) × Mid (is_plain x y z) s p (at + 1) col
      go true t = ((m p e w).0, mid_tail x y z stops s p at (m p e w).0 (m p e w).1 h t)
      go false t = ((m p e w).0 + 1, mid_char x y z stops s p at (m p e w).0 (m p e w).1 h t g)

  pub mid_at_stop : at < length s → is_plain x y z (get_or s at 0) ≡ false → RunEnd (is_plain x y z) s from at
  mid_at_stop h g p e w = let (col, k) = m p e w in (spot p at col, refl, mid_stop x y z stops s p at col k h g)

  pub mid_at_end : length s ≤ at → RunEnd (is_plain x y z) s from at
  mid_at_end l p e w = let (col, k) = m p e w in (spot p at col, refl, mid_end x y z stops s p at col k l)

-- A walk past the bytes that pass, where each answer of its test is that of `is_plain`.
module _ (x y z : ℕ) (stops : Stops x y z) (s : List ℕ) {A : ℕ → Bool → Type 0}
    (tells : (i : ℕ) (b : Bool) → A (get_or s i 0) b → b ≡ is_plain x y z (get_or s i 0)) {from to : ℕ} (r : RunTo A s from to) where
  mids : (n : ℕ) → from + n ≤ to → MidAt (is_plain x y z) s from (from + n)
  mids zero l = subst (MidAt (is_plain x y z) s from) (sym (add-zero from)) (mid_at_start (is_plain x y z) s from)
  mids (suc n) l =
      let e : from + n + 1 ≡ from + suc n = omega arith in
      subst (MidAt (is_plain x y z) s from) e
      (mid_at_more x y z stops s from (from + n) (mids n (omega arith)) (omega (arith, r.inside)) (sym (tells (from + n) true (r.passed (from + n) (omega arith) (omega arith)))))

  pub run_ends : RunEnd (is_plain x y z) s from to
  run_ends =
      let e : from + (to - from) ≡ to = omega (arith, r.forth) in
      let m : MidAt (is_plain x y z) s from to = subst (MidAt (is_plain x y z) s from) e (mids (to - from) (omega arith)) in
      ⊎_elim (λ l. mid_at_end x y z stops s from to m l)
      (λ l. mid_at_stop x y z stops s from to m l (sym (tells to false (r.stop l)))) (le_or_lt (length s) to)
