-- A part of one line as a word. Assumes nothing.
use mathlib.Core.Path.{◌≡◌, refl, sym, subst}
use mathlib.Core.Bool.{false}
use mathlib.Core.List.{List, ◌++◌}
use Prim.Native.Nat.{ℕ, ◌+◌, ◌-◌, ◌≤◌, ◌<◌}
use lib.ListN.{length}
use native.Mathlib.Omega.{arith}
use Rattle.characters.specs.Choice.{◌is◌}
use Rattle.characters.specs.Utf8.{chars_at}
use Rattle.rules.specs.Text.{Text}
use Rattle.rules.specs.Scan.{Part}
use Rattle.rules.specs.Tables.{DoubleColonT}
use Rattle.rules.specs.Segment.{Segment, piece, token, whole_token, word_end, word_token}
use Rattle.bridge.specs.Bridge.{Flat, Cut}
use Rattle.bridge.proofs.Cuts.{cut_length}
use Rattle.lexemes.specs.Words.{word_text, WordAt}

-- The part that a segment's token is made of.
pub word_of : (s : List ℕ) (at k n e : ℕ) (a : Part) (g : Segment) → Cut s at a (at + n) → 1 ≤ n → e ≤ n
    → g ≡ token a.taken (piece k (word_text k a.taken) e) → WordAt s at g k n e
word_of s at k n e a g x h l q =
    record {
      same = subst (λ (t : Text). g ≡ token t (piece k (word_text k t) e)) (sym x.bytes) q;
      whole = subst (λ (t : Text). chars_at s at ≡ t ++ chars_at s (at + n)) (sym x.bytes) x.whole;
      flat = subst Flat (sym x.bytes) x.flat;
      inside = x.inside;
      some = h;
      short = l;
    }

-- All kinds but one have their characters as their text.
pub text_plain : (k : ℕ) (t : Text) → (k is DoubleColonT) ≡ false → word_text k t ≡ t
unfolding word_text
text_plain k t h = rw h

-- A part from `at` to `to`, as one of so many bytes.
pub cut_sized : (s : List ℕ) (at to : ℕ) (a : Part) → Cut s at a to → Cut s at a (at + (to - at))
cut_sized s at to a x =
    let f = x.forth in
    let n : to ≡ at + (to - at) = omega arith in
    subst (λ (m : ℕ). Cut s at a m) n x

-- A word whose text is all its characters, and which ends one past the last.
pub word_whole : (s : List ℕ) (at to k : ℕ) (a : Part) → (k is DoubleColonT) ≡ false → at < to → Cut s at a to
    → WordAt s at (whole_token k a.taken) k (to - at) (to - at)
word_whole s at to k a p h x =
    word_of s at k (to - at) (to - at) a (whole_token k a.taken) (cut_sized s at to a x) (omega arith) (omega arith)
    (rw (text_plain k a.taken p, cut_length s at to a x))

-- A name or a lone mark: its span ends at its last character.
pub end_word : (t : Text) → word_end t ≡ length t - 1
unfolding word_end
end_word t = refl

pub word_last : (s : List ℕ) (at to k : ℕ) (a : Part) → (k is DoubleColonT) ≡ false → at < to → Cut s at a to
    → WordAt s at (word_token k a.taken) k (to - at) (to - at - 1)
word_last s at to k a p h x =
    word_of s at k (to - at) (to - at - 1) a (word_token k a.taken) (cut_sized s at to a x) (omega arith) (omega arith)
    (rw (text_plain k a.taken p, end_word a.taken, cut_length s at to a x))

-- The same word, with its kind told by another name.
pub kind_told : (s : List ℕ) (at k m n e : ℕ) (g : Segment) → k ≡ m → WordAt s at g k n e → WordAt s at g m n e
kind_told s at k m n e g q w = subst (λ (j : ℕ). WordAt s at g j n e) q w
