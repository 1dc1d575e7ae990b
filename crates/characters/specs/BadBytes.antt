-- What order 1's classes of bad sequences mean (document 02).
use Rattle.std.specs.Prelude.{◌≡◌, Bool, true, false, ◌&&◌, ◌||◌, not, ◌⊎◌, ◌↔◌, List, [], ◌∷◌, ◌++◌, ℕ, leb, get_or, take, drop}
use Rattle.characters.specs.Choice.{within}
use Rattle.characters.specs.Utf8.{is_tail, second_ok, is_utf8, is_cut, is_barred, bad_class, RefusedUtf8, RefusedCut, RefusedBarred}

-- ── The three classes ──

-- An octet is there, and it is no tail.
unfoldable pub no_tail : List ℕ → Bool
no_tail [] = false
no_tail (b ∷ s) = not (is_tail b)

-- No sequence begins with this octet: a tail, C0, C1, F5 and above.
unfoldable pub is_stray : ℕ → Bool
is_stray a = within 0x80 0xC1 a || leb 0xF5 a

-- Behind a first octet `a`, the second, third or fourth is there and is no tail, and those before it are allowed (one that the text lacks
-- is given as 0, which is never allowed).
unfoldable pub bad_second : ℕ → List ℕ → Bool
bad_second a s = within 0xC2 0xF4 a && no_tail s

unfoldable pub bad_third : ℕ → List ℕ → Bool
bad_third a s = within 0xE0 0xF4 a && second_ok a (get_or s 0 0) && no_tail (drop 1 s)

unfoldable pub bad_fourth : ℕ → List ℕ → Bool
bad_fourth a s = within 0xF0 0xF4 a && second_ok a (get_or s 0 0) && is_tail (get_or s 1 0) && no_tail (drop 2 s)

-- The rest, told by itself.
unfoldable pub is_other : List ℕ → Bool
is_other [] = false
is_other (a ∷ s) = is_stray a || bad_second a s || bad_third a s || bad_fourth a s

-- The three classes of a bad sequence exclude each other, since its class is one number, and leave nothing out.
pub record Classes (s : List ℕ) : Type 0 where
  pub cut : (bad_class s ≡ RefusedCut) ↔ (is_cut s ≡ true)
  pub barred : (bad_class s ≡ RefusedBarred) ↔ (is_barred s ≡ true)
  pub other : (bad_class s ≡ RefusedUtf8) ↔ (is_other s ≡ true)
  pub one : (bad_class s ≡ RefusedCut) ⊎ (bad_class s ≡ RefusedBarred) ⊎ (bad_class s ≡ RefusedUtf8)

-- ── What "cut" means ──

-- There are octets that make the text UTF-8 if they are put behind it. (In a list that is UTF-8 no number is above F4, so `more` is octets.)
pub record Completable (s : List ℕ) : Type 0 where
  pub more : List ℕ
  pub completes : is_utf8 (s ++ more) ≡ true

-- A text is refused with the number `n` and the figure `p`: the number is that of "cut" exactly if the text can be completed, and the text
-- up to the figure is UTF-8.
pub record CutShort (s : List ℕ) (n p : ℕ) : Type 0 where
  pub exactly : (n ≡ RefusedCut) ↔ Completable s
  pub front : is_utf8 (take p s) ≡ true
