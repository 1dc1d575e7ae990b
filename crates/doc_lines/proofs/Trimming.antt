-- Laws of trimming. Assumes nothing.
use Rattle.std.specs.Prelude.{if◌then◌else◌}
use mathlib.Core.Path.{◌≡◌, refl, sym, ◌∙◌, ap}
use mathlib.Core.Bool.{Bool, true, false, ◌&&◌, false≢true}
use mathlib.Core.List.{[], ◌∷◌, ◌++◌, append-nil}
use Rattle.characters.specs.Choice.{◌is◌}
use Rattle.characters.specs.Space.{is_white}
use Rattle.characters.proofs.Choice.{if_all, if_both}
use Rattle.rules.specs.Text.{Char, Text, ch, is_empty}
use Rattle.rules.specs.Scan.{next, Part, run}
use Rattle.doc_lines.specs.Lines.{is_star}
use Rattle.rules.specs.Docs.{trim_start, trim_end, trim, strip_stars, clean_line}

-- ── From the start: a run of characters is passed ──

pub start_run : (cs : Text) → trim_start cs ≡ (run is_white cs).left
unfolding trim_start run
start_run [] = refl
start_run (c ∷ cs) = if_both (λ (x : Text) (y : Part). x ≡ y.left) (is_white c) (λ _. start_run cs) (λ _. refl)

pub stars_run : (cs : Text) → strip_stars cs ≡ (run is_star cs).left
unfolding strip_stars run is_star
stars_run [] = refl
stars_run (c ∷ cs) = if_both (λ (x : Text) (y : Part). x ≡ y.left) (c is ch "*") (λ _. stars_run cs) (λ _. refl)

-- Behind a run no character stands that passes the test.
pub run_next : (p : Char → Bool) (cs : Text) → next p (run p cs).left ≡ false
unfolding run next
run_next p [] = refl
run_next p (c ∷ cs) = if_all (λ (y : Part). next p y.left ≡ false) (p c) (λ _. run_next p cs) (λ e. e)

-- ── From the end ──

-- One character in front.
abbrev pub kept : Bool → Char → Text → Text
kept w c r = if w && is_empty r then [] else c ∷ r

pub end_cons : (c : Char) (cs : Text) → trim_end (c ∷ cs) ≡ kept (is_white c) c (trim_end cs)
unfolding trim_end
end_cons c cs = refl

-- Two texts: white space at the end of the first counts only where the second is nothing but white space.
kept_both : (w : Bool) (c : Char) (e a b : Text)
    → kept w c (if is_empty e then a else (b ++ e)) ≡ (if is_empty e then kept w c a else (c ∷ (b ++ e)))
unfolding is_empty
kept_both w c [] a b = refl
kept_both false c (d ∷ e) a b = refl
kept_both true c (d ∷ e) a [] = refl
kept_both true c (d ∷ e) a (f ∷ b) = refl

same_end : (e : Text) → e ≡ (if is_empty e then [] else e)
unfolding is_empty
same_end [] = refl
same_end (c ∷ e) = refl

pub end_append : (x y : Text) → trim_end (x ++ y) ≡ (if is_empty (trim_end y) then trim_end x else (x ++ trim_end y))
unfolding trim_end
end_append [] y = same_end (trim_end y)
end_append (c ∷ x) y =
    ap (kept (is_white c) c) (end_append x y) ∙ kept_both (is_white c) c (trim_end y) (trim_end x) x

pub end_white : (t : Text) (c : Char) → is_white c ≡ true → trim_end (t ++ (c ∷ [])) ≡ trim_end t
unfolding trim_end is_empty
end_white t c e = end_append t (c ∷ []) ∙ rw e refl

pub end_solid : (t : Text) (c : Char) → is_white c ≡ false → trim_end (t ++ (c ∷ [])) ≡ t ++ (c ∷ [])
unfolding trim_end is_empty
end_solid t c e = end_append t (c ∷ []) ∙ rw e

-- A text that is trimmed at its end, in front of another.
empty_is : (t : Text) → is_empty t ≡ true → t ≡ []
unfolding is_empty
empty_is [] e = refl
empty_is (c ∷ t) e = absurd (false≢true e)

pub end_behind : (x y : Text) → is_empty x ≡ false → trim_end x ≡ x → trim_end (x ++ y) ≡ x ++ trim_end y
end_behind x y n e =
    end_append x y
    ∙ if_all (λ (z : Text). z ≡ x ++ trim_end y) (is_empty (trim_end y))
    (λ f. e ∙ sym (ap (λ (z : Text). x ++ z) (empty_is (trim_end y) f) ∙ append-nil x)) (λ _. refl)

-- Trimming twice.
pub end_end : (cs : Text) → trim_end (trim_end cs) ≡ trim_end cs
unfolding trim_end is_empty
end_end [] = refl
end_end (c ∷ cs) =
    if_all (λ (z : Text). trim_end z ≡ z) (is_white c && is_empty (trim_end cs)) (λ _. refl)
    (λ e. rw (end_end cs, e))

-- ── Both ──

-- What is passed at the start and what is left out at the end do not mind one another.
run_kept : (p : Char → Bool) (w : Bool) (c : Char) (r : Text)
    → (if p c then (run p r).left else kept w c r) ≡ (run p (kept w c r)).left
unfolding run is_empty
run_kept p true c [] = if_all (λ (z : Text). z ≡ []) (p c) (λ _. refl) (λ _. refl)
run_kept p true c (d ∷ r) = if_both (λ (x : Text) (y : Part). x ≡ y.left) (p c) (λ _. refl) (λ _. refl)
run_kept p false c r = if_both (λ (x : Text) (y : Part). x ≡ y.left) (p c) (λ _. refl) (λ _. refl)

pub end_run : (p : Char → Bool) (cs : Text) → trim_end (run p cs).left ≡ (run p (trim_end cs)).left
unfolding run trim_end
end_run p [] = refl
end_run p (c ∷ cs) =
    if_both (λ (x : Part) (y : Text). trim_end x.left ≡ y) (p c) (λ _. end_run p cs) (λ _. refl)
    ∙ run_kept p (is_white c) c (trim_end cs)

-- A text that begins with no white space, trimmed at its end.
pub end_next : (cs : Text) → next is_white cs ≡ false → next is_white (trim_end cs) ≡ false
unfolding next trim_end
end_next [] e = refl
end_next (c ∷ cs) e = rw e e

-- ── A cleaned line ──

-- The white space in front, the stars and the white space behind them are passed, and then the end is trimmed.
pub clean_run : (l : Text) → clean_line l ≡ trim_end (run is_white (run is_star (run is_white l).left).left).left
unfolding clean_line trim
clean_run l =
    start_run (strip_stars (trim_end (trim_start l)))
    ∙ ap (λ (z : Text). (run is_white z).left) (stars_run (trim_end (trim_start l)))
    ∙ ap (λ (z : Text). (run is_white (run is_star (trim_end z)).left).left) (start_run l)
    ∙ ap (λ (z : Text). (run is_white z).left) (sym (end_run is_star (run is_white l).left))
    ∙ sym (end_run is_white (run is_star (run is_white l).left).left)

-- It neither begins nor ends with white space.
pub record Tight (l : Text) : Type 0 where
  pub begins : next is_white l ≡ false
  pub ends : trim_end l ≡ l

pub clean_tight : (l : Text) → Tight (clean_line l)
clean_tight l =
    let z = (run is_white (run is_star (run is_white l).left).left).left in
    record {
      begins = rw (clean_run l) (end_next z (run_next is_white (run is_star (run is_white l).left).left));
      ends = rw (clean_run l) (end_end z);
    }
