-- Order 1, from the contracts of measuring and tokenising alone: what the answer "cut" says of a script. Assumes nothing.
use mathlib.Core.Path.{◌≡◌, refl, sym, ◌∙◌, subst}
use mathlib.Core.Bool.{false, true≢false}
use mathlib.Core.List.{List}
use Prim.Native.Nat.{ℕ, ◌≤◌}
use lib.Dec.{leb}
use lib.ListN.{length}
use Rattle.characters.specs.Utf8.{is_utf8}
use Rattle.characters.specs.BadBytes.{CutShort}
use Rattle.characters.proofs.BadBytes.{cut_short}
use Rattle.characters.proofs.Choice.{and_both}
use Rattle.rules.specs.Script.{LIMIT, accepted}
use Rattle.refusals.proofs.Answers.{got_is_not_refused, same_refused}
use Rattle.refusals.specs.Answers.{Answer, got, refused, ◌then◌}
use Rattle.room.specs.declared.Used.{Used}
use Rattle.room.specs.Needed.{needed}
use Rattle.questions.specs.Questions.{ask_text}
use Rattle.questions.proofs.Questions.{no_bad, yes_accepted}
use Rattle.lexer.specs.Tokenize.{measure_answer, tokenize_answer}

-- ── The question that a refusal answers ──

later_no : (a : Answer (Unit {0})) (later : Answer Used) (n p : ℕ) → (a ≡ got tt → later ≡ refused n p → ⊥) → (a then later) ≡ refused n p → a ≡ refused n p
unfolding ◌then◌
later_no (got _) later n p f e = absurd (f refl e)
later_no (refused m q) later n p f e = let z = same_refused {A = Used} m q n p e in rw (z.0, z.1)

-- ── What it says ──

module _ (s : List ℕ) (n p : ℕ) (short : length s ≤ LIMIT) where
  asked_cut : ask_text s ≡ refused n p → CutShort s n p
  asked_cut e =
      let b = no_bad s n p short e in
      subst (λ (m : ℕ). CutShort s m p) (sym b.1) (cut_short s p b.0)

  not_yes : is_utf8 s ≡ false → ask_text s ≡ got tt → ⊥
  unfolding accepted
  not_yes e y = true≢false (sym (and_both (leb (length s) LIMIT) (is_utf8 s) (yes_accepted s y)).1 ∙ e)

  -- Measuring refuses a script within the limit: with 9 exactly if bytes put behind it make it UTF-8, and up to the figure it is UTF-8.
  pub measure_cut : measure_answer s ≡ refused n p → CutShort s n p
  unfolding measure_answer
  measure_cut e = asked_cut (later_no (ask_text s) (got (needed s)) n p (λ _ k. got_is_not_refused (needed s) n p k) e)

  -- So does tokenising, for a script that is not UTF-8, whatever the buffers.
  pub tokenize_cut : (tokens texts errors : ℕ) → is_utf8 s ≡ false → tokenize_answer s tokens texts errors ≡ refused n p → CutShort s n p
  unfolding tokenize_answer
  tokenize_cut tokens texts errors f e = asked_cut (later_no (ask_text s) _ n p (λ y _. not_yes f y) e)
