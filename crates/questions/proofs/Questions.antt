-- Laws of the questions before the answer. Assumes nothing.
use Rattle.std.specs.Prelude.{if◌then◌else◌, Option, Some, None}
use mathlib.Core.Path.{◌≡◌, refl, sym, ◌∙◌, ap}
use mathlib.Core.Bool.{Bool, true, false, ◌&&◌, not}
use mathlib.Core.List.{List}
use Prim.Native.Nat.{ℕ, ◌≤◌, ◌<◌}
use borrow.Author.Tests.{leb-true, le-leb, lt-leb}
use lib.Dec.{leb}
use lib.ListN.{length, drop}
use Rattle.characters.specs.Utf8.{first_bad, is_valid, is_utf8, bad_class}
use Rattle.refusals.specs.declared.Refusal.{Refusal}
use Rattle.refusals.specs.Refusals.{refusal_number, refusal_figure}
use Rattle.refusals.specs.Answers.{Answer, got, refused}
use Rattle.refusals.proofs.Answers.{got_is_not_refused, same_refused}
use Rattle.rules.specs.Script.{LIMIT, accepted}
use Rattle.room.specs.declared.Used.{Used}
use Rattle.questions.specs.Questions.{ask_utf8, ask_text, ask_room}

-- ── Questions 1 and 2 ──

module _ (s : List ℕ) where
  pub text_long : LIMIT < length s → refused 1 (length s) ≡ ask_text s
  unfolding ask_text
  text_long h = rw (lt-leb (length s) LIMIT h)

  pub text_valid : length s ≤ LIMIT → first_bad s ≡ None → got tt ≡ ask_text s
  unfolding ask_text ask_utf8
  text_valid h e = rw (le-leb (length s) LIMIT h, e)

  pub bad_answer : (p : ℕ) → length s ≤ LIMIT → first_bad s ≡ Some p → refused (bad_class (drop p s)) p ≡ ask_text s
  unfolding ask_text ask_utf8
  bad_answer p h e = rw (le-leb (length s) LIMIT h, e)

  pub text_bad : (x : Refusal) (p : ℕ) → length s ≤ LIMIT → first_bad s ≡ Some p → refusal_number x ≡ bad_class (drop p s) → refusal_figure x ≡ p
      → refused (refusal_number x) (refusal_figure x) ≡ ask_text s
  text_bad x p h e k f = rw (k, f) (bad_answer p h e)

  -- A refused script within the limit has a first bad sequence, which the number and the figure tell.
  pub no_bad : (n p : ℕ) → length s ≤ LIMIT → ask_text s ≡ refused n p → (first_bad s ≡ Some p) × (n ≡ bad_class (drop p s))
  unfolding ask_text ask_utf8
  no_bad n p h e = go (first_bad s) refl (sym (rw (le-leb (length s) LIMIT h)) ∙ e)
    where
      go : (x : Option ℕ) → first_bad s ≡ x → ask_utf8 s x ≡ refused n p → (first_bad s ≡ Some p) × (n ≡ bad_class (drop p s))
      go None f k = absurd (got_is_not_refused tt n p k)
      go (Some q) f k = let x = same_refused _ q n p k in (f ∙ ap Some x.1, sym x.0 ∙ ap (λ (i : ℕ). bad_class (drop i s)) x.1)

  -- A script that passes is an accepted one.
  pub yes_accepted : ask_text s ≡ got tt → accepted s ≡ true
  unfolding ask_text ask_utf8 accepted is_utf8 is_valid
  yes_accepted e = go (leb (length s) LIMIT) (first_bad s) e
    where
      go : (b : Bool) (x : Option ℕ) → (if not b then refused 1 (length s) else ask_utf8 s x) ≡ got tt → (b && is_valid x) ≡ true
      go false x k = absurd (got_is_not_refused tt _ _ (sym k))
      go true None k = refl
      go true (Some p) k = absurd (got_is_not_refused tt _ _ (sym k))

  -- So one that is short enough and has no bad sequence is.
  pub valid_accepted : length s ≤ LIMIT → first_bad s ≡ None → accepted s ≡ true
  valid_accepted h e = yes_accepted (sym (text_valid h e))

  -- It passes, with its bytes.
  pub valid_passes : length s ≤ LIMIT → first_bad s ≡ None → (bytes : List ℕ) → bytes ≡ s → (got tt ≡ ask_text s) × (bytes ≡ s)
  valid_passes h e bytes k = (text_valid h e, k)

-- ── Questions 3, 4 and 5 ──

module _ (u : Used) (tokens texts errors : ℕ) where
  pub room_3 : tokens < u.tokens → refused 3 u.tokens ≡ ask_room u tokens texts errors
  unfolding ask_room
  room_3 h = rw (lt-leb u.tokens tokens h)

  pub room_4 : u.tokens ≤ tokens → texts < u.texts → refused 4 u.texts ≡ ask_room u tokens texts errors
  unfolding ask_room
  room_4 g h = rw (le-leb u.tokens tokens g, lt-leb u.texts texts h)

  pub room_5 : u.tokens ≤ tokens → u.texts ≤ texts → errors < u.errors → refused 5 u.errors ≡ ask_room u tokens texts errors
  unfolding ask_room
  room_5 g h i = rw (le-leb u.tokens tokens g, le-leb u.texts texts h, lt-leb u.errors errors i)

  pub room_yes : u.tokens ≤ tokens → u.texts ≤ texts → u.errors ≤ errors → got tt ≡ ask_room u tokens texts errors
  unfolding ask_room
  room_yes g h i = rw (le-leb u.tokens tokens g, le-leb u.texts texts h, le-leb u.errors errors i)

  pub yes_room : ask_room u tokens texts errors ≡ got tt → (u.tokens ≤ tokens) × (u.texts ≤ texts) × (u.errors ≤ errors)
  unfolding ask_room
  yes_room e = go (leb u.tokens tokens) (leb u.texts texts) (leb u.errors errors) refl refl refl e
    where
      go : (a b c : Bool) → leb u.tokens tokens ≡ a → leb u.texts texts ≡ b → leb u.errors errors ≡ c
          → ◌≡◌ {A = Answer (Unit {0})} (if not a then refused 3 u.tokens else if not b then refused 4 u.texts else if not c then refused 5 u.errors else got tt) (got tt)
          → (u.tokens ≤ tokens) × (u.texts ≤ texts) × (u.errors ≤ errors)
      go true true true x y z k = (leb-true _ _ x, leb-true _ _ y, leb-true _ _ z)
      go true true false x y z k = absurd (got_is_not_refused tt _ _ (sym k))
      go true false c x y z k = absurd (got_is_not_refused tt _ _ (sym k))
      go false b c x y z k = absurd (got_is_not_refused tt _ _ (sym k))
