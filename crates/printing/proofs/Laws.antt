-- Laws of the answer of printing: by the questions one after another. Assumes nothing.
use Rattle.std.specs.Prelude.{Result, Ok, Err}
use mathlib.Core.Path.{◌≡◌, refl, sym, ◌∙◌, ap, subst}
use mathlib.Core.List.{List, [], ◌∷◌, ◌++◌, append-nil}
use Prim.Native.Nat.{ℕ, ◌≤◌, ◌<◌}
use native.Mathlib.Nat.{zero-add}
use native.Mathlib.Omega.{arith}
use borrow.Author.Tests.{le-leb, lt-leb}
use lib.ListN.{length, take, drop}
use lib.Seq.{length-take-le, drop-length}
use Rattle.std.specs.Prelude.{Ok, Err}
use Rattle.refusals.specs.declared.Refusal.{Refusal}
use Rattle.refusals.specs.declared.Refusal.TheVariants.{Mistake, Print}
use Rattle.refusals.specs.Refusals.{RefusedMistake, RefusedPrint, refusal_number, refusal_figure}
use Rattle.refusals.specs.Answers.{got, refused, ◌then◌}
use Rattle.rules.specs.Tokens.{TokenizeError}
use Rattle.rules.specs.Script.{script_errors}
use Rattle.records.proofs.Sets.{sets_front}
use Rattle.output.specs.Writing.{Put}
use Rattle.questions.specs.Questions.{ask_text}
use Rattle.prints.specs.Print.{print_bytes}
use Rattle.first_error.specs.First.{first_start}
use Rattle.print_places.specs.declared.Flawed.{Flawed}
use Rattle.print_loop.proofs.Outcomes.{walked_bad, walked_print}
use Rattle.printing.specs.Passes.{WalkedFront}
use Rattle.printing.specs.Printing.{ask_mistake, ask_print, print_answer, buffer_after, Printed}

-- ── The questions ──

-- "11 if an error was recorded (figure: start of the first)".
pub mistake_no : (es : List TokenizeError) → (es ≡ [] → ⊥) → ask_mistake es ≡ refused RefusedMistake (first_start es)
unfolding ask_mistake first_start
mistake_no [] f = absurd (f refl)
mistake_no (e ∷ es) f = refl

pub mistake_yes : (es : List TokenizeError) → es ≡ [] → ask_mistake es ≡ got tt
unfolding ask_mistake
mistake_yes es e = rw e

pub print_no_room : (needed size : ℕ) → size < needed → ask_print needed size ≡ refused RefusedPrint needed
unfolding ask_print
print_no_room needed size h = rw (lt-leb needed size h)

pub print_room : (needed size : ℕ) → needed ≤ size → ask_print needed size ≡ got tt
unfolding ask_print
print_room needed size h = rw (le-leb needed size h)

-- A print that was written from the front on: how many bytes it has.
pub put_size : (a b bytes : List ℕ) (n : ℕ) → Put a b 0 bytes n → n ≡ length bytes
put_size a b bytes n p = p.place ∙ zero-add (length bytes)

-- ── The two passes ──

no_bytes : (l : List ℕ) → length l ≡ 0 → l ≡ []
no_bytes [] e = refl
no_bytes (x ∷ l) e = absurd (omega arith)

-- A pass over no byte changes none.
pub front_none : (s out out' : List ℕ) (w : Result ℕ Flawed) → WalkedFront s 0 out out' w → out' ≡ out
front_none s out out' w f = f.after ∙ ap (λ (l : List ℕ). l ++ out) (no_bytes f.front f.size)

-- A pass over as many bytes as the print has writes it.
pub front_print : (s out out' : List ℕ) (n : ℕ) (w : Result ℕ Flawed) → WalkedFront s n out out' w → script_errors s ≡ [] → n ≡ length (print_bytes s)
    → n ≤ length out → out' ≡ print_bytes s ++ drop n out
front_print s out out' n w f right e h =
    let a = take n out in
    let k : length a ≡ length (print_bytes s) = length-take-le n out h ∙ e in
    let p = (walked_print s a f.front w f.walked right).2 in
    let g : f.front ≡ print_bytes s
    = p.written ∙ (sets_front a (print_bytes s) (omega (arith, k)) ∙ (ap (λ (m : ℕ). print_bytes s ++ drop m a) (sym k) ∙ (ap (λ (l : List ℕ). print_bytes s ++ l) (drop-length a) ∙ append-nil (print_bytes s)))) in
    f.after ∙ ap (λ (l : List ℕ). l ++ drop n out) g

-- ── Each return ──

module _ (s out : List ℕ) where
  -- Questions 1 and 2.
  pub print_refused : (x : Refusal) → ask_text s ≡ refused (refusal_number x) (refusal_figure x) → Printed s out (Err x) out
  unfolding print_answer ◌then◌ buffer_after
  print_refused x e = record { answer = rw e; out_after = refl }

  module _ (out₁ : List ℕ) (y : ask_text s ≡ got tt) where
    -- 11.
    pub print_mistake : (e : Flawed) (f : ℕ) → WalkedFront s 0 out out₁ (Err e) → f ≡ first_start (script_errors s)
        → Printed s out (Err (Mistake f)) out₁
    unfolding print_answer ◌then◌ buffer_after
    print_mistake e f first q =
        record {
          answer = rw (y, mistake_no (script_errors s) (walked_bad s (take 0 out) first.front e first.walked), q);
          out_after = front_none s out out₁ (Err e) first;
        }

    module _ (bytes : ℕ) (first : WalkedFront s 0 out out₁ (Ok bytes)) where
      right : script_errors s ≡ []
      right = first.walked.0

      size : bytes ≡ length (print_bytes s)
      size = put_size _ _ (print_bytes s) bytes first.walked.1

      -- 12.
      pub print_short : length out < bytes → Printed s out (Err (Print bytes)) out₁
      unfolding print_answer ◌then◌ buffer_after
      print_short h =
          record {
            answer = rw (y, mistake_yes (script_errors s) right, ← size, print_no_room bytes (length out) h);
            out_after = front_none s out out₁ (Ok bytes) first;
          }

      -- A yes.
      pub print_done : bytes ≤ length out → (out₂ : List ℕ) (v : Result ℕ Flawed) → WalkedFront s bytes out₁ out₂ v → Printed s out (Ok bytes) out₂
      unfolding print_answer ◌then◌ buffer_after
      print_done h out₂ v second =
          let z = subst (λ (l : List ℕ). WalkedFront s bytes l out₂ v) (front_none s out out₁ (Ok bytes) first) second in
          record {
            answer = rw (y, mistake_yes (script_errors s) right, ← size, print_room bytes (length out) h);
            out_after = front_print s out out₂ bytes v z right size h ∙ ap (λ (n : ℕ). print_bytes s ++ drop n out) size;
          }
