-- From the contract of printing alone: what a yes says, printing the print again, and a buffer that is never short. Assumes nothing.
use Rattle.std.specs.Prelude.{Result, Ok, Err, Option, Some, None, if◌then◌else◌}
use mathlib.Core.Path.{◌≡◌, refl, sym, ◌∙◌, ap, subst}
use mathlib.Core.Bool.{Bool, true, false, ◌&&◌, not, false≢true}
use mathlib.Core.List.{List, [], ◌∷◌, ◌++◌}
use Prim.Native.Nat.{ℕ, ◌*◌, ◌≤◌}
use native.Mathlib.Omega.{arith}
use borrow.Author.Tests.{leb-true}
use lib.Dec.{leb}
use lib.ListN.{length, take, drop}
use lib.Seq.{take_at, drop_at}
use Rattle.characters.specs.Utf8.{first_bad, is_valid, is_utf8, is_cut, is_barred, bad_class}
use Rattle.byte_order_mark.specs.Mark.{after_mark}
use Rattle.byte_order_mark.proofs.Marks.{mark_length_after}
use Rattle.rules.specs.Tokens.{TokenizeError}
use Rattle.rules.specs.Script.{LIMIT, accepted, script_errors}
use Rattle.refusals.specs.declared.Refusal.{Refusal}
use Rattle.refusals.specs.declared.Refusal.TheVariants.{Print}
use Rattle.refusals.specs.Refusals.{RefusedPrint}
use Rattle.refusals.specs.Answers.{Answer, got, refused, ◌then◌}
use Rattle.refusals.proofs.Answers.{got_is_not_refused, same_got, same_refused, ok_is, yes_then}
use Rattle.questions.specs.Questions.{ask_utf8, ask_text}
use Rattle.questions.proofs.Questions.{yes_accepted}
use Rattle.prints.specs.Print.{print_bytes}
use Rattle.prints.specs.Reprint.{Reprints}
use Rattle.prints.proofs.Scripts.{script_reprints, script_print_size}
use Rattle.printing.specs.Printing.{ask_mistake, ask_print, print_answer, buffer_after, Printed}
use Rattle.printing.specs.Calls.{Filed, PrintsSame}
use Rattle.printing.proofs.Laws.{mistake_yes, print_room}

-- ── Each question, answered with yes ──

yes_right : (es : List TokenizeError) → ask_mistake es ≡ got tt → es ≡ []
unfolding ask_mistake
yes_right [] e = refl
yes_right (x ∷ es) e = absurd (got_is_not_refused tt _ _ (sym e))

yes_room : (needed size : ℕ) → ask_print needed size ≡ got tt → needed ≤ size
unfolding ask_print
yes_room needed size e = go (leb needed size) refl e
  where
    go : (b : Bool) → leb needed size ≡ b → ◌≡◌ {A = Answer (Unit {0})} (if not b then refused RefusedPrint needed else got tt) (got tt) → needed ≤ size
    go true q k = leb-true needed size q
    go false q k = absurd (got_is_not_refused tt _ _ (sym k))

accepted_yes : (s : List ℕ) → accepted s ≡ true → ask_text s ≡ got tt
unfolding ask_text ask_utf8 accepted is_utf8 is_valid
accepted_yes s e = go (leb (length s) LIMIT) (first_bad s) e
  where
    go : (b : Bool) (x : Option ℕ) → (b && is_valid x) ≡ true → (if not b then refused 1 (length s) else ask_utf8 s x) ≡ got tt
    go true None k = refl
    go true (Some p) k = absurd (false≢true k)
    go false x k = absurd (false≢true k)

-- ── What a yes says ──

module _ (s out : List ℕ) (n : ℕ) (out' : List ℕ) (w : Printed s out (Ok n) out') where
  all_yes : (ask_text s ≡ got tt) × (ask_mistake (script_errors s) ≡ got tt) × (ask_print (length (print_bytes s)) (length out) ≡ got tt) × (n ≡ length (print_bytes s))
  unfolding print_answer
  all_yes =
      let a = yes_then _ _ n w.answer in
      let b = yes_then _ _ n a.1 in
      let d = yes_then _ _ n b.1 in
      (a.0, b.0, d.0, same_got _ _ d.1)

  buffer_is : out' ≡ print_bytes s ++ drop n out
  unfolding buffer_after
  buffer_is = w.out_after ∙ rw all_yes.3

  -- The script is accepted and has no error; as many bytes were written as its print has; they stand at the front, and those beyond
  -- them keep.
  pub print_says : Filed s out n out'
  print_says =
      let e : length (print_bytes s) ≡ n = sym all_yes.3 in
      record {
        is_accepted = yes_accepted s all_yes.0;
        no_error = yes_right (script_errors s) all_yes.1;
        size = all_yes.3;
        room = rw e at (yes_room _ _ all_yes.2);
        front = ap (take n) buffer_is ∙ take_at (print_bytes s) (drop n out) n e;
        beyond = ap (drop n) buffer_is ∙ drop_at (print_bytes s) (drop n out) n e;
      }

-- ── Printing a print ──

-- A script without errors is printed into every buffer that holds its print.
right_answer : (p : List ℕ) (size : ℕ) → accepted p ≡ true → script_errors p ≡ [] → length (print_bytes p) ≤ size
    → print_answer p size ≡ got (length (print_bytes p))
unfolding print_answer ◌then◌
right_answer p size ok right h = rw (accepted_yes p ok, mistake_yes (script_errors p) right, print_room (length (print_bytes p)) size h)

module _ (s p : List ℕ) (same : Reprints s p) (out : List ℕ) (r : Result ℕ Refusal) (out' : List ℕ) (h : length p ≤ length out)
    (w : Printed p out r out') where
  again_answer : r ≡ Ok (length p)
  again_answer =
      let e : length (print_bytes p) ≡ length p = ap length same.prints_again in
      ok_is r (length p)
      (w.answer ∙ (right_answer p (length out) same.is_accepted same.no_error (rw e h) ∙ ap got e))

  again_front : take (length p) out' ≡ p
  again_front =
      (print_says p out (length p) out' (subst (λ (x : Result ℕ Refusal). Printed p out x out') again_answer w)).front
      ∙ same.prints_again

-- The bytes that a first call wrote, within the limit.
module _ (s out : List ℕ) (n : ℕ) (out' : List ℕ) (w : Printed s out (Ok n) out') (fits : n ≤ LIMIT) where
  reprints_bytes : Reprints s (print_bytes s)
  reprints_bytes =
      let f = print_says s out n out' w in
      script_reprints s f.is_accepted f.no_error (rw f.size at fits)

  bytes_same : PrintsSame s n (print_bytes s)
  bytes_same =
      let e : length (print_bytes s) ≡ n = sym (print_says s out n out' w).size in
      let all = reprints_bytes in
      subst (λ (m : ℕ). PrintsSame s m (print_bytes s)) e
      (record {
        size = refl;
        reprints = all;
        answer = λ b r b' h q. again_answer s (print_bytes s) all b r b' h q;
        front = λ b r b' h q. again_front s (print_bytes s) all b r b' h q;
      })

  -- They say the same as the script, and printing them changes nothing.
  pub print_again : PrintsSame s n (take n out')
  print_again = subst (PrintsSame s n) (sym (print_says s out n out' w).front) bytes_same

-- ── A buffer that is never short ──

class_low : (s : List ℕ) → bad_class s ≤ 10
unfolding bad_class
class_low s = go (is_cut s) (is_barred s)
  where
    go : (a b : Bool) → (if a then 9 else if b then 10 else 2) ≤ 10
    go true b = omega arith
    go false true = omega arith
    go false false = omega arith

-- The numbers of the first two questions.
text_number : (s : List ℕ) (n f : ℕ) → ask_text s ≡ refused n f → n ≤ 10
unfolding ask_text ask_utf8
text_number s n f e = go (leb (length s) LIMIT) (first_bad s) e
  where
    number : (m g : ℕ) → m ≤ 10 → ◌≡◌ {A = Answer (Unit {0})} (refused m g) (refused n f) → n ≤ 10
    number m g h k = let z = (same_refused _ _ _ _ k).0 in omega arith

    go : (b : Bool) (x : Option ℕ) → (if not b then refused 1 (length s) else ask_utf8 s x) ≡ refused n f → n ≤ 10
    go false x k = number 1 (length s) (omega arith) k
    go true None k = absurd (got_is_not_refused tt n f k)
    go true (Some p) k = number (bad_class (drop p s)) p (class_low (drop p s)) k

-- With room for the print no answer is 12.
room_answer : (s : List ℕ) (size f : ℕ) → (accepted s ≡ true → script_errors s ≡ [] → length (print_bytes s) ≤ size)
    → refused RefusedPrint f ≡ print_answer s size → ⊥
unfolding print_answer ask_mistake ◌then◌
room_answer s size f room e = go (ask_text s) refl e
  where
    last : ask_text s ≡ got tt → (es : List TokenizeError) → script_errors s ≡ es
        → refused RefusedPrint f ≡ (ask_mistake es then ask_print (length (print_bytes s)) size then got (length (print_bytes s))) → ⊥
    last y [] q k =
        let h = print_room (length (print_bytes s)) size (room (yes_accepted s y) q) in
        got_is_not_refused (length (print_bytes s)) RefusedPrint f (sym (rw h at k))
    last y (x ∷ es) q k = let z = (same_refused _ _ _ _ k).0 in absurd (omega arith)

    go : (a : Answer (Unit {0})) → ask_text s ≡ a
        → refused RefusedPrint f ≡ (a then ask_mistake (script_errors s) then ask_print (length (print_bytes s)) size then got (length (print_bytes s))) → ⊥
    go (got _) y k = last y (script_errors s) refl k
    go (refused n g) y k = let z = (same_refused _ _ _ _ k).0 in let l = text_number s n g y in absurd (omega arith)

-- A print buffer of six times the script's bytes, its mark not counted, is never short.
pub never_short : (s out : List ℕ) (f : ℕ) (out' : List ℕ) → 6 * length (after_mark s) ≤ length out → Printed s out (Err (Print f)) out' → ⊥
never_short s out f out' h w =
    room_answer s (length out) f (λ ok right. omega (arith, script_print_size s ok right)) w.answer

-- So one of six times all its bytes is not.
pub never_short_whole : (s out : List ℕ) (f : ℕ) (out' : List ℕ) → 6 * length s ≤ length out → Printed s out (Err (Print f)) out' → ⊥
never_short_whole s out f out' h w = never_short s out f out' (omega (arith, mark_length_after s)) w
