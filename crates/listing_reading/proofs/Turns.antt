-- The loops over records: a turn of the reader writes a line, and what is still to be written completes the whole. Assumes nothing.
use Rattle.std.specs.Prelude.{if◌then◌else◌}
use mathlib.Core.Path.{◌≡◌, refl}
use mathlib.Core.List.{List, [], ◌++◌}
use Prim.Native.Nat.{ℕ, zero, suc, ◌-◌, ◌≤◌, ◌<◌}
use native.Mathlib.Omega.{arith}
use borrow.Author.Tests.{eq-eqb, ne_eqb}
use lib.ListN.{length-append}
use Rattle.characters.specs.Choice.{◌is◌}
use Rattle.output.specs.Writing.{Put}
use Rattle.output.proofs.Buffers.{Writing, write_start, write_more, write_end}
use Rattle.rules.specs.Tables.{EOF}
use Rattle.refusals.specs.Answers.{Answer, got, refused}
use Rattle.record_reading.specs.Reading.{next_at, next_error_at}
use Rattle.record_texts.specs.Texts.{text_check_at, text_at}
use Rattle.record_lists.specs.Lists.{token_turn, tokens_from, error_of, error_turn, errors_from}
use Rattle.records.specs.declared.answers.TokenRecord.{TokenRecord}
use Rattle.records.specs.declared.answers.ErrorRecord.{ErrorRecord}
use Rattle.listing_fields.specs.Room.{Room}
use Rattle.listing_lines.specs.Lines.{token_lines, error_line, error_lines}
use Rattle.listing_reading.specs.Reading.{record_line, tokens_read, errors_read}

-- ── Errors ──

module _ (s : List ℕ) (place : ℕ) where
  pub errors_none : (left : ℕ) → left ≤ 0 → error_lines (errors_from left s place) ≡ []
  unfolding error_lines errors_from
  errors_none zero h = refl
  errors_none (suc left) h = absurd (omega arith)

  pub errors_got : (left next : ℕ) (r : ErrorRecord) → 0 < left → next_error_at s place ≡ record { answer = got r; place = next }
      → error_lines (errors_from left s place) ≡ error_line (error_of r) ++ error_lines (errors_from (left - 1) s next)
  unfolding error_lines errors_from error_turn
  errors_got zero next r h e = absurd (omega arith)
  errors_got (suc left) next r h e = let g : suc left - 1 ≡ left = omega arith in rw (e, g)

  pub errors_stop : (left n f at : ℕ) → next_error_at s place ≡ record { answer = refused n f; place = at }
      → error_lines (errors_from left s place) ≡ []
  unfolding error_lines errors_from error_turn
  errors_stop zero n f at e = refl
  errors_stop (suc left) n f at e = rw e

pub record Errors (s old b : List ℕ) (count at place left p : ℕ) : Type 0 where
  pub ahead : Writing old b at p (error_lines (errors_from left s place)) (errors_read s count)
  pub low : Room at (errors_read s count)

pub errors_start : (s b : List ℕ) (count at : ℕ) → Room at (errors_read s count) → Errors s b b count at 0 count at
unfolding errors_read
errors_start s b count at h = record { ahead = write_start b at (errors_read s count); low = h }

module _ (s old b : List ℕ) (count at place left p : ℕ) (g : Errors s old b count at place left p) where
  module _ (next : ℕ) (x : ErrorRecord) (h : 0 < left) (e : next_error_at s place ≡ record { answer = got x; place = next }) where
    writing_errors : Writing old b at p (error_line (error_of x) ++ error_lines (errors_from (left - 1) s next)) (errors_read s count)
    writing_errors = rw (errors_got s place left next x h e) at g.ahead

    pub errors_place : Room p (error_line (error_of x))
    errors_place =
        record {
          fits = omega (arith, writing_errors.used, g.low.fits, length-append (error_line (error_of x)) (error_lines (errors_from (left - 1) s next)));
        }

    pub errors_more : (c : List ℕ) (r : ℕ) → Put b c p (error_line (error_of x)) r → Errors s old c count at next (left - 1) r
    errors_more c r q =
        record {
          ahead = write_more old b c at p r (error_line (error_of x)) (error_lines (errors_from (left - 1) s next)) (errors_read s count) writing_errors q;
          low = g.low;
        }

  pub errors_end : error_lines (errors_from left s place) ≡ [] → Put old b at (errors_read s count) p
  errors_end e = write_end old b at p (errors_read s count) (rw e at g.ahead)

-- ── Tokens ──

module _ (script texts s : List ℕ) (place : ℕ) where
  pub tokens_none : (left : ℕ) → left ≤ 0 → token_lines (tokens_from left script texts s place) ≡ []
  unfolding token_lines tokens_from
  tokens_none zero h = refl
  tokens_none (suc left) h = absurd (omega arith)

  -- The rest after a record: nothing after EOF.
  unfoldable pub behind : ℕ → ℕ → TokenRecord → List ℕ
  behind left next r = token_lines (if r.kind is EOF then [] else tokens_from (left - 1) script texts s next)

  pub tokens_got : (left next : ℕ) (r : TokenRecord) → 0 < left → next_at s place ≡ record { answer = got r; place = next }
      → text_check_at script texts s place ≡ got tt
      → token_lines (tokens_from left script texts s place) ≡ record_line script texts s place r ++ behind left next r
  unfolding token_lines tokens_from token_turn record_line behind
  tokens_got zero next r h e f = absurd (omega arith)
  tokens_got (suc left) next r h e f = let g : suc left - 1 ≡ left = omega arith in rw (e, f, g)

  pub tokens_stop : (left n f at : ℕ) → next_at s place ≡ record { answer = refused n f; place = at }
      → token_lines (tokens_from left script texts s place) ≡ []
  unfolding token_lines tokens_from token_turn
  tokens_stop zero n f at e = refl
  tokens_stop (suc left) n f at e = rw e (stop (text_check_at script texts s place))
    where
      stop : (a : Answer (Unit {0})) → token_lines (token_turn (tokens_from left script texts s) (text_at script texts s place) a (refused n f) at) ≡ []
      stop (got x) = refl
      stop (refused m k) = refl

  pub tokens_refused : (left n f : ℕ) → text_check_at script texts s place ≡ refused n f
      → token_lines (tokens_from left script texts s place) ≡ []
  unfolding token_lines tokens_from token_turn
  tokens_refused zero n f e = refl
  tokens_refused (suc left) n f e = rw e

pub record Tokens (script texts s old b : List ℕ) (count place left p : ℕ) : Type 0 where
  pub ahead : Writing old b 0 p (token_lines (tokens_from left script texts s place)) (tokens_read script texts s count)
  pub low : Room 0 (tokens_read script texts s count)

pub tokens_start : (script texts s b : List ℕ) (count : ℕ) → Room 0 (tokens_read script texts s count)
    → Tokens script texts s b b count 0 count 0
unfolding tokens_read
tokens_start script texts s b count h = record { ahead = write_start b 0 (tokens_read script texts s count); low = h }

module _ (script texts s old b : List ℕ) (count place left p : ℕ) (g : Tokens script texts s old b count place left p) where
  module _ (next : ℕ) (x : TokenRecord) (h : 0 < left) (e : next_at s place ≡ record { answer = got x; place = next })
      (f : text_check_at script texts s place ≡ got tt) where
    writing : Writing old b 0 p (record_line script texts s place x ++ behind script texts s place left next x) (tokens_read script texts s count)
    writing = rw (tokens_got script texts s place left next x h e f) at g.ahead

    pub tokens_place : Room p (record_line script texts s place x)
    tokens_place =
        record {
          fits = omega (arith, writing.used, g.low.fits, length-append (record_line script texts s place x) (behind script texts s place left next x));
        }

    pub tokens_more : (c : List ℕ) (r : ℕ) → (x.kind ≡ 124 → ⊥) → Put b c p (record_line script texts s place x) r
        → Tokens script texts s old c count next (left - 1) r
    unfolding behind
    tokens_more c r k q =
        let w = write_more old b c 0 p r (record_line script texts s place x) (behind script texts s place left next x) (tokens_read script texts s count) writing q in
        record { ahead = rw (ne_eqb x.kind 124 k) at w; low = g.low }

    pub tokens_last : (c : List ℕ) (r : ℕ) → x.kind ≡ 124 → Put b c p (record_line script texts s place x) r
        → Put old c 0 (tokens_read script texts s count) r
    unfolding behind token_lines
    tokens_last c r k q =
        let w = write_more old b c 0 p r (record_line script texts s place x) (behind script texts s place left next x) (tokens_read script texts s count) writing q in
        write_end old c 0 r (tokens_read script texts s count) (rw (eq-eqb x.kind 124 k) at w)

  pub tokens_end : token_lines (tokens_from left script texts s place) ≡ [] → Put old b 0 (tokens_read script texts s count) p
  tokens_end e = write_end old b 0 p (tokens_read script texts s count) (rw e at g.ahead)
