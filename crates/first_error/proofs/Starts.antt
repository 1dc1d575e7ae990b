-- The start of the first error, read from a buffer at whose front the errors' records were written. Assumes nothing.
use mathlib.Core.Path.{◌≡◌, refl, sym, ◌∙◌, ap}
use mathlib.Core.Bool.{true}
use mathlib.Core.List.{List, [], ◌∷◌, ◌++◌}
use Prim.Native.Nat.{ℕ, suc, ◌≤◌}
use native.Mathlib.Nat.{zero-add}
use native.Mathlib.Omega.{arith}
use lib.ListN.{length, set, drop}
use lib.Seq.{sets}
use Rattle.characters.proofs.Buffers.{sets_append}
use Rattle.spans.specs.declared.Span.{Span}
use Rattle.rules.specs.Tokens.{TokenizeError}
use Rattle.rules.specs.Script.{accepted, script_errors}
use Rattle.rules.specs.Bounds.{Every, SpanFits}
use Rattle.rules.proofs.Fits.{error_spans_low}
use Rattle.records.specs.Records.{le32, pair_bytes, span_bytes, head_bytes, token_record, error_record}
use Rattle.records.specs.Layout.{error_record_of, error_bytes}
use Rattle.records.proofs.Sets.{sets_front}
use Rattle.records.proofs.Filling.{length_error_record}
use Rattle.output.proofs.Lengths.{error_bounds}
use Rattle.record_reading.specs.Reading.{num32, span_at}
use Rattle.record_lists.proofs.Front.{token_span}
use Rattle.first_error.specs.First.{first_start}

-- ── Bytes written behind others change none of them ──

sets_later : (x : ℕ) (l : List ℕ) (i : ℕ) (vs : List ℕ) → sets (x ∷ l) (suc i) vs ≡ x ∷ sets l i vs
sets_later x l i [] = refl
sets_later x l i (v ∷ vs) = sets_later x (set l i v) (suc i) vs

sets_behind : (a d vs : List ℕ) → sets (a ++ d) (length a) vs ≡ a ++ sets d 0 vs
sets_behind [] d vs = refl
sets_behind (x ∷ a) d vs = sets_later x (a ++ d) (length a) vs ∙ ap (λ (l : List ℕ). x ∷ l) (sets_behind a d vs)

-- A first value that fits stands whole at the front, whatever follows it.
front_whole : (b vs ws : List ℕ) → length vs ≤ length b → sets b 0 (vs ++ ws) ≡ vs ++ sets (drop (length vs) b) 0 ws
front_whole b vs ws h =
    sym (sets_append b 0 vs ws) ∙ (rw (zero-add (length vs), sets_front b vs h) (sets_behind vs (drop (length vs) b) ws))

-- ── The start in a record ──

record_start : (e : TokenizeError) (rest : List ℕ) → SpanFits e.span → num32 (error_record_of e ++ rest) 1 ≡ e.span.start
unfolding num32 span_at error_record_of error_record token_record head_bytes span_bytes pair_bytes le32
record_start e rest f = ap (λ (z : Span). z.start) (token_span e.kind e.span 0 0 rest f)

-- ── The start in the buffer ──

pub start_read : (b : List ℕ) (es : List TokenizeError) → 29 ≤ length b → num32 b 1 ≡ 0 → Every (λ (e : TokenizeError). SpanFits e.span) es
    → num32 (sets b 0 (error_bytes es)) 1 ≡ first_start es
unfolding error_bytes first_start
start_read b [] h z f = z
start_read b (e ∷ es) h z f =
    let g : length (error_record_of e) ≤ length b = omega (arith, length_error_record e, (error_bounds e.kind).1) in
    ap (λ (l : List ℕ). num32 l 1) (front_whole b (error_record_of e) (error_bytes es) g) ∙ record_start e _ f.0

-- The same after the list loop over a script.
pub first_read : (s b b' : List ℕ) (r : ℕ) → accepted s ≡ true → 29 ≤ length b → num32 b 1 ≡ 0 → b' ≡ sets b 0 (error_bytes (script_errors s))
    → r ≡ num32 b' 1 → r ≡ first_start (script_errors s)
first_read s b b' r ok h z w e =
    e ∙ (ap (λ (l : List ℕ). num32 l 1) w ∙ start_read b (script_errors s) h z (error_spans_low s ok))
