-- Laws of the bytes of a record. Assumes nothing.
use Rattle.std.specs.Prelude.{if◌then◌else◌}
use mathlib.Core.Path.{◌≡◌, refl, ◌∙◌}
use mathlib.Core.Bool.{Bool, true, false}
use mathlib.Core.List.{List, [], append-nil}
use Prim.Native.Nat.{ℕ, ◌+◌}
use lib.ListN.{length, length-append}
use lib.Seq.{sets}
use Rattle.spans.specs.declared.Span.{Span}
use Rattle.records.specs.Kinds.{has_text, record_length, has_code, error_length}
use Rattle.records.specs.Records.{le32, pair_bytes, span_bytes, head_bytes, token_record, error_record}
use Rattle.characters.proofs.Buffers.{sets_more}

-- ── Lengths ──

pub length_head : (k : ℕ) (s : Span) → length (head_bytes k s) ≡ 25
unfolding head_bytes span_bytes pair_bytes le32
length_head k s = refl

tail_token : (t : Bool) (o n : ℕ) → 25 + length (if t then pair_bytes o n else []) ≡ if t then 33 else 25
unfolding pair_bytes le32
tail_token true o n = refl
tail_token false o n = refl

pub length_token : (k : ℕ) (s : Span) (o n : ℕ) → length (token_record k s o n) ≡ record_length k
unfolding token_record record_length
length_token k s o n = length-append (head_bytes k s) _ ∙ (rw (length_head k s) (tail_token (has_text k) o n))

tail_error : (t : Bool) (c : ℕ) → 25 + length (if t then le32 c else []) ≡ if t then 29 else 25
unfolding le32
tail_error true c = refl
tail_error false c = refl

pub length_error : (k : ℕ) (s : Span) (c : ℕ) → length (error_record k s c) ≡ error_length k
unfolding error_record error_length
length_error k s c = length-append (head_bytes k s) _ ∙ (rw (length_head k s) (tail_error (has_code k) c))

-- ── A record is its head and what its kind adds ──

module _ (b d : List ℕ) (at k : ℕ) (s : Span) where
  pub token_text_lem : (c : List ℕ) (o n : ℕ) → has_text k ≡ true → c ≡ sets b at (head_bytes k s) → d ≡ sets c (at + 25) (pair_bytes o n)
      → d ≡ sets b at (token_record k s o n)
  unfolding token_record
  token_text_lem c o n e p q = rw e (sets_more b c d at 25 (head_bytes k s) (pair_bytes o n) (length_head k s) p q)

  pub token_plain : (o n : ℕ) → has_text k ≡ false → d ≡ sets b at (head_bytes k s) → d ≡ sets b at (token_record k s o n)
  unfolding token_record
  token_plain o n e p = rw (e, append-nil (head_bytes k s)) p

  pub error_code : (c : List ℕ) (v : ℕ) → has_code k ≡ true → c ≡ sets b at (head_bytes k s) → d ≡ sets c (at + 25) (le32 v)
      → d ≡ sets b at (error_record k s v)
  unfolding error_record
  error_code c v e p q = rw e (sets_more b c d at 25 (head_bytes k s) (le32 v) (length_head k s) p q)

  pub error_bare : (v : ℕ) → has_code k ≡ false → d ≡ sets b at (head_bytes k s) → d ≡ sets b at (error_record k s v)
  unfolding error_record
  error_bare v e p = rw (e, append-nil (head_bytes k s)) p
