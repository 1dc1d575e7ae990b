-- A record that was written is read back where it stands in front. Assumes nothing.
use Rattle.std.specs.Prelude.{if◌then◌else◌}
use mathlib.Core.Path.{◌≡◌, refl}
use mathlib.Core.Bool.{true, false}
use mathlib.Core.List.{List, [], ◌++◌, append_assoc}
use Prim.Native.Nat.{ℕ, ◌+◌, ◌*◌, ◌/◌, ◌%◌, ◌≤◌, ◌<◌}
use lib.ListN.{length, length-append}
use borrow.Author.Tests.{le-leb}
use native.Mathlib.Nat.{mod-eq_of_lt}
use native.Mathlib.Omega.{arith}
use Rattle.characters.specs.Choice.{within}
use Rattle.spans.specs.declared.Span.{Span}
use Rattle.records.specs.Kinds.{is_kind, has_text, record_length, is_error_kind, has_code, error_length}
use Rattle.records.specs.Records.{le32, pair_bytes, span_bytes, head_bytes, token_record, error_record}
use Rattle.records.specs.Errors.{kind_of}
use Rattle.records.proofs.ErrorLaws.{of_bare}
use Rattle.record_reading.specs.Reading.{num32, span_at, kind_at, is_whole, record_at, is_whole_error, error_at}
use Rattle.rules.specs.Bounds.{Small, SpanFits}
use Rattle.records.proofs.Bytes.{length_token, length_error}

whole : (v : ℕ) → v % 256 + v / 256 % 256 * 256 + v / 65536 % 256 * 65536 + v / 16777216 * 16777216 ≡ v
whole v = omega arith

digits : (v : ℕ) → Small v → v % 256 + v / 256 % 256 * 256 + v / 65536 % 256 * 65536 + v / 16777216 % 256 * 16777216 ≡ v
digits v h =
    let top : v / 16777216 < 256 = omega arith in
    rw (mod-eq_of_lt top) (whole v)

-- ── The head, with anything after it ──

module _ (k : ℕ) (sp : Span) (rest : List ℕ) where
  kind_front : kind_at (head_bytes k sp ++ rest) 0 ≡ k
  unfolding kind_at head_bytes
  kind_front = refl

  span_front : SpanFits sp → span_at (head_bytes k sp ++ rest) 1 ≡ sp
  unfolding span_at num32 head_bytes span_bytes pair_bytes le32
  span_front f =
      rw (
        digits sp.start f.start,
        digits sp.end f.end,
        digits sp.start_line f.start_line,
        digits sp.start_col f.start_col,
        digits sp.end_line f.end_line,
        digits sp.end_col f.end_col,
      )

  first_front : (v : ℕ) → Small v → num32 (head_bytes k sp ++ (le32 v ++ rest)) 25 ≡ v
  unfolding num32 head_bytes span_bytes pair_bytes le32
  first_front v h = digits v h

  second_front : (w v : ℕ) → Small v → num32 (head_bytes k sp ++ (le32 w ++ (le32 v ++ rest))) 29 ≡ v
  unfolding num32 head_bytes span_bytes pair_bytes le32
  second_front w v h = digits v h

-- ── Records ──

module _ (k : ℕ) (sp : Span) (o n : ℕ) (rest : List ℕ) where
  -- The record and what follows it, as a head and what follows that.
  text_split : has_text k ≡ true → token_record k sp o n ++ rest ≡ head_bytes k sp ++ (le32 o ++ (le32 n ++ rest))
  unfolding token_record pair_bytes
  text_split t = rw (t, append_assoc, append_assoc)

  token_split : (tail : List ℕ) × (token_record k sp o n ++ rest ≡ head_bytes k sp ++ tail)
  unfolding token_record
  token_split = ((if has_text k then pair_bytes o n else []) ++ rest, append_assoc (head_bytes k sp) _ rest)

  pub token_kind : kind_at (token_record k sp o n ++ rest) 0 ≡ k
  token_kind = rw token_split.1 (kind_front k sp token_split.0)

  pub token_span : SpanFits sp → span_at (token_record k sp o n ++ rest) 1 ≡ sp
  token_span f = rw token_split.1 (span_front k sp token_split.0 f)

  pub token_whole : k ≤ 125 → is_whole (token_record k sp o n ++ rest) 0 ≡ true
  unfolding is_whole is_kind
  token_whole h =
      let l : 0 + record_length k ≤ length (token_record k sp o n ++ rest) = omega (arith, length-append (token_record k sp o n) rest, length_token k sp o n) in
      rw (token_kind, le-leb k 125 h, le-leb _ _ l)

  -- What is read of a record of a kind with a text, and of another.
  pub token_text_lem : has_text k ≡ true → SpanFits sp → Small o → Small n
      → record_at (token_record k sp o n ++ rest) 0 ≡ record { kind = k; span = sp; offset = o; length = n }
  unfolding record_at
  token_text_lem t f a b =
      let p : num32 (token_record k sp o n ++ rest) 25 ≡ o = rw (text_split t) (first_front k sp (le32 n ++ rest) o a) in
      let q : num32 (token_record k sp o n ++ rest) 29 ≡ n = rw (text_split t) (second_front k sp rest o n b) in
      rw (token_kind, t, token_span f, p, q)

  pub token_fixed : has_text k ≡ false → SpanFits sp → record_at (token_record k sp o n ++ rest) 0 ≡ record { kind = k; span = sp; offset = 0; length = 0 }
  unfolding record_at
  token_fixed t f = rw (token_kind, t, token_span f)

module _ (k : ℕ) (sp : Span) (v : ℕ) (rest : List ℕ) where
  code_split : has_code k ≡ true → error_record k sp v ++ rest ≡ head_bytes k sp ++ (le32 v ++ rest)
  unfolding error_record
  code_split t = rw (t, append_assoc)

  error_split : (tail : List ℕ) × (error_record k sp v ++ rest ≡ head_bytes k sp ++ tail)
  unfolding error_record
  error_split = ((if has_code k then le32 v else []) ++ rest, append_assoc (head_bytes k sp) _ rest)

  pub error_kind : kind_at (error_record k sp v ++ rest) 0 ≡ k
  error_kind = rw error_split.1 (kind_front k sp error_split.0)

  error_span : SpanFits sp → span_at (error_record k sp v ++ rest) 1 ≡ sp
  error_span f = rw error_split.1 (span_front k sp error_split.0 f)

  pub error_whole : 1 ≤ k → k ≤ 10 → is_whole_error (error_record k sp v ++ rest) 0 ≡ true
  unfolding is_whole_error is_error_kind within
  error_whole a h =
      let l : 0 + error_length k ≤ length (error_record k sp v ++ rest) = omega (arith, length-append (error_record k sp v) rest, length_error k sp v) in
      rw (error_kind, le-leb 1 k a, le-leb k 10 h, le-leb _ _ l)

  pub error_code : has_code k ≡ true → SpanFits sp → Small v → error_at (error_record k sp v ++ rest) 0 ≡ record { kind = kind_of k v; span = sp }
  unfolding error_at
  error_code t f a =
      let p : num32 (error_record k sp v ++ rest) 25 ≡ v = rw (code_split t) (first_front k sp rest v a) in
      rw (error_kind, error_span f, p)

  pub error_bare : has_code k ≡ false → SpanFits sp → error_at (error_record k sp v ++ rest) 0 ≡ record { kind = kind_of k 0; span = sp }
  unfolding error_at
  error_bare t f =
      rw (error_kind, error_span f, of_bare k (num32 (error_record k sp v ++ rest) 25) 0 t)
