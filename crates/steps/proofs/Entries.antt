-- The record that a step gives for a token is the one that the layout of the buffers says. Assumes nothing.
use mathlib.Core.Path.{◌≡◌}
use mathlib.Core.Bool.{true, false}
use mathlib.Core.List.{[]}
use Prim.Native.Nat.{ℕ, ◌+◌, ◌-◌}
use native.Mathlib.Omega.{arith}
use lib.ListN.{length}
use Rattle.characters.specs.Utf8.{encode}
use Rattle.rules.specs.Tokens.{Token}
use Rattle.rules.specs.Script.{as_bytes}
use Rattle.records.specs.Kinds.{has_text, is_made}
use Rattle.records.specs.Records.{token_record}
use Rattle.records.specs.Layout.{made_text, text_offset, record_of}

module _ (used : ℕ) (t : Token) where
  pub made_is : is_made t.kind ≡ true → made_text (as_bytes t) ≡ encode t.text
  unfolding made_text
  made_is e = rw e

  pub made_none : is_made t.kind ≡ false → made_text (as_bytes t) ≡ []
  unfolding made_text
  made_none e = rw e

  -- A text in the text buffer.
  pub made_entry : (end : ℕ) → is_made t.kind ≡ true → end ≡ used + length (encode t.text)
      → token_record t.kind t.span used (end - used) ≡ record_of used (as_bytes t)
  unfolding record_of text_offset
  made_entry end e f =
      let n : end - used ≡ length (encode t.text) = omega arith in
      rw (e, n)

  -- A text that is a part of the script.
  pub part_entry : (offset size : ℕ) → is_made t.kind ≡ false → offset ≡ t.span.start → size ≡ length (encode t.text)
      → token_record t.kind t.span offset size ≡ record_of used (as_bytes t)
  unfolding record_of text_offset
  part_entry offset size e f g = rw (e, f, g)

  -- No text.
  pub bare_entry : (offset size : ℕ) → has_text t.kind ≡ false → token_record t.kind t.span offset size ≡ record_of used (as_bytes t)
  unfolding record_of token_record
  bare_entry offset size e = rw e
