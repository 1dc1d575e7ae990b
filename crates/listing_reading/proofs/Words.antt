-- The line of a record, by whether its kind carries a text. Assumes nothing.
use mathlib.Core.Path.{◌≡◌}
use mathlib.Core.Bool.{true, false}
use mathlib.Core.List.{List}
use Prim.Native.Nat.{ℕ}
use Rattle.output.specs.Writing.{Put}
use Rattle.records.specs.Kinds.{has_text}
use Rattle.spellings.specs.Spelling.{spelling}
use Rattle.record_texts.specs.Texts.{text_at}
use Rattle.record_lists.specs.Lists.{word_of}
use Rattle.records.specs.declared.answers.TokenRecord.{TokenRecord}
use Rattle.listing_fields.specs.Room.{Room}
use Rattle.listing_lines.specs.Lines.{token_line}
use Rattle.listing_lines.specs.Words.{token}
use Rattle.listing_reading.specs.Reading.{record_line}

module _ (script texts s : List ℕ) (place : ℕ) (x : TokenRecord) where
  record_text : has_text x.kind ≡ true
      → record_line script texts s place x ≡ token_line (token x.kind (text_at script texts s place) x.span)
  unfolding record_line word_of
  record_text e = rw e

  record_fixed : has_text x.kind ≡ false
      → record_line script texts s place x ≡ token_line (token x.kind (spelling x.kind) x.span)
  unfolding record_line word_of
  record_fixed e = rw e

  pub text_room : (w : List ℕ) (at : ℕ) → has_text x.kind ≡ true → w ≡ text_at script texts s place
      → Room at (record_line script texts s place x) → Room at (token_line (token x.kind w x.span))
  text_room w at e f h = rw (record_text e, ← f) at h

  pub fixed_room : (at : ℕ) → has_text x.kind ≡ false
      → Room at (record_line script texts s place x) → Room at (token_line (token x.kind (spelling x.kind) x.span))
  fixed_room at e h = rw (record_fixed e) at h

  pub text_put : (a c w : List ℕ) (at r : ℕ) → has_text x.kind ≡ true → w ≡ text_at script texts s place
      → Put a c at (token_line (token x.kind w x.span)) r → Put a c at (record_line script texts s place x) r
  text_put a c w at r e f p = rw (record_text e, ← f) p

  pub fixed_put : (a c : List ℕ) (at r : ℕ) → has_text x.kind ≡ false
      → Put a c at (token_line (token x.kind (spelling x.kind) x.span)) r → Put a c at (record_line script texts s place x) r
  fixed_put a c at r e p = rw (record_fixed e) p
