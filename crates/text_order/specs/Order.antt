-- Where the texts lie in the text buffer (document 02, order 3): "Texts now lie in the order of their tokens, from byte 0, without gaps;
-- an empty one's offset is the end of the text before it, or 0."
use Rattle.std.specs.Prelude.{◌≡◌, ℕ, ◌+◌, length, take, drop, if◌then◌else◌}
use mathlib.Core.List.{List, [], ◌∷◌, flatten}
use Rattle.rules.specs.Tokens.{Token}
use Rattle.rules.specs.Script.{script_tokens}
use Rattle.records.specs.Kinds.{is_made}
use Rattle.lexer.specs.Joining.{Call}
use Rattle.lexer.specs.Places.{Place, places_from}

-- ── Texts and places ──

-- The texts that stand in the text buffer, in the order of their tokens.
unfoldable pub made_texts : List Token → List (List ℕ)
made_texts [] = []
made_texts (t ∷ ts) = if is_made t.kind then t.text ∷ made_texts ts else made_texts ts

-- The places of texts that lie one behind another, after so many bytes: the offset of each, an empty one too, is the sum of the lengths
-- before it.
unfoldable pub places_after : ℕ → List (List ℕ) → List Place
places_after before [] = []
places_after before (text ∷ texts) = record { offset = before; size = length text } ∷ places_after (before + length text) texts

-- ── What a reader meets ──

abbrev pub places_met : Call → List Place
places_met k = places_from k.used.count k.tokens_after 0

-- A buffer read straight through: so many bytes for each place, one text behind another. The offsets are not looked at.
unfoldable pub read_through : List Place → List ℕ → List (List ℕ)
read_through [] bytes = []
read_through (p ∷ ps) bytes = take p.size bytes ∷ read_through ps (drop p.size bytes)

-- ── Order 3 ──

abbrev pub texts_of : Call → List (List ℕ)
texts_of k = made_texts (script_tokens k.script)

-- What a call of tokenising leaves: the texts of its tokens, one behind another, are the bytes used of the text buffer; the places in the
-- records are theirs, from byte 0 on; and who reads the buffer straight through, by the lengths in the records alone, meets the texts.
pub record TextsInOrder (k : Call) : Type 0 where
  pub used : k.used.texts ≡ length (flatten (texts_of k))
  pub bytes : take k.used.texts k.texts_after ≡ flatten (texts_of k)
  pub places : places_met k ≡ places_after 0 (texts_of k)
  pub straight : read_through (places_met k) k.texts_after ≡ texts_of k
