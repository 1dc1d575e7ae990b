-- The text of the record at a place, and the check before it (document 01, "Records" and question 8).
use Rattle.std.specs.Prelude.{ℕ, ◌+◌, Bool, not, List, [], leb, length, take, drop, if◌then◌else◌}
use Rattle.byte_order_mark.specs.Mark.{mark_length, after_mark}
use Rattle.byte_order_mark.specs.Slices.{bytes_behind}
use Rattle.records.specs.Kinds.{has_text, is_made}
use Rattle.refusals.specs.Refusals.{RefusedPlace, RefusedText}
use Rattle.refusals.specs.Answers.{Answer, got, refused}
use Rattle.record_reading.specs.Reading.{is_whole, record_at}

-- What the text of a kind is a part of: the script after its byte-order mark, or the text buffer.
unfoldable pub home_of : List ℕ → List ℕ → ℕ → List ℕ
home_of script texts kind = if is_made kind then texts else after_mark script

-- Question 8: "Does the record's text lie inside its buffer?"
unfoldable pub is_inside : List ℕ → ℕ → ℕ → Bool
is_inside home offset len = leb (offset + len) (length home)

-- The part, which is empty where it does not lie inside.
unfoldable pub part_of : List ℕ → ℕ → ℕ → List ℕ
part_of home offset len = if is_inside home offset len then take len (drop offset home) else []

-- The check: 7, 8 or yes.
unfoldable pub text_check_at : List ℕ → List ℕ → List ℕ → ℕ → Answer (Unit {0})
text_check_at script texts s at =
    let r = record_at s at in
    if not (is_whole s at) then refused RefusedPlace at
    else if not (has_text r.kind) then got tt
    else if not (is_inside (home_of script texts r.kind) r.offset r.length) then refused RefusedText r.offset
    else got tt

-- The text: "empty where that check refuses or the kind carries no offset".
unfoldable pub text_at : List ℕ → List ℕ → List ℕ → ℕ → List ℕ
text_at script texts s at =
    let r = record_at s at in
    if not (is_whole s at) then []
    else if not (has_text r.kind) then []
    else part_of (home_of script texts r.kind) r.offset r.length

-- ── Where the text lies ──

-- Where what the text of a kind is a part of lies, for a script and a text buffer at these places.
unfoldable pub home_place : ℕ × ℕ → ℕ × ℕ → List ℕ → ℕ → ℕ × ℕ
home_place script-place texts-place script kind = if is_made kind then texts-place else bytes_behind (mark_length script) script-place

-- Where the part of a slice at a place lies. The empty part of one that it does not lie inside stands at its front.
unfoldable pub part_place : ℕ × ℕ → List ℕ → ℕ → ℕ → ℕ × ℕ
part_place place home offset len = if is_inside home offset len then bytes_behind offset place else place

-- Where the text lies. The empty text of no record, and of a kind that carries no offset, stands at the script's front.
unfoldable pub text_place_at : ℕ × ℕ → ℕ × ℕ → List ℕ → List ℕ → List ℕ → ℕ → ℕ × ℕ
text_place_at script-place texts-place script texts s at =
    let r = record_at s at in
    if not (is_whole s at) then script-place
    else if not (has_text r.kind) then script-place
    else part_place (home_place script-place texts-place script r.kind) (home_of script texts r.kind) r.offset r.length
