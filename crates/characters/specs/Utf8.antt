-- UTF-8 by RFC 3629: what a character is. A text is a list of octets, a character is its code point.
use Rattle.std.specs.Prelude.{◌≡◌, ℕ, zero, suc, ◌+◌, ◌-◌, ◌*◌, ◌/◌, ◌%◌, Bool, true, false, ◌&&◌, ◌||◌, not, List, [], ◌∷◌, ◌++◌, leb, get_or, drop, if◌then◌else◌, Option, Some, None}
use Rattle.characters.specs.Choice.{◌is◌, within}
use Rattle.characters.specs.declared.Decoded.{Decoded}
use Rattle.characters.specs.declared.Decoded.TheVariants.{Code, Bad, End}

-- ── One character (section 4, the grammar) ──

-- UTF8-tail = %x80-BF
unfoldable pub is_tail : ℕ → Bool
is_tail b = within 0x80 0xBF b

-- The second octet `b` of UTF8-3 and UTF8-4, by the first octet `a`:
--   UTF8-3 = %xE0 %xA0-BF UTF8-tail / %xE1-EC 2( UTF8-tail ) / %xED %x80-9F UTF8-tail / %xEE-EF 2( UTF8-tail )
--   UTF8-4 = %xF0 %x90-BF 2( UTF8-tail ) / %xF1-F3 3( UTF8-tail ) / %xF4 %x80-8F 2( UTF8-tail )
unfoldable pub second_ok : ℕ → ℕ → Bool
second_ok a b =
    if a is 0xE0 then within 0xA0 0xBF b
    else if a is 0xED then within 0x80 0x9F b
    else if a is 0xF0 then within 0x90 0xBF b
    else if a is 0xF4 then within 0x80 0x8F b
    else is_tail b

-- The code point that two, three and four octets stand for (section 3: the bits of the first octet behind its marker, then six bits of
-- each further one), and their number.
abbrev pub code_two : ℕ → ℕ → Decoded
code_two a b = Code ((a - 0xC0) * 64 + (b - 0x80)) 2

abbrev pub code_three : ℕ → ℕ → ℕ → Decoded
code_three a b c = Code ((a - 0xE0) * 4096 + (b - 0x80) * 64 + (c - 0x80)) 3

abbrev pub code_four : ℕ → ℕ → ℕ → ℕ → Decoded
code_four a b c d = Code ((a - 0xF0) * 262144 + (b - 0x80) * 4096 + (c - 0x80) * 64 + (d - 0x80)) 4

-- UTF8-2, UTF8-3 and UTF8-4 for a first octet in their range.
unfoldable pub two_of : ℕ → ℕ → Decoded
two_of a b = if is_tail b then code_two a b else Bad

unfoldable pub three_of : ℕ → ℕ → ℕ → Decoded
three_of a b c = if second_ok a b && is_tail c then code_three a b c else Bad

unfoldable pub four_of : ℕ → ℕ → ℕ → ℕ → Decoded
four_of a b c d = if second_ok a b && is_tail c && is_tail d then code_four a b c d else Bad

-- UTF8-char = UTF8-1 / UTF8-2 / UTF8-3 / UTF8-4, of four octets. An octet that the text lacks is given as 0, which is no tail.
--   UTF8-1 = %x00-7F,  UTF8-2 = %xC2-DF UTF8-tail
unfoldable pub sequence : ℕ → ℕ → ℕ → ℕ → Decoded
sequence a b c d =
    if leb a 0x7F then Code a 1
    else if within 0xC2 0xDF a then two_of a b
    else if within 0xE0 0xEF a then three_of a b c
    else if within 0xF0 0xF4 a then four_of a b c d
    else Bad

-- The first character of a text.
unfoldable pub first_of : List ℕ → Decoded
first_of [] = End
first_of (a ∷ s) = sequence a (get_or s 0 0) (get_or s 1 0) (get_or s 2 0)

-- The character at a place of a text.
unfoldable pub decode_at : List ℕ → ℕ → Decoded
decode_at s at = first_of (drop at s)

-- ── The characters of a text (section 4: UTF8-octets = *( UTF8-char )) ──

-- What the first character gives, with the characters past so many octets more.
unfoldable pub after : (ℕ → List ℕ) → Decoded → List ℕ
after rest (Code v n) = v ∷ rest (n - 1)
after rest Bad = []
after rest End = []

-- The characters of a text past its first `k` octets, up to the first bad sequence.
unfoldable pub chars_past : List ℕ → ℕ → List ℕ
chars_past [] k = []
chars_past (a ∷ s) (suc k) = chars_past s k
chars_past (a ∷ s) zero = after (chars_past s) (first_of (a ∷ s))

-- The characters from a place on.
unfoldable pub chars_at : List ℕ → ℕ → List ℕ
chars_at s at = chars_past (drop at s) 0

-- The characters of a text.
unfoldable pub chars_of : List ℕ → List ℕ
chars_of s = chars_past s 0

-- ── The first bad sequence ──

unfoldable pub check_after : (ℕ → Option ℕ) → ℕ → Decoded → Option ℕ
check_after rest at (Code v n) = rest (n - 1)
check_after rest at Bad = Some at
check_after rest at End = None

-- The place of the first bad sequence's first octet. The text's first `k` octets are passed over, and its first octet stands
-- at the place `at`.
unfoldable pub check_past : List ℕ → ℕ → ℕ → Option ℕ
check_past [] k at = None
check_past (a ∷ s) (suc k) at = check_past s k (at + 1)
check_past (a ∷ s) zero at = check_after (λ k. check_past s k (at + 1)) at (first_of (a ∷ s))

unfoldable pub first_bad : List ℕ → Option ℕ
first_bad s = check_past s 0 0

unfoldable pub is_valid : Option ℕ → Bool
is_valid None = true
is_valid (Some at) = false

-- The text is UTF-8.
unfoldable pub is_utf8 : List ℕ → Bool
is_utf8 s = is_valid (first_bad s)

-- ── The class of a bad sequence (document 02, order 1) ──

-- The refusals of a text that is not UTF-8 (document 01, question 2): cut, barred, and the rest.
abbrev pub RefusedUtf8 : ℕ
RefusedUtf8 = 2

abbrev pub RefusedCut : ℕ
RefusedCut = 9

abbrev pub RefusedBarred : ℕ
RefusedBarred = 10

-- "Cut": "the text ends early and each byte present is allowed in its place by RFC 3629". The whole text is one octet that begins
-- UTF8-2, UTF8-3 or UTF8-4, two that begin UTF8-3 or UTF8-4, or three that begin UTF8-4.
unfoldable pub is_cut : List ℕ → Bool
is_cut [] = false
is_cut (a ∷ []) = within 0xC2 0xF4 a
is_cut (a ∷ b ∷ []) = within 0xE0 0xF4 a && second_ok a b
is_cut (a ∷ b ∷ c ∷ []) = within 0xF0 0xF4 a && second_ok a b && is_tail c
is_cut (a ∷ b ∷ c ∷ d ∷ s) = false

-- "a lead byte E0, ED, F0 or F4": the first octets behind which the second has a range of its own.
unfoldable pub has_own_range : ℕ → Bool
has_own_range a = a is 0xE0 || a is 0xED || a is 0xF0 || a is 0xF4

-- "Barred": such a lead "whose second byte is 80 to BF but outside that lead's range".
unfoldable pub is_barred : List ℕ → Bool
is_barred [] = false
is_barred (a ∷ []) = false
is_barred (a ∷ b ∷ s) = has_own_range a && is_tail b && not (second_ok a b)

-- The class of the bad sequence that a text begins with, as the number of the refusal that it leads to.
unfoldable pub bad_class : List ℕ → ℕ
bad_class s = if is_cut s then RefusedCut else if is_barred s then RefusedBarred else RefusedUtf8

-- ── Encoding (section 3) ──

-- The code points that have an encoding: 0 to 10FFFF without D800 to DFFF.
unfoldable pub is_scalar : ℕ → Bool
is_scalar c = leb c 0x10FFFF && not (within 0xD800 0xDFFF c)

-- All of a list are such.
abbrev pub Scalars : List ℕ → Type 0
Scalars [] = Unit
Scalars (c ∷ cs) = (is_scalar c ≡ true) × Scalars cs

-- How many octets a character has.
unfoldable pub width : ℕ → ℕ
width c = if leb c 0x7F then 1 else if leb c 0x7FF then 2 else if leb c 0xFFFF then 3 else 4

-- The octets of a character.
unfoldable pub encode_char : ℕ → List ℕ
encode_char c =
    if leb c 0x7F then c ∷ []
    else if leb c 0x7FF then (0xC0 + c / 64) ∷ (0x80 + c % 64) ∷ []
    else if leb c 0xFFFF then (0xE0 + c / 64 / 64) ∷ (0x80 + c / 64 % 64) ∷ (0x80 + c % 64) ∷ []
    else (0xF0 + c / 64 / 64 / 64) ∷ (0x80 + c / 64 / 64 % 64) ∷ (0x80 + c / 64 % 64) ∷ (0x80 + c % 64) ∷ []

-- The octets of a list of characters.
unfoldable pub encode : List ℕ → List ℕ
encode [] = []
encode (c ∷ cs) = encode_char c ++ encode cs

-- How many octets a list of characters has.
unfoldable pub bytes : List ℕ → ℕ
bytes [] = 0
bytes (c ∷ cs) = width c + bytes cs
