-- The small scripts of document 01 (specs/Small.antt): the rules give what the table says. Assumes nothing.
use mathlib.Core.Path.{◌≡◌, refl}
use mathlib.Core.Bool.{true}
use mathlib.Core.List.{map}
use Rattle.characters.specs.Choice.{within}
use Rattle.characters.specs.Utf8.{sequence, first_of, after as afterChar, chars_past, chars_of, check_after, check_past, first_bad, is_valid, is_utf8, width, encode_char, encode}
use Rattle.characters.specs.Space.{is_white}
use Rattle.byte_order_mark.specs.Mark.{has_mark, mark_length, after_mark}
use Rattle.spans.specs.Span.{single, earlier, merge}
use Rattle.rules.specs.Text.{one_of, is_empty, same_text, is_digit, is_letter, is_hex_digit, is_ident_start, is_ident_part, hex_value}
use Rattle.rules.specs.Scan.{next, starts_with, run, one_char}
use Rattle.rules.specs.Tables.{KEYWORDS, keyword_in, lookup_keyword, MARKS, THIRDS, lookup}
use Rattle.rules.specs.Numbers.{radix, is_digit_or_underscore, fraction, exponent, decimal_kind, decimal, zero_then, parse_number}
use Rattle.rules.specs.Names.{parse_identifier_or_keyword}
use Rattle.rules.specs.Marks.{spelling, two_marks, mark_with, mark_in, parse_mark}
use Rattle.rules.specs.Strings.{hex_code, char_of, unicode_escape, escape, string_ran_out, string_ended, flush, string_escape, name_interp, is_interp_start, string_dollar, turn, string_from, parse_string_tokens, parse_quote}
use Rattle.rules.specs.Characters.{close_char, parse_char}
use Rattle.rules.specs.Lexer.{parse_dollar, segment, segments, advance, advances, span, tokens_of, errors_of, place, tokens, errors, closed}
use Rattle.rules.specs.Script.{accepted, script_text, script_tokens, script_errors, script_closed}
use Rattle.rules.specs.Small.{SmallScript, SMALL, stated, given, given_bytes}

pub small_scripts : map given SMALL ≡ map stated SMALL
unfolding within width is_white single earlier merge one_of is_empty same_text is_digit is_letter is_hex_digit is_ident_start is_ident_part hex_value next starts_with run one_char KEYWORDS keyword_in lookup_keyword MARKS THIRDS lookup radix is_digit_or_underscore fraction exponent decimal_kind decimal zero_then parse_number parse_identifier_or_keyword spelling two_marks mark_with mark_in parse_mark hex_code char_of unicode_escape escape string_ran_out string_ended flush string_escape name_interp is_interp_start string_dollar turn string_from parse_string_tokens parse_quote close_char parse_char parse_dollar segment segments advance advances span tokens_of errors_of place tokens errors closed SMALL
small_scripts = refl

-- The same of the scripts' bytes.
pub small_bytes : map given_bytes SMALL ≡ map stated SMALL
unfolding within width is_white single earlier merge one_of is_empty same_text is_digit is_letter is_hex_digit is_ident_start is_ident_part hex_value next starts_with run one_char KEYWORDS keyword_in lookup_keyword MARKS THIRDS lookup radix is_digit_or_underscore fraction exponent decimal_kind decimal zero_then parse_number parse_identifier_or_keyword spelling two_marks mark_with mark_in parse_mark hex_code char_of unicode_escape escape string_ran_out string_ended flush string_escape name_interp is_interp_start string_dollar turn string_from parse_string_tokens parse_quote close_char parse_char parse_dollar segment segments advance advances span tokens_of errors_of place tokens errors closed sequence first_of afterChar chars_past chars_of encode_char encode has_mark mark_length after_mark script_text script_tokens script_errors script_closed SMALL
small_bytes = refl

pub small_accepted : map (λ (r : SmallScript). accepted (encode r.script)) SMALL ≡ map (λ (r : SmallScript). true) SMALL
unfolding sequence first_of check_after check_past first_bad is_valid is_utf8 encode_char encode accepted SMALL
small_accepted = refl
