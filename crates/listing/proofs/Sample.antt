-- The listings of document 01's samples (specs/Sample.antt): the definitions give what the paper shows. Assumes nothing.
use mathlib.Core.Path.{◌≡◌, refl}
use Rattle.characters.specs.Choice.{within}
use Rattle.characters.specs.Utf8.{is_tail, second_ok, two_of, three_of, is_cut, has_own_range, is_barred, bad_class, width, sequence, first_of, after as afterChar, chars_past, chars_of, encode_char, encode, check_after, check_past, first_bad}
use Rattle.characters.specs.Space.{is_white}
use Rattle.spans.specs.Span.{single, earlier, later, merge}
use Rattle.rules.specs.Text.{one_of, is_empty, same_text, is_digit, is_letter, is_ident_start, is_ident_part, is_hex_digit, hex_value}
use Rattle.rules.specs.Scan.{next, starts_with, run, one_char}
use Rattle.rules.specs.Tables.{KEYWORDS, keyword_in, lookup_keyword, MARKS, lookup, THIRDS}
use Rattle.rules.specs.Numbers.{radix, is_digit_or_underscore, fraction, exponent, decimal_kind, decimal as decimalNumber, zero_then, parse_number}
use Rattle.rules.specs.Names.{parse_identifier_or_keyword}
use Rattle.rules.specs.Marks.{spelling as markSpelling, mark_with, mark_in, parse_mark, two_marks}
use Rattle.rules.specs.Lexer.{segment, segments, advance, advances, span as segmentSpan, tokens_of, errors_of, place, tokens, errors, closed, after, is_space, skip, skips, skipped_line_column}
use Rattle.rules.specs.Segment.{word_end}
use Rattle.rules.specs.Comments.{white_space}
use Rattle.byte_order_mark.specs.Mark.{has_mark, mark_length, after_mark}
use Rattle.rules.specs.Script.{script_text, script_tokens, script_errors, script_closed}
use Rattle.room.specs.Needed.{needed}
use Rattle.questions.specs.Questions.{ask_utf8, ask_text}
use Rattle.refusals.specs.Answers.{◌then◌}
use Rattle.lexer.specs.Tokenize.{measure_answer}
use Rattle.listing_fields.specs.Numbers.{decimal_in, decimal, hex_of}
use Rattle.listing_fields.specs.Fields.{field, span_fields, text_field}
use Rattle.listing_lines.specs.Lines.{head_of, token_line, token_lines, error_lines, closed_line, refused_line}
use Rattle.listing.specs.Listing.{answer_lines, listing}
use Rattle.listing.specs.Sample.{SAMPLE_SCRIPT, SAMPLE, CUT_SCRIPT, CUT_SAMPLE, BARRED_SCRIPT, BARRED_SAMPLE, LONG_SCRIPT, LONG_SAMPLE}

pub sample : listing SAMPLE_SCRIPT ≡ SAMPLE
unfolding one_char is_hex_digit hex_value THIRDS two_marks later after is_space skip skips skipped_line_column word_end white_space within width is_white single earlier merge one_of is_empty same_text is_digit is_letter is_ident_start is_ident_part next starts_with run KEYWORDS keyword_in lookup_keyword MARKS lookup radix is_digit_or_underscore fraction exponent decimal_kind decimalNumber zero_then parse_number parse_identifier_or_keyword markSpelling mark_with mark_in parse_mark segment segments advance advances segmentSpan tokens_of errors_of place tokens errors closed sequence first_of afterChar chars_past chars_of encode_char encode has_mark mark_length after_mark script_text script_tokens script_errors script_closed check_after check_past first_bad needed ask_utf8 ask_text ◌then◌ measure_answer decimal_in decimal hex_of field span_fields text_field head_of token_line token_lines error_lines closed_line answer_lines listing
sample = refl

pub cut_sample : listing CUT_SCRIPT ≡ CUT_SAMPLE
unfolding within sequence is_tail two_of first_of check_after check_past first_bad is_cut bad_class ask_utf8 ask_text ◌then◌ measure_answer decimal_in decimal field refused_line answer_lines listing
cut_sample = refl

pub barred_sample : listing BARRED_SCRIPT ≡ BARRED_SAMPLE
unfolding within sequence is_tail second_ok three_of first_of check_after check_past first_bad is_cut has_own_range is_barred bad_class ask_utf8 ask_text ◌then◌ measure_answer decimal_in decimal field refused_line answer_lines listing
barred_sample = refl

pub long_sample : listing LONG_SCRIPT ≡ LONG_SAMPLE
unfolding listing
long_sample = refl
