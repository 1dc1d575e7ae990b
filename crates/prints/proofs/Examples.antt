-- The print of each worked example is what its row says. Assumes nothing.
use mathlib.Core.Path.{◌≡◌, refl}
use mathlib.Core.List.{map}
use Rattle.characters.specs.Choice.{within}
use Rattle.characters.specs.Utf8.{is_tail, second_ok, two_of, three_of, four_of, sequence, first_of, after as afterChar, chars_past, chars_of, width, encode_char, encode, bytes}
use Rattle.characters.specs.Space.{is_white}
use Rattle.byte_order_mark.specs.Mark.{has_mark, mark_length, after_mark}
use Rattle.rules.specs.Text.{one_of, is_empty, same_text, is_digit, is_letter, is_hex_digit, is_ident_start, is_ident_part, hex_value}
use Rattle.rules.specs.Scan.{next, starts_with, run, one_char, up_to}
use Rattle.rules.specs.Tables.{KEYWORDS, keyword_in, lookup_keyword, MARKS, THIRDS, ESCAPES, lookup}
use Rattle.rules.specs.Segment.{word_end}
use Rattle.rules.specs.Comments.{white_space, line_comment, block_comment}
use Rattle.rules.specs.Numbers.{hex_part, binary_part, radix, is_digit_or_underscore, fraction, exponent, decimal_kind, decimal, zero_then, parse_number}
use Rattle.rules.specs.Names.{parse_identifier_or_keyword}
use Rattle.rules.specs.Marks.{unexpected, spelling, two_marks, mark_with, mark_in, parse_mark}
use Rattle.rules.specs.Strings.{parse_raw_string, hex_code, char_of, unicode_escape, plain_escape, escape, string_ran_out, string_broken, string_ended, flush, other_escape, string_escape, brace_interp, name_interp, is_interp_start, string_dollar, turn, string_from, parse_string_tokens, parse_quote}
use Rattle.rules.specs.Characters.{close_char, char_escape, parse_char}
use Rattle.rules.specs.Docs.{trim_start, trim_end, trim, strip_stars, add_to_first, lines, join_lines, clean_line, clean_doc, line_doc, block_doc, parse_slash_or_comment}
use Rattle.rules.specs.Lexer.{dollar_braces, parse_dollar, segment, segments}
use Rattle.rules.specs.Script.{script_text}
use Rattle.prints.specs.Examples.{Example, EXAMPLES}
use Rattle.prints.specs.Elements.{elements_of, elements_in, elements, script_elements}
use Rattle.prints.specs.Print.{hex_digit, unicode, escaped, escapes, is_word, literal, parting, is_name, pieces, character, doc_lines, doc, emitted, is_doc, gap, layout, print_text, print_bytes}

pub examples_print : map (λ (r : Example). print_bytes (encode r.script)) EXAMPLES ≡ map (λ (r : Example). encode r.print) EXAMPLES
unfolding EXAMPLES within is_tail second_ok two_of three_of four_of sequence first_of afterChar chars_past chars_of width encode_char encode bytes is_white has_mark mark_length after_mark one_of is_empty same_text is_digit is_letter is_hex_digit is_ident_start is_ident_part hex_value next starts_with run one_char up_to KEYWORDS keyword_in lookup_keyword MARKS THIRDS ESCAPES lookup word_end white_space line_comment block_comment hex_part binary_part radix is_digit_or_underscore fraction exponent decimal_kind decimal zero_then parse_number parse_identifier_or_keyword unexpected spelling two_marks mark_with mark_in parse_mark parse_raw_string hex_code char_of unicode_escape plain_escape escape string_ran_out string_broken string_ended flush other_escape string_escape brace_interp name_interp is_interp_start string_dollar turn string_from parse_string_tokens parse_quote close_char char_escape parse_char trim_start trim_end trim strip_stars add_to_first lines join_lines clean_line clean_doc line_doc block_doc parse_slash_or_comment dollar_braces parse_dollar segment segments script_text elements_of elements_in elements script_elements hex_digit unicode escaped escapes is_word literal parting is_name pieces character doc_lines doc emitted is_doc gap layout print_text print_bytes
examples_print = refl
