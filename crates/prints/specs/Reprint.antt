-- What order 2 promises of a print.
use Rattle.std.specs.Prelude.{◌≡◌, true, false, List, [], map, ℕ}
use Rattle.byte_order_mark.specs.Mark.{has_mark}
use Rattle.rules.specs.Script.{accepted, script_tokens, script_errors, script_closed}
use Rattle.prints.specs.Elements.{token_word, script_elements}
use Rattle.prints.specs.Print.{print_bytes}
use Rattle.prints.specs.Records.{script_continues, script_inside}

-- The text `p` is a script that says the same as the script `s`, and is printed already.
pub record Reprints (s p : List ℕ) : Type 0 where
  pub is_accepted : accepted p ≡ true
  pub no_mark : has_mark p ≡ false
  pub no_error : script_errors p ≡ []
  pub is_closed : script_closed p ≡ true
  pub same_words : map token_word (script_tokens p) ≡ map token_word (script_tokens s)  -- the same kinds and texts, as bytes
  pub same_groups : script_continues p ≡ script_continues s  -- the same grouping of pieces into strings
  pub same_inside : script_inside p ≡ script_inside s  -- the same answer to whether a token, as a 121, stands in a string
  pub same_elements : script_elements p ≡ script_elements s  -- all of this in one
  pub prints_again : print_bytes p ≡ p
