-- Where a word begins.
use Rattle.std.specs.Prelude.{◌≡◌, Bool, true, ◌||◌, not, List, ℕ, ◌+◌, get_or, if◌then◌else◌}
use Rattle.characters.specs.Choice.{◌is◌, within}
use Rattle.characters.specs.Utf8.{chars_at}
use Rattle.rules.specs.Text.{Text, text}
use Rattle.rules.specs.Scan.{starts_with}
use Rattle.classes.specs.Classes.{LAST_MARK, SLASH, DOLLAR, LETTER, DIGIT, class_of}

-- The classes of the characters with which a word can begin.
unfoldable pub is_word_class : ℕ → Bool
is_word_class k = k is DOLLAR || k is LETTER || k is DIGIT || within 1 LAST_MARK k

-- A word begins with a character of the class `k` before `cs`: a letter, a digit, a dollar sign that opens no braces, a mark that
-- begins no comment.
unfoldable pub begins_word : ℕ → Text → Bool
begins_word k cs =
    if k is DOLLAR then not (starts_with (text "{") cs)
    else if k is SLASH then not (starts_with (text "/") cs || starts_with (text "*") cs)
    else k is LETTER || k is DIGIT || within 1 LAST_MARK k

-- A word begins at a place, whose byte is of the class `k`. It is what the caller's tests have told of this one place, so it is asked.
pub record Begun (s : List ℕ) (at k : ℕ) : Type 0 where
  pub class_is : k ≡ class_of (get_or s at 0)
  pub begins : begins_word k (chars_at s (at + 1)) ≡ true
