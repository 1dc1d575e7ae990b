-- Worked examples of the print: scripts, and what each is printed as.
use Rattle.std.specs.Prelude.{List, [], ◌∷◌}
use Rattle.rules.specs.Text.{Text, text}

pub record Example : Type 0 where
  pub script : Text
  pub print : Text

abbrev pub example : Text → Text → Example
example s p = record { script = s; print = p }

unfoldable pub EXAMPLES : List Example
EXAMPLES =
    example (text "") (text "")
    ∷ example (text "// c") (text "")
    ∷ example (text "val a=1") (text "val a = 1")
    ∷ example (text "\"a$b\"c") (text "\"a$b\" c")
    ∷ example (text "\"\"\"x\"y\"\"\"") (text "\"x\\\"y\"")
    ∷ example (text "a:=b") (text "a := b")
    ∷ example (text "x:=1 ") (text "x := 1")
    ∷ example (text "\"$a\\uD800b\"") (text "\"$a\\u0062\"")
    ∷ example (text "\"$a\\uD800$b\"") (text "\"$a\\uD800$b\"")
    ∷ example (text "\"a$$b\"") (text "\"a\\u0024$b\"")
    ∷ example (text "${a b}") (text "${}")
    ∷ example (text "${x y}z") (text "${} z")
    ∷ example (text "/***/") (text "/// \n")
    ∷ example (text "\"\"\"a\n\"b$c\\\"\"\"") (text "\"a\\n\\\"b\\u0024c\\\\\"")
    ∷ example (text "\"$a\\u0062$b.c\"") (text "\"$a\\u0062$b.c\"")
    ∷ example (text "\"$a\\uD800${b}c$d_\"") (text "\"$a\\uD800${b}c$d_\"")
    ∷ example (text "'\\uD800' ''' '\n'") (text "'\\uD800' '\\'' '\\n'")
    ∷ example (text "/// a\nx") (text "/// a\nx")
    ∷ example (text "x///") (text "x /// \n")
    ∷ example (text "/** a\n\n * b */ x") (text "/**\n* a\n* \n* b\n*/\nx")
    ∷ example (text "\"$\" '$'") (text "\"\\u0024\" '$'")
    ∷ example (text "\"$a\\u007a\\u005f\" \"\"") (text "\"$a\\u007a_\" \"\"")
    ∷ example (text "\"é€\"+1") (text "\"é€\" + 1")
    ∷ example (text "/// */\n<<=") (text "/// */\n<< =")
    ∷ []
