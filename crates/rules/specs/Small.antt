-- The small scripts of document 01 (rows marked M): one table, and what the rules give of its scripts.
use Rattle.std.specs.Prelude.{Bool, true, false, List, [], ◌∷◌, ◌++◌, map, ℕ}
use Rattle.characters.specs.Utf8.{encode}
use Rattle.rules.specs.Text.{Text, text}
use Rattle.rules.specs.Tokens.{Token, TokenizeError}
use Rattle.rules.specs.Tables.{EOF}
use Rattle.rules.specs.Lexer.{tokens, errors, closed}
use Rattle.rules.specs.Script.{script_tokens, script_errors, script_closed}

-- A row: the script, its tokens but EOF by kind and text, its errors by kind and start, and whether it is closed.
pub record SmallScript : Type 0 where
  pub script : Text
  pub kinds : List (ℕ × Text)
  pub faults : List (ℕ × ℕ)
  pub ends_closed : Bool

abbrev small : Text → List (ℕ × Text) → List (ℕ × ℕ) → Bool → SmallScript
small s ks es c = record { script = s; kinds = ks; faults = es; ends_closed = c }

unfoldable pub SMALL : List SmallScript
SMALL =
    small (text "") [] [] true
    ∷ small (text "\"\"") ((2, text "") ∷ []) [] true
    ∷ small (text "\"$a$b\"") ((121, text "$a$b") ∷ []) [] true
    ∷ small (text "\"$a") ((121, text "$a") ∷ (2, text "") ∷ []) ((4, 3) ∷ []) false
    ∷ small (text "1e") ((1, text "1e") ∷ []) [] true
    ∷ small (text "1f") ((0, text "1f") ∷ []) [] true
    ∷ small (text "0x") ((0, text "0x") ∷ []) [] true
    ∷ small (text ":=") ((114, text "::=") ∷ []) [] true
    ∷ small (text "'''") ((3, text "'") ∷ []) [] true
    ∷ small (text "''") ((3, text "'") ∷ []) ((9, 2) ∷ []) true
    ∷ small (text "\"\\uD800\"") ((2, text "") ∷ []) [] true
    ∷ small (text "$ab") ((5, text "$") ∷ (5, text "ab") ∷ []) [] true
    ∷ []

abbrev pub kind_and_text : Token → ℕ × List ℕ
kind_and_text t = (t.kind, t.text)

abbrev pub kind_and_start : TokenizeError → ℕ × ℕ
kind_and_start e = (e.kind, e.span.start)

-- What the row says, with EOF.
abbrev pub stated : SmallScript → List (ℕ × List ℕ) × List (ℕ × ℕ) × Bool
stated r = (r.kinds ++ ((EOF, []) ∷ []), r.faults, r.ends_closed)

-- What the rules give of the row's script.
abbrev pub given : SmallScript → List (ℕ × List ℕ) × List (ℕ × ℕ) × Bool
given r = (map kind_and_text (tokens r.script), map kind_and_start (errors r.script), closed r.script)

-- The same of the script's bytes. A text of the table has its characters for its bytes.
abbrev pub given_bytes : SmallScript → List (ℕ × List ℕ) × List (ℕ × ℕ) × Bool
given_bytes r =
    let s = encode r.script in
    (map kind_and_text (script_tokens s), map kind_and_start (script_errors s), script_closed s)
