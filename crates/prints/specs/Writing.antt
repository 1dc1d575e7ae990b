-- The print as it is written from left to right, token by token. What the parts of the writing promise each other speaks of it; the
-- promise of the print itself does not.
use Rattle.std.specs.Prelude.{Bool, true, false, ◌&&◌, ◌||◌, not, List, [], ◌∷◌, ◌++◌, ℕ, suc, if◌then◌else◌}
use Rattle.characters.specs.Choice.{◌is◌}
use Rattle.rules.specs.Text.{Text, ch, text, LF}
use Rattle.rules.specs.Tokens.{Token}
use Rattle.rules.specs.Tables.{StringInterpStart, EOF}
use Rattle.prints.specs.Elements.{Word, Element, lone, token_word}
use Rattle.prints.specs.Print.{literal, parting, is_name, emitted, is_doc}

-- ── Element by element ──

-- A space that is due, and the line feed behind a doc comment.
unfoldable pub due_space : Bool → Text
due_space due = if due then ch " " ∷ [] else []

unfoldable pub doc_feed : Bool → Text
doc_feed doc = if doc then LF ∷ [] else []

-- The elements, where `due` says that a space is due before the next one.
unfoldable pub written : Bool → List Element → Text
written due [] = []
written due (t ∷ ts) = due_space due ++ (emitted t ++ (doc_feed (is_doc t) ++ written (not (is_doc t)) ts))

-- Whether a space is due behind elements, if it was due before them.
unfoldable pub due_behind : Bool → List Element → Bool
due_behind due [] = due
due_behind due (t ∷ ts) = due_behind (not (is_doc t)) ts

-- ── Token by token ──

-- A piece of a string. `named` says that a `$name` stands right before it.
unfoldable pub one_piece : Bool → Word → Text
one_piece named w = if w.kind is StringInterpStart then parting named ++ w.text else literal named w.text

-- Whether the piece is a `$name`.
unfoldable pub name_behind : Word → Bool
name_behind w = w.kind is StringInterpStart && is_name w.text

-- What a writer owes: a space, or nothing; or inside a string its closing quote.
pub data State : Type 0 where
  outside : Bool → State  -- a space is due before the next element
  in_string : ℕ → Bool → State  -- the string's start; a `$name` stands right before

unfoldable pub closing_quote : State → Text
closing_quote (outside due) = []
closing_quote (in_string start named) = text "\""

unfoldable pub is_due : State → Bool
is_due (outside due) = due
is_due (in_string start named) = true

unfoldable pub is_named : State → Bool
is_named (outside due) = false
is_named (in_string start named) = named

-- A token that starts here continues the string.
unfoldable pub continues_at : State → ℕ → Bool
continues_at (outside due) n = false
continues_at (in_string start named) n = start is n

-- A token that begins a string, where `quoted` says so, or stands alone.
unfoldable pub begun : Bool → Word → Text
begun quoted w = if quoted then text "\"" ++ one_piece false w else emitted (lone w) ++ doc_feed (is_doc (lone w))

-- What is written for a token; `quoted` says that a quote stands where it starts.
unfoldable pub token_text : Bool → State → Token → Text
token_text quoted state t =
    if continues_at state t.span.start then one_piece (is_named state) (token_word t)
    else closing_quote state ++ (due_space (is_due state) ++ begun quoted (token_word t))

unfoldable pub state_behind : Bool → State → Token → State
state_behind quoted state t =
    if continues_at state t.span.start || quoted then in_string t.span.start (name_behind (token_word t))
    else outside (not (is_doc (lone (token_word t))))

-- All that is still to be written before these tokens, up to EOF.
unfoldable pub write_tokens : (ℕ → Bool) → State → List Token → Text
write_tokens quoted state [] = []
write_tokens quoted state (t ∷ ts) =
    let q = quoted t.span.start in
    if t.kind is EOF then closing_quote state else token_text q state t ++ write_tokens quoted (state_behind q state t) ts

-- ── Character by character ──

-- A longer doc text: each line feed, and the beginning of the next line.
unfoldable pub starred : Text → Text
starred [] = []
starred (c ∷ cs) = if c is LF then LF ∷ (text "* " ++ starred cs) else c ∷ starred cs

-- How many line feeds a text has.
unfoldable pub feeds : Text → ℕ
feeds [] = 0
feeds (c ∷ cs) = if c is LF then suc (feeds cs) else feeds cs
