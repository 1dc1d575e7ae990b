-- What comments begin with (lexer.rs, lines 358 to 376 and 929 to 949).
use Rattle.std.specs.Prelude.{Bool, ◌&&◌, not}
use Rattle.rules.specs.Text.{Text, text}
use Rattle.rules.specs.Scan.{starts_with}

-- A comment to the end of its line that is skipped: two slashes, and not a third.
unfoldable pub opens_line : Text → Bool
opens_line cs = starts_with (text "//") cs && not (starts_with (text "///") cs)

-- A block doc comment: `/**`, and not `/**/`.
unfoldable pub opens_doc : Text → Bool
opens_doc cs = starts_with (text "/**") cs && not (starts_with (text "/**/") cs)

-- A block comment that is skipped.
unfoldable pub opens_block : Text → Bool
opens_block cs = starts_with (text "/*") cs && not (opens_doc cs)
