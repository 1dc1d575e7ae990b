-- Where a doc comment begins.
use Rattle.std.specs.Prelude.{◌≡◌, true, false, List, ℕ}
use Rattle.characters.specs.Utf8.{chars_at}
use Rattle.spans.specs.declared.Position.{Position}
use Rattle.rules.specs.Scan.{starts_with}
use Rattle.walks.specs.Openings.{opens_doc}
use Rattle.multiline.specs.Tokens.{slashes}

-- Three slashes stand at a position, or a block doc comment opens there.
abbrev pub Documented : List ℕ → Position → Type 0
Documented s p = starts_with slashes (chars_at s p.offset) ≡ false → opens_doc (chars_at s p.offset) ≡ true
