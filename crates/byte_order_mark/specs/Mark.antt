-- The byte-order mark: one leading U+FEFF (RFC 3629, section 6), whose octets are EF BB BF. It is dropped (document 01, module 2).
use Rattle.std.specs.Prelude.{ℕ, Bool, ◌&&◌, List, get_or, drop, if◌then◌else◌}
use Rattle.characters.specs.Choice.{◌is◌}

unfoldable pub has_mark : List ℕ → Bool
has_mark s = get_or s 0 0 is 0xEF && get_or s 1 0 is 0xBB && get_or s 2 0 is 0xBF

unfoldable pub mark_length : List ℕ → ℕ
mark_length s = if has_mark s then 3 else 0

-- The text after its mark.
unfoldable pub after_mark : List ℕ → List ℕ
after_mark s = drop (mark_length s) s
