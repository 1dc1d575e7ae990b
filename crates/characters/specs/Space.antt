-- Unicode's White_Space, by the ranges of document 01, module 1.
use Rattle.std.specs.Prelude.{ℕ, Bool, ◌||◌}
use Rattle.characters.specs.Choice.{◌is◌, within}

unfoldable pub is_white : ℕ → Bool
is_white c =
    within 0x9 0xD c || c is 0x20 || c is 0x85 || c is 0xA0 || c is 0x1680 || within 0x2000 0x200A c
    || c is 0x2028 || c is 0x2029 || c is 0x202F || c is 0x205F || c is 0x3000
