-- The places at which a name is compared with a keyword.
use Rattle.std.specs.Prelude.{ℕ, ltb, if◌then◌else◌}

-- The place `i` in a word of `n` characters; past its end the first place again.
unfoldable pub pick : ℕ → ℕ → ℕ
pick i n = if ltb i n then i else 0
