-- Where a part of a slice lies. A slice points to a place: a block of memory, and an offset in it (`ref_ptr`).
use Rattle.std.specs.Prelude.{ℕ, ◌+◌}

-- So many bytes behind a place, in the same block.
abbrev pub bytes_behind : ℕ → ℕ × ℕ → ℕ × ℕ
bytes_behind n p = (p.0, n + p.1)
