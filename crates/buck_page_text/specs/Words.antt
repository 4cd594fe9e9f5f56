-- Numbers as they are rounded to be printed.
use Rattle.std.specs.Prelude.{ℕ, ◌+◌, ◌*◌, ◌/◌}

-- to the nearest integer, a half upwards
abbrev pub half_up : ℕ → ℕ → ℕ
half_up n d = (2 * n + d) / (2 * d)

-- a part of a whole, per mille, to the nearest
abbrev pub permille : ℕ → ℕ → ℕ
permille n whole = half_up (1000 * n) whole
