-- Numbers as they are written.
use Rattle.std.specs.Prelude.{ℕ, ◌+◌, ◌%◌, ◌==◌, List, [], ◌∷◌, ◌++◌, if◌then◌else◌}
use Rattle.std.specs.List.{flat_map}
use Rattle.std.specs.Fmt.{decimal}

-- a space before each number
abbrev pub spelled : List ℕ → List ℕ
spelled ns = flat_map (λ n. 32 ∷ decimal n) ns

-- numbers, the first at place k, each after the whitespace byte of its place
unfoldable pub spaced : (ℕ → ℕ) → ℕ → List ℕ → List ℕ
spaced white k [] = []
spaced white k (n ∷ ns) = white k ∷ (decimal n ++ spaced white (k + 1) ns)

-- a space
abbrev pub blank : ℕ → ℕ
blank k = 32

-- a line feed before the first number of each row of so many, and else a space
abbrev pub row_start : ℕ → ℕ → ℕ
row_start columns k = if k % columns == 0 then 10 else 32
