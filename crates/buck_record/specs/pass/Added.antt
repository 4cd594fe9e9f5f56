-- Bytes that were added to a list.
use Rattle.std.specs.Prelude.{◌≡◌, ℕ, List, ◌++◌}

-- something was added to a list, or nothing
abbrev pub IsLonger : List ℕ → List ℕ → Type 0
IsLonger before after = (more : List ℕ) × (after ≡ before ++ more)
