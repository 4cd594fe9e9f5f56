-- The least, the mean and the greatest of changes, of which some may not be there.
use Rattle.std.specs.Prelude.{◌≡◌, ℕ, ◌+◌, ◌-◌, ◌*◌, ◌/◌, ◌<◌, ◌≤◌, true, false, List, sum_by, Option, Some, None, IfSome, All}
use Rattle.std.specs.List.{Contains}
use Rattle.buck_page_text.specs.declared.words.Difference.{Difference}
use Rattle.buck_page_cells.specs.declared.change.Change.{Change}
use Rattle.buck_page_cells.specs.declared.spread.Spread.{Spread}

-- the number grows by no more, or shrinks by no less, than by the other change
abbrev pub IsAtMost : Change → Change → Type 0
IsAtMost one other = one.to + other.from ≤ other.to + one.from

-- the least of those that are there
abbrev pub IsLeast : List (Option Change) → Option Change → Type 0
IsLeast changes None = All (λ c. c ≡ None) changes
IsLeast changes (Some least) = Contains changes (Some least) × All (λ c. IfSome c (λ one. IsAtMost least one)) changes

-- the greatest
abbrev pub IsGreatest : List (Option Change) → Option Change → Type 0
IsGreatest changes None = All (λ c. c ≡ None) changes
IsGreatest changes (Some greatest) =
    Contains changes (Some greatest) × All (λ c. IfSome c (λ one. IsAtMost one greatest)) changes

-- what a change adds to the sums, and to how many there are
abbrev pub from_of : Option Change → ℕ
from_of None = 0
from_of (Some change) = change.from

abbrev pub to_of : Option Change → ℕ
to_of None = 0
to_of (Some change) = change.to

abbrev pub one_of : Option Change → ℕ
one_of None = 0
one_of (Some change) = 1

abbrev pub from_sum : List (Option Change) → ℕ
from_sum changes = sum_by from_of changes

abbrev pub to_sum : List (Option Change) → ℕ
to_sum changes = sum_by to_of changes

abbrev pub how_many : List (Option Change) → ℕ
how_many changes = sum_by one_of changes

-- a difference is this far above 0, or below it
abbrev pub IsAbove : ℕ → Difference → Type 0
IsAbove size d = (d.below ≡ false) × (d.size ≡ size)

-- the mean of so many changes that come to `to - from`, to the nearest integer, a half upwards: the greatest integer m
-- for which 2 m n is at most 2 (to - from) + n
abbrev pub IsMean : ℕ → ℕ → ℕ → Difference → Type 0
IsMean from to n d =
    (2 * from ≤ 2 * to + n → (d.below ≡ false) × (d.size ≡ (2 * to + n - 2 * from) / (2 * n)))
    × (2 * to + n < 2 * from → (d.below ≡ true)
    × (2 * from ≤ 2 * to + n + 2 * n * d.size) × (2 * to + n + 2 * n * d.size < 2 * from + 2 * n))

-- a difference that a change makes
abbrev pub IsDifference : Change → Difference → Type 0
IsDifference c d =
    (c.from ≤ c.to → (d.below ≡ false) × (d.size ≡ c.to - c.from))
    × (c.to < c.from → (d.below ≡ true) × (d.size ≡ c.from - c.to))

-- the spread of those that are there
pub record IsSpreadOf (changes : List (Option Change)) (s : Spread) : Type 0 where
  pub least : Change
  pub greatest : Change
  pub is_least : IsLeast changes (Some least)
  pub is_greatest : IsGreatest changes (Some greatest)
  pub least_is : IsDifference least s.least
  pub greatest_is : IsDifference greatest s.greatest
  pub mean_is : IsMean (from_sum changes) (to_sum changes) (how_many changes) s.mean

abbrev pub IsSpread : List (Option Change) → Option Spread → Type 0
IsSpread changes None = All (λ c. c ≡ None) changes
IsSpread changes (Some s) = IsSpreadOf changes s
