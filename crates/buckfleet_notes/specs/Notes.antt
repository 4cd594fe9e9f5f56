-- What is worth a note of an instruction and of the stems that are cut by it.
use Rattle.std.specs.Prelude.{◌≡◌, ◌<◌, ℕ, Bool, true, false, ◌&&◌, ◌==◌, not, nat_le, nat_lt, List, take, slice_get, slice_index, Option, Some, None}
use Rattle.std.specs.List.{list_any}
use Rattle.std.specs.Str.{bytes_eq}
use Rattle.buck_apt_instruction.specs.Instruction.{AssortmentParts, InstructionParts}

-- the first place below a count at which something is so, or that there is none
abbrev pub IsFirstOf : (ℕ → Bool) → ℕ → Option ℕ → Type 0
IsFirstOf test count None = (k : ℕ) → k < count → test k ≡ false
IsFirstOf test count (Some at) = (at < count) × (test at ≡ true) × ((k : ℕ) → k < at → test k ≡ false)

-- the number at a place stands at an earlier place too
abbrev pub is_again : List ℕ → ℕ → Bool
is_again numbers at = list_any (λ n. n == slice_index numbers at) (take at numbers)

-- some assortment takes a species
abbrev pub has_species : List AssortmentParts → ℕ → Bool
has_species assortments species = list_any (λ a. a.species == species) assortments

-- no assortment takes the species at a place
abbrev pub is_untaken : InstructionParts → List ℕ → ℕ → Bool
is_untaken i species at = not (has_species i.assortments (slice_index species at))

-- some assortment has a name
abbrev pub has_name : List AssortmentParts → List ℕ → Bool
has_name assortments name = list_any (λ a. bytes_eq a.name name) assortments

-- some assortment has the name of this one
abbrev pub has_name_of : List AssortmentParts → Option AssortmentParts → Bool
has_name_of assortments None = false
has_name_of assortments (Some a) = has_name assortments a.name

-- an assortment has the name of an earlier one
abbrev pub is_namesake : List AssortmentParts → ℕ → Bool
is_namesake assortments at = has_name_of (take at assortments) (slice_get assortments at)

-- there are stems, and no more than a period has: no price moves before all are cut
abbrev pub is_unsteered : ℕ → ℕ → Bool
is_unsteered stems period = nat_lt 0 stems && nat_le stems period

-- a journal of so many bytes is longer than one that is read
abbrev pub is_too_long : ℕ → Bool
is_too_long bytes = nat_lt 67108864 bytes
