-- The classes that lack logs: of those cut of their assortment they have less than their target's share.
use Rattle.std.specs.Prelude.{◌≡◌, ℕ, ◌+◌, ◌*◌, ◌-◌, ◌<◌, ◌≤◌, ◌==◌, ◌&&◌, ◌⊎◌, Bool, List, length, count_by, slice_get, slice_index, slice_index_or, sum, Some}
use Rattle.buck_apt_instruction.specs.Instruction.{InstructionParts, AssortmentParts, classes_of, classes_before}
use Rattle.buck_book_postings.specs.Degree.{part_of}
use Rattle.buck_page_figures.specs.declared.lack.Lack.{Lack}

-- a class has less than its target's share of the logs, given what is wanted and what was cut of each class of its
-- assortment
abbrev pub IsShort : List ℕ → List ℕ → ℕ → Type 0
IsShort targets counts class = slice_index counts class * sum targets < slice_index targets class * sum counts

-- how far the logs lie below the target's share, times the targets of the assortment together
abbrev pub gap_of : Lack → ℕ
gap_of l = l.target * l.counts - l.count * l.targets

-- a class of an assortment, with its target and its logs, as cut and of the best cuttings at base prices, and with all
-- targets and all logs cut of its assortment
pub record IsLackOf (i : InstructionParts) (targets counts unsteered : List ℕ) (l : Lack) : Type 0 where
  pub assortment : AssortmentParts
  pub there : slice_get i.assortments l.assortment ≡ Some assortment
  pub within : l.class < classes_of assortment
  pub target : l.target ≡ slice_index (part_of i assortment l.assortment targets) l.class
  pub count : l.count ≡ slice_index (part_of i assortment l.assortment counts) l.class
  pub without : l.unsteered ≡ slice_index (part_of i assortment l.assortment unsteered) l.class
  pub all_targets : l.targets ≡ sum (part_of i assortment l.assortment targets)
  pub all_counts : l.counts ≡ sum (part_of i assortment l.assortment counts)

-- a class that lacks is this one of this assortment
abbrev pub names : ℕ → ℕ → Lack → Bool
names at class l = l.assortment == at && l.class == class

-- each class that has less than its share is named once
abbrev pub EachOnce : InstructionParts → List ℕ → List ℕ → List Lack → Type 0
EachOnce i targets counts found =
    (at class : ℕ) (a : AssortmentParts)
    → slice_get i.assortments at ≡ Some a
    → class < classes_of a
    → IsShort (part_of i a at targets) (part_of i a at counts) class
    → count_by (names at class) found ≡ 1

-- the place of its class among all
abbrev pub place_of : InstructionParts → Lack → ℕ
place_of i l = classes_before i l.assortment + l.class

-- of the first class more logs lack than of the second, or as many, and it stands no later among all classes
abbrev pub ComesBefore : InstructionParts → Lack → Lack → Type 0
ComesBefore i l m =
    (gap_of m * l.targets < gap_of l * m.targets)
    ⊎ ((gap_of m * l.targets ≡ gap_of l * m.targets) × (place_of i l ≤ place_of i m))

abbrev pub AreMostFirst : InstructionParts → List Lack → Type 0
AreMostFirst i found =
    (k : ℕ) (d : Lack)
    → k + 1 < length found
    → ComesBefore i (slice_index_or found k d) (slice_index_or found (k + 1) d)
