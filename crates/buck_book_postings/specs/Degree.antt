-- The degree of apportionment: how far the logs that were cut of an assortment have the proportions of those wanted.
use Rattle.std.specs.Prelude.{◌≡◌, ℕ, ◌*◌, ◌/◌, ◌==◌, min, cond, List, take, drop, sum, sum_by, Option, Some, None, slice_get}
use Rattle.std.specs.List.{zip}
use Rattle.buck_apt_instruction.specs.Instruction.{InstructionParts, AssortmentParts, classes_of, classes_before}
use Rattle.buck_book_postings.specs.Posting.{targets_of}
use Rattle.buck_book_postings.specs.Counts.{AreClassCounts}
use Rattle.buck_book_postings.specs.History.{HistoryParts}

-- of a list with a number for each class, those of the classes of the assortment at a place
abbrev pub part_of : InstructionParts → AssortmentParts → ℕ → List ℕ → List ℕ
part_of i a at numbers = take (classes_of a) (drop (classes_before i at) numbers)

-- over all classes, the lesser of what is wanted as a share of all wanted and what was cut as a share of all cut
abbrev pub shared_of : ℕ → ℕ → List ℕ → List ℕ → ℕ
shared_of wanted cut targets counts = sum_by (λ p. min (p.0 * cut) (p.1 * wanted)) (zip targets counts)

-- in ten-thousandths, rounded down once; none if nothing is wanted or nothing was cut
abbrev pub degree_of : List ℕ → List ℕ → Option ℕ
degree_of targets counts =
    cond
    (sum targets * sum counts == 0)
    None
    (Some (shared_of (sum targets) (sum counts) targets counts * 10000 / (sum targets * sum counts)))

-- the degree of the assortment at a place, given what is wanted and what was cut of each class of the instruction
pub record IsDegreeBy (i : InstructionParts) (targets counts : List ℕ) (at : ℕ) (degree : Option ℕ) : Type 0 where
  pub assortment : AssortmentParts
  pub exists : slice_get i.assortments at ≡ Some assortment
  pub degree_is : degree ≡ degree_of (part_of i assortment at targets) (part_of i assortment at counts)

-- at the end of a history: by the targets in force there and the class counts
pub record IsDegree (h : HistoryParts) (at : ℕ) (degree : Option ℕ) : Type 0 where
  pub counts : List ℕ
  pub are_counts : AreClassCounts h.instruction h.postings counts
  pub degree_is : IsDegreeBy h.instruction (targets_of h.instruction h.postings) counts at degree
