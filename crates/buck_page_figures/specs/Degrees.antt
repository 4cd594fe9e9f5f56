-- The degree of apportionment taken apart: of the diameter rows, and of the lengths within each row.
use Rattle.std.specs.Prelude.{◌≡◌, ℕ, zero, suc, ◌*◌, ◌/◌, ◌==◌, cond, List, [], ◌∷◌, map, take, drop, sum, sum_by, length, Option, Some, None, slice_get}
use Rattle.std.specs.List.{zip}
use Rattle.buck_apt_instruction.specs.Instruction.{InstructionParts, AssortmentParts}
use Rattle.buck_book_postings.specs.Degree.{degree_of, part_of}
use Rattle.buck_page_figures.specs.declared.degrees.Degrees.{Degrees}

-- numbers that stand row by row, as so many rows
abbrev pub rows_of : ℕ → ℕ → List ℕ → List (List ℕ)
rows_of zero columns numbers = []
rows_of (suc rows) columns numbers = take columns numbers ∷ rows_of rows columns (drop columns numbers)

-- of the diameter rows: each is a class of its own, with the sums of its targets and logs
abbrev pub diameter_degree_of : ℕ → ℕ → List ℕ → List ℕ → Option ℕ
diameter_degree_of rows columns targets counts =
    degree_of (map sum (rows_of rows columns targets)) (map sum (rows_of rows columns counts))

-- the logs of a row, given its degree as an assortment of its own: they count if it has one, with that degree each
abbrev pub counted : Option ℕ → ℕ → ℕ
counted None logs = 0
counted (Some degree) logs = logs

abbrev pub weighed : Option ℕ → ℕ → ℕ
weighed None logs = 0
weighed (Some degree) logs = logs * degree

abbrev pub counted_in : List (List ℕ) → List (List ℕ) → ℕ
counted_in targets counts = sum_by (λ r. counted (degree_of r.0 r.1) (sum r.1)) (zip targets counts)

abbrev pub weighed_in : List (List ℕ) → List (List ℕ) → ℕ
weighed_in targets counts = sum_by (λ r. weighed (degree_of r.0 r.1) (sum r.1)) (zip targets counts)

-- of lengths: the mean of the rows' own degrees over the logs that count, rounded down; none if none counts
abbrev pub mean_of : ℕ → ℕ → Option ℕ
mean_of all logs = cond (logs == 0) None (Some (all / logs))

abbrev pub length_degree_of : ℕ → ℕ → List ℕ → List ℕ → Option ℕ
length_degree_of rows columns targets counts =
    mean_of
    (weighed_in (rows_of rows columns targets) (rows_of rows columns counts))
    (counted_in (rows_of rows columns targets) (rows_of rows columns counts))

-- the degrees of an assortment, given what is wanted and what was cut of each of its classes
pub record AreDegreesOf (a : AssortmentParts) (targets counts : List ℕ) (d : Degrees) : Type 0 where
  pub whole : d.whole ≡ degree_of targets counts
  pub diameter : d.diameter ≡ diameter_degree_of (length a.diameters) (length a.lengths) targets counts
  pub length : d.length ≡ length_degree_of (length a.diameters) (length a.lengths) targets counts

-- the degrees of the assortment at a place, given what is wanted and what was cut of each class of the instruction
pub record AreDegreesBy (i : InstructionParts) (targets counts : List ℕ) (at : ℕ) (d : Degrees) : Type 0 where
  pub assortment : AssortmentParts
  pub exists : slice_get i.assortments at ≡ Some assortment
  pub degrees : AreDegreesOf assortment (part_of i assortment at targets) (part_of i assortment at counts) d
