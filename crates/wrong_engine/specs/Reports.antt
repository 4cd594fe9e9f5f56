-- The reports that wrong bodies would make of a history.
use Rattle.std.specs.Prelude.{ℕ, ◌+◌, ◌*◌, List, [], ◌∷◌, ◌++◌, length, slice_index, codes, sum_by}
use Rattle.std.specs.List.{flat_map, range_with_len}
use Rattle.buck_apt_instruction.specs.declared.class.Class.{Class}
use Rattle.buck_apt_instruction.specs.Instruction.{AssortmentParts, index_of}
use Rattle.buck_record.specs.writing.Line.{line_of}
use Rattle.buck_book_postings.specs.declared.posting.Posting.{Posting}
use Rattle.buck_book_postings.specs.Degree.{part_of, degree_of}
use Rattle.buckfleet_engine_text.specs.Bucking.{total_line}
use Rattle.buckfleet_engine_text.specs.Report.{EndingParts, degree_line, logs_in, posting_lines, worth_in}

-- all postings but the first, in the places that they have
abbrev pub lines_after_first : List Posting → List ℕ
lines_after_first [] = []
lines_after_first (x ∷ more) = posting_lines 1 more

-- a CLASS line with the base price in the place of the last sheet's
abbrev pub opening_class_line : EndingParts → AssortmentParts → Class → List ℕ
opening_class_line e a c =
    line_of
    (codes "CLASS")
    (c.assortment ∷ c.row ∷ c.column ∷ slice_index e.targets (index_of e.instruction c)
    ∷ slice_index e.counts (index_of e.instruction c)
    ∷ slice_index a.prices (c.row * length a.lengths + c.column)
    ∷ slice_index a.prices (c.row * length a.lengths + c.column) ∷ [])

-- such lines of all classes of the assortment at a place
abbrev pub opening_class_lines : EndingParts → AssortmentParts → ℕ → List ℕ
opening_class_lines e a at =
    flat_map
    (λ row. flat_map (λ column. opening_class_line e a (record { assortment = at; row = row; column = column }))
    (range_with_len 0 (length a.lengths)))
    (range_with_len 0 (length a.diameters))

-- such lines of all assortments, and their degrees; the first stands at this place
abbrev pub opening_lines : EndingParts → ℕ → List AssortmentParts → List ℕ
opening_lines e at [] = []
opening_lines e at (a ∷ more) =
    opening_class_lines e a at
    ++ degree_line at (degree_of (part_of e.instruction a at e.targets) (part_of e.instruction a at e.counts)) a.name
    ++ opening_lines e (at + 1) more

-- a TOTAL line in which demands are counted as cuts
abbrev pub postings_total : List Posting → List ℕ
postings_total ps = total_line (length ps) (sum_by logs_in ps) (sum_by worth_in ps)
