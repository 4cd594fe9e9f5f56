-- The text of an instruction in its normal form: each item of the table once, in the order of the table, on lines of
-- its own. A whitespace byte stands before each number, and no number has a leading zero. Prices and targets have a
-- line for each row after the head. A trim of 0 is left out.
use Rattle.std.specs.Prelude.{ℕ, ◌==◌, List, [], ◌∷◌, ◌++◌, length, codes, if◌then◌else◌}
use Rattle.std.specs.List.{flat_map}
use Rattle.buck_record.specs.writing.Written.{spaced, blank, row_start}
use Rattle.buck_record.specs.writing.Line.{item_text}
use Rattle.buck_apt_instruction.specs.Instruction.{AssortmentParts, InstructionParts}

-- an item of numbers
abbrev pub list_text : List ℕ → List ℕ → List ℕ
list_text head numbers = item_text head (spaced blank 0 numbers)

-- an item of numbers row by row
abbrev pub table_text : List ℕ → ℕ → List ℕ → List ℕ
table_text head columns numbers = item_text head (spaced (row_start columns) 0 numbers)

abbrev pub trim_text : ℕ → List ℕ
trim_text trim = if trim == 0 then [] else list_text (codes "919 1") (trim ∷ [])

-- the items that say which wood an assortment takes
unfoldable pub wood_text : AssortmentParts → List ℕ
wood_text a =
    item_text (codes "911 1") (32 ∷ a.name)
    ++ list_text (codes "912 1") (a.species ∷ [])
    ++ list_text (codes "913 1") a.grades
    ++ list_text (codes "914 1") (a.price_kind ∷ [])

-- the items that say the sizes of its logs
unfoldable pub sizes_text : AssortmentParts → List ℕ
sizes_text a =
    list_text (codes "915 1") a.diameters
    ++ list_text (codes "915 2") (a.upper ∷ [])
    ++ list_text (codes "916 1") a.lengths

-- the items of its classes
unfoldable pub tables_text : AssortmentParts → List ℕ
tables_text a =
    table_text (codes "917 1") (length a.lengths) a.prices
    ++ table_text (codes "918 1") (length a.lengths) a.targets
    ++ trim_text a.trim

unfoldable pub assortment_text : AssortmentParts → List ℕ
assortment_text a = wood_text a ++ sizes_text a ++ tables_text a

unfoldable pub text_of : InstructionParts → List ℕ
text_of i =
    item_text (codes "1 2") (32 ∷ codes "APT")
    ++ list_text (codes "901 1") (i.«module» ∷ [])
    ++ list_text (codes "902 1") (i.period ∷ [])
    ++ list_text (codes "903 1") (i.limit ∷ [])
    ++ list_text (codes "910 1") (length i.assortments ∷ [])
    ++ flat_map assortment_text i.assortments
