-- The words of the command line.
use Rattle.std.specs.Prelude.{ℕ, List, codes}
use Rattle.buck_page_cells.specs.declared.table.Table.{Table}
use Rattle.buck_page_cells.specs.declared.table.Table.TheVariants.{Classes, Postings, Logs, Degrees, Assortments, Lacking}

-- the word that asks for a table
abbrev pub table_name : Table → List ℕ
table_name Classes = codes "classes"
table_name Postings = codes "postings"
table_name Logs = codes "logs"
table_name Degrees = codes "degrees"
table_name Assortments = codes "assortments"
table_name Lacking = codes "lacking"
