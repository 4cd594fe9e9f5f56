use Rattle.buck_book_reader.proofs.Words.{map, LeadsSheets}
use Rattle.buck_book_reader.proofs.plain.sheets_of.Given as goal

-- the sheets so far lead to what is left
abbrev pub invariant-loop : goal.invariant-loop
invariant-loop l = LeadsSheets l.fn.text (map (λ v. v.items) l.sheets.items) l.rest
