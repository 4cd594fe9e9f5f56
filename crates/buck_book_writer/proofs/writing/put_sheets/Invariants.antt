use Rattle.buck_book_writer.proofs.Words.{◌≡◌, ◌++◌, take, map, flat_map, sheet_text}
use Rattle.buck_book_writer.proofs.writing.put_sheets.Given as goal

abbrev pub invariant-loop-sheet : goal.invariant-loop-sheet
invariant-loop-sheet l =
    l.out.items ≡ l.initial.out.items ++ flat_map sheet_text (map (λ s. s.value.prices) (take l.sheet-index l.sheets))
