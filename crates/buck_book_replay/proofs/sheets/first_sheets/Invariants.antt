use Rattle.buck_book_replay.proofs.Words.{◌≡◌, length, map, AreMade}
use Rattle.buck_book_replay.proofs.sheets.first_sheets.Given as goal

abbrev pub invariant-loop-version : goal.invariant-loop-version
invariant-loop-version l = record {
  made : AreMade l.instruction.value (map (λ v. v.items) l.sheets) (map (λ a. a.value) l.made.items);
  count : length l.made.items ≡ l.version;
}
