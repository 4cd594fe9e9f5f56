use Rattle.buck_book_reader.proofs.Words.{◌≡◌, drop, map, after_front, sheets_from}
use Rattle.buck_book_reader.proofs.postings.sheets_in.Given as goal

abbrev pub invariant-loop-k : goal.invariant-loop-k
invariant-loop-k l =
    after_front (map (λ w. w.items) l.sheets.items) (sheets_from l.k (drop l.k l.items))
    ≡ sheets_from 1 (drop 1 l.items)
