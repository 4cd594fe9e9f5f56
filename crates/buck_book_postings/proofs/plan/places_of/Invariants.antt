use Rattle.buck_book_postings.proofs.Words.{◌≤◌, length, take, ArePlaces}
use Rattle.std.specs.Vec.{vec_capacity}
use Rattle.buck_book_postings.proofs.plan.places_of.Given as goal

abbrev pub invariant-loop-log : goal.invariant-loop-log
invariant-loop-log l = record {
  are : ArePlaces l.sheet.instruction l.stem (take l.log-index l.logs) l.places.items;
  room : length l.logs ≤ vec_capacity l.places;
}
