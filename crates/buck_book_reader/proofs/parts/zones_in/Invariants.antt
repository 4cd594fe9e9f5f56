use Rattle.buck_book_reader.proofs.Words.{◌≡◌, ◌*◌, ◌++◌, drop, zones_of, are_zones}
use Rattle.buck_book_reader.proofs.parts.zones_in.Given as goal

abbrev pub invariant-loop-k : goal.invariant-loop-k
invariant-loop-k l = record {
  so_far : l.zones.items ++ zones_of (drop (2 * l.k) l.numbers) ≡ zones_of l.numbers;
  right : are_zones l.low (drop (2 * l.k) l.numbers) ≡ are_zones 0 l.numbers;
}
