use Rattle.buck_dp.proofs.Words.{◌≡◌, ◌+◌, ◌≤◌, ◌++◌, length, take, vec_len, vec_capacity, row_of}
use Rattle.buck_dp.proofs.offering.put_row.Given as goal

abbrev pub invariant-loop-candidate : goal.invariant-loop-candidate
invariant-loop-candidate l = record {
  room : vec_len l.cells + length l.list ≤ vec_capacity l.cells + l.candidate-index;
  row : l.cells.items ≡ l.fn.cells.items ++ row_of l.far l.diameter (take l.candidate-index l.list);
}
