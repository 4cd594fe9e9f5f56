use Rattle.std.proofs.Common.{◌≡◌, ◌++◌, drop, take, sum, map, length}
use Rattle.std.specs.List.{concat}
use Rattle.buck_c_calls.proofs.several.files_of.Given as goal

abbrev pub invariant-loop-length : goal.invariant-loop-length
invariant-loop-length l = record {
  sums : sum (drop l.length-index l.lengths) ≡ length l.left;
  sizes : map (λ file. length file) (map (λ file. file.now) l.files.items) ≡ take l.length-index l.lengths;
  bytes : concat (map (λ file. file.now) l.files.items) ++ l.left ≡ l.bytes;
}
