use Rattle.std.proofs.Common.{◌≡◌, ◌*◌, ◌<◌, ◌≤◌, ◌^◌, take}
use Rattle.std.specs.Prelude.{sum}
use Rattle.buck_page_figures.proofs.parts.sum_of.Given as goal

abbrev pub invariant-loop-number : goal.invariant-loop-number
invariant-loop-number l = record {
  whole : sum (take l.number-index l.numbers) < 2 ^ 64 → l.all ≡ sum (take l.number-index l.numbers);
  bound : sum (take l.number-index l.numbers) ≤ l.number-index * 2 ^ 32;
  low : l.all ≤ l.number-index * 2 ^ 32;
}
