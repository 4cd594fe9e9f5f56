use Rattle.std.proofs.Common.{◌≡◌, ◌*◌, ◌^◌, ◌≤◌, sum_by, take}
use Rattle.buck_page_figures.specs.Figures.{at_base_in}
use Rattle.buckfleet_trial.proofs.light.base_worth.Given as goal

abbrev pub invariant-loop-posting : goal.invariant-loop-posting
invariant-loop-posting l = record {
  sum : l.all ≡ sum_by (at_base_in l.parts.instruction) (take l.posting-index l.parts.postings);
  low : l.all ≤ l.posting-index * 2 ^ 64;
}
