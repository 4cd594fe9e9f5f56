use Rattle.std.proofs.Common.{◌≡◌, ◌*◌, ◌≤◌, length, sum_by, take}
use Rattle.buck_page_figures.specs.Figures.{base_sheet}
use Rattle.buckfleet_trial.specs.Light.{AreBest}
use Rattle.buckfleet_trial.proofs.light.best_worth.Given as goal

abbrev pub invariant-loop-list : goal.invariant-loop-list
invariant-loop-list l = record {
  same : l.planner ≡ base_sheet l.instruction.value;
  best : AreBest (base_sheet l.instruction.value) (take l.list-index l.lists) l.all;
  low : l.all ≤ sum_by (λ list. length list.items) (take l.list-index l.lists) * 2800000000000000;
}
