use Rattle.buck_page_figures.proofs.CostLemmas.{each_no_better, all_no_better}
use Rattle.buck_page_figures.proofs.laws.steering_never_gains.Goals as goal

pub returns-clause-of_each : goal.returns-clause-of_each
returns-clause-of_each c = each_no_better

pub returns-clause-of_all : goal.returns-clause-of_all
returns-clause-of_all c = all_no_better
