use Rattle.buck_page_figures.proofs.GradeFreeLemmas.{all_free_no_worse, free_no_worse}
use Rattle.buck_page_figures.proofs.laws.grades_never_gain.Goals as goal

pub returns-clause-of_each : goal.returns-clause-of_each
returns-clause-of_each c = free_no_worse

pub returns-clause-of_all : goal.returns-clause-of_all
returns-clause-of_all c = all_free_no_worse
