use Rattle.buck_page_figures.proofs.WholeLemmas.{cut_whole, unsteered_whole}
use Rattle.buck_page_figures.proofs.laws.assortments_are_the_whole.Goals as goal

pub returns-clause-as_cut : goal.returns-clause-as_cut
returns-clause-as_cut c = cut_whole

pub returns-clause-unsteered : goal.returns-clause-unsteered
returns-clause-unsteered c = unsteered_whole
