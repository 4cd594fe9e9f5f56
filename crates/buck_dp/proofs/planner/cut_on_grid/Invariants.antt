use Rattle.buck_dp.proofs.planner.cut_on_grid.Given as goal

abbrev pub ghost-search : goal.ghost-search
ghost-search g a = g.p

abbrev pub ghost-follow : goal.ghost-follow
ghost-follow g a = g.p
