use Rattle.buck_dp.proofs.planning.Search.settle_stretch.Given as goal

abbrev pub ghost-settle_ranges : goal.ghost-settle_ranges
ghost-settle_ranges g a = g.p
