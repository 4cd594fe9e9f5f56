use Rattle.buck_dp.proofs.planning.Search.settle_run.Given as goal

abbrev pub ghost-find_ranges : goal.ghost-find_ranges
ghost-find_ranges g a = g.p

abbrev pub ghost-settle_ranges : goal.ghost-settle_ranges
ghost-settle_ranges g a = g.p

abbrev pub ghost-settle_near : goal.ghost-settle_near
ghost-settle_near g a = g.p

abbrev pub ghost-settle_stretch : goal.ghost-settle_stretch
ghost-settle_stretch g a = g.p
