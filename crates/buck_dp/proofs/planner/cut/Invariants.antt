use Rattle.buck_dp.specs.inner.Logs.{ground_with}
use Rattle.buck_dp.proofs.planner.cut.Given as goal

abbrev pub ghost-cut_on_grid : goal.ghost-cut_on_grid
ghost-cut_on_grid a = ground_with a.search.now.cache.sheet a.grid.stem.now a.search.now.cache.types
