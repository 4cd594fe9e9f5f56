use Rattle.buck_fleet.proofs.Words.{rules}
use Rattle.buck_fleet.proofs.Crews.{have_run}
use Rattle.buck_fleet.proofs.run.run_fleet.Goals as goal

pub returns-in-None-clause-ok : goal.returns-in-None-clause-ok
returns-in-None-clause-ok g c = have_run _ _ _ c.for_each_mut.new.s _ _ (search rules) (search rules) (search rules)

pub returns-in-Some-clause-stopped : goal.returns-in-Some-clause-stopped
returns-in-Some-clause-stopped g c = have_run _ _ _ c.for_each_mut.new.s _ _ (search rules) (search rules) (search rules)
