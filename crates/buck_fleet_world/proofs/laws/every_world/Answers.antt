use Rattle.buck_fleet_world.proofs.Words.{arith}
use Rattle.buck_fleet_world.proofs.Sound.{reached}
use Rattle.buck_fleet_world.proofs.laws.every_world.Goals as goal

pub returns-clause-stale : goal.returns-clause-stale
returns-clause-stale c i n moves r h h_in = ((reached i n moves r).world.fits h h_in).stale

pub returns-clause-one_answered : goal.returns-clause-one_answered
returns-clause-one_answered c i n moves r = (reached i n moves r).world.one_answered

pub returns-clause-front : goal.returns-clause-front
returns-clause-front c i n moves r = grind (arith, reached)
