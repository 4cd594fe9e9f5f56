use Rattle.buck_fleet.proofs.Words.{rules, arith, common_steps}
use Rattle.buck_fleet.proofs.Counted.{fault_at}
use Rattle.buck_fleet.proofs.fleet.Fleet.close.Goals as goal

pub returns-in-Some-clause-handed_out : goal.returns-in-Some-clause-handed_out
returns-in-Some-clause-handed_out g c = grind (arith, common_steps)

pub returns-in-Some-clause-fault : goal.returns-in-Some-clause-fault
returns-in-Some-clause-fault g c = grind (arith, fault_at)

pub returns-clause-ok : goal.returns-clause-ok
returns-clause-ok g c = search (rules)
