use Rattle.std.proofs.Common.{refl}
use Rattle.buckfleet_proceeds.proofs.Cuts.{accounted_demand}
use Rattle.buckfleet_proceeds.proofs.appraisal.account_of.Goals as goal

pub returns-in-Demand-clause-accounted : goal.returns-in-Demand-clause-accounted
returns-in-Demand-clause-accounted c =
    rw c.in-Demand.is
    (accounted_demand c.args.planner.now.instruction c.in-Demand.field-0 _ _ _ refl (refl, refl, refl, refl)
    (refl, refl, refl, refl))
