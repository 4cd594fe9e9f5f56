-- Why a fleet isn't opened, and why a plan is given back.
use Rattle.std.specs.Prelude.{◌≡◌, ◌≢◌, ℕ, ◌<◌, ◌≤◌, ◌⊎◌}
use Rattle.buck_book_postings.specs.Plan.{PlanParts}
use Rattle.buck_fleet.specs.declared.open.OpenFault.{OpenFault}
use Rattle.buck_fleet.specs.declared.open.OpenFault.TheVariants as opening
use Rattle.buck_book_postings.specs.declared.demand.DemandRefusal.{DemandRefusal}
use Rattle.buck_book_postings.specs.declared.demand.DemandRefusal.TheVariants as demanding
use Rattle.buck_book_postings.specs.declared.ready.CutFault.{CutFault}
use Rattle.buck_book_postings.specs.declared.ready.CutFault.TheVariants as cutting
use Rattle.buck_fleet.specs.declared.fault.RunFault.{RunFault}
use Rattle.buck_fleet.specs.declared.fault.RunFault.TheVariants as running
use Rattle.buck_fleet.specs.declared.fault.RetargetFault.{RetargetFault}
use Rattle.buck_fleet.specs.declared.fault.RetargetFault.TheVariants as retargeting
use Rattle.buck_fleet.specs.declared.fault.TryFault.{TryFault}
use Rattle.buck_fleet.specs.declared.fault.TryFault.TheVariants.{Full, Stale, Memory}
use Rattle.buck_book_postings.specs.declared.posting.TheConstants.{MOST_POSTINGS}
use Rattle.buck_fleet.specs.declared.seat.TheConstants.{MOST_SEATS}

-- a number of seats outside 1 to 64 is refused first, then a capacity outside 1 to 1,000,000
abbrev pub IsOpenFault : ℕ → ℕ → OpenFault → Type 0
IsOpenFault seats capacity opening.Seats = (seats ≡ 0) ⊎ (MOST_SEATS < seats)
IsOpenFault seats capacity opening.Capacity =
    (0 < seats) × (seats ≤ MOST_SEATS) × ((capacity ≡ 0) ⊎ (MOST_POSTINGS < capacity))
IsOpenFault seats capacity opening.Memory =
    (0 < seats) × (seats ≤ MOST_SEATS) × (0 < capacity) × (capacity ≤ MOST_POSTINGS)

-- the plan is given back, and, if stale, the sheet in force is another than the plan's
abbrev pub GivesBack : PlanParts → TryFault → Type 0
GivesBack p (Full plan) = plan ≡ p
GivesBack p (Stale in_force plan) = (plan ≡ p) × (in_force.value ≢ p.sheet)
GivesBack p (Memory plan) = plan ≡ p

-- a harvester stops for what refused its cut
abbrev pub stop_of : CutFault → RunFault
stop_of cutting.Full = running.Full
stop_of cutting.Memory = running.Memory

-- new targets are refused for what the book refuses them for
abbrev pub retarget_fault_of : DemandRefusal → RetargetFault
retarget_fault_of demanding.Full = retargeting.Full
retarget_fault_of (demanding.Targets fault) = retargeting.Targets fault
retarget_fault_of demanding.Memory = retargeting.Memory
