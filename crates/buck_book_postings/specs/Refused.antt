-- When a plan and when new targets are refused.
use Rattle.std.specs.Prelude.{◌≡◌, ◌≢◌, ℕ, ◌<◌, List, length}
use Rattle.buck_book_postings.specs.declared.ready.Refusal.{Refusal}
use Rattle.buck_book_postings.specs.declared.ready.Refusal.TheVariants.{Full, Stale, Memory}
use Rattle.buck_book_postings.specs.declared.ready.CutFault.{CutFault}
use Rattle.buck_book_postings.specs.declared.ready.CutFault.TheVariants as cut
use Rattle.buck_book_postings.specs.declared.demand.DemandRefusal.{DemandRefusal}
use Rattle.buck_book_postings.specs.declared.demand.DemandRefusal.TheVariants as demand
use Rattle.buck_book_postings.specs.Plan.{PlanParts}
use Rattle.buck_book_postings.specs.Targets.{AreTargets, IsTargetsFault}
use Rattle.buck_book_postings.specs.History.{in_force}
use Rattle.buck_book_postings.specs.Book.{BookParts}

-- the history is at its capacity
abbrev pub IsFull : {F : Type 0} → BookParts F → Type 0
IsFull b = length b.history.postings ≡ b.capacity

abbrev pub IsBelow : {F : Type 0} → BookParts F → Type 0
IsBelow b = length b.history.postings < b.capacity

-- a full book refuses every plan as `Full`; below its capacity it refuses a plan whose sheet isn't the one in force
abbrev pub IsRefusal : {F : Type 0} → BookParts F → PlanParts → Refusal → Type 0
IsRefusal b p Full = IsFull b
IsRefusal b p (Stale sheet) = IsBelow b × (sheet.value ≡ in_force b.history) × (p.sheet ≢ in_force b.history)
IsRefusal b p Memory = IsBelow b

-- a plan that is known to be under the sheet in force is refused as `Full` exactly by a full book
abbrev pub IsRefusalInForce : {F : Type 0} → BookParts F → CutFault → Type 0
IsRefusalInForce b cut.Full = IsFull b
IsRefusalInForce b cut.Memory = IsBelow b

-- a full book refuses all targets as `Full`; below its capacity it refuses those that aren't valid, with what is wrong
abbrev pub IsDemandRefusal : {F : Type 0} → BookParts F → List ℕ → DemandRefusal → Type 0
IsDemandRefusal b targets demand.Full = IsFull b
IsDemandRefusal b targets (demand.Targets fault) = IsBelow b × IsTargetsFault b.history.instruction targets fault
IsDemandRefusal b targets demand.Memory = IsBelow b × AreTargets b.history.instruction targets
