-- When an event is refused, and as what.
use Rattle.std.specs.Prelude.{◌≡◌, ◌<◌, length}
use Rattle.buck_book_postings.specs.declared.targets.TargetsFault.{TargetsFault}
use Rattle.buck_book_postings.specs.Targets.{AreTargets, IsTargetsFault}
use Rattle.buck_fleet_world.specs.declared.event.Event.{Event}
use Rattle.buck_fleet_world.specs.declared.event.Event.TheVariants.{Plan, Try, Locked, Retarget}
use Rattle.buck_fleet_world.specs.declared.fault.StepFault.{StepFault}
use Rattle.buck_fleet_world.specs.declared.fault.StepFault.TheVariants.{NotAllowed, Full, Memory, Targets}
use Rattle.buck_fleet_world.specs.Step.{Allowed}
use Rattle.buck_fleet_world.specs.Kept.{RuledWorld}

-- the history is at its capacity, or below it
abbrev pub IsFull : {F : Type 0} → RuledWorld F → Type 0
IsFull r = length r.world.history.postings ≡ r.capacity

abbrev pub IsBelow : {F : Type 0} → RuledWorld F → Type 0
IsBelow r = length r.world.history.postings < r.capacity

-- the events that may add a posting
abbrev pub MayAdd : Event → Type 0
MayAdd (Try h) = Unit {0}
MayAdd (Locked h stem) = Unit {0}
MayAdd (Retarget h targets) = Unit {0}
MayAdd other = ⊥

-- the history has room for what the event may add, and new targets are valid
abbrev pub HasRoom : {F : Type 0} → RuledWorld F → Event → Type 0
HasRoom r (Try h) = IsBelow r
HasRoom r (Locked h stem) = IsBelow r
HasRoom r (Retarget h targets) = IsBelow r × AreTargets r.world.history.instruction targets.value.items
HasRoom r other = Unit {0}

-- the events that take memory
abbrev pub TakesMemory : Event → Type 0
TakesMemory (Plan h stem) = Unit {0}
TakesMemory other = MayAdd other

-- new targets are refused below the capacity, with what is wrong with them
abbrev pub HasTargetsFault : {F : Type 0} → RuledWorld F → Event → TargetsFault → Type 0
HasTargetsFault r (Retarget h targets) fault =
    IsBelow r × IsTargetsFault r.world.history.instruction targets.value.items fault
HasTargetsFault r other fault = ⊥

-- an event that isn't allowed is refused as `NotAllowed`; an allowed one that may add a posting is refused at the
-- capacity as `Full`; below it targets that aren't valid are refused with what is wrong; else only memory may fail
abbrev pub IsRefusal : {F : Type 0} → RuledWorld F → Event → StepFault → Type 0
IsRefusal r e NotAllowed = Allowed r.world e → ⊥
IsRefusal r e Full = Allowed r.world e × MayAdd e × IsFull r
IsRefusal r e Memory = Allowed r.world e × TakesMemory e × HasRoom r e
IsRefusal r e (Targets fault) = Allowed r.world e × HasTargetsFault r e fault
