-- One step: when each event is allowed, and what follows.
use Rattle.std.specs.Prelude.{◌≡◌, ◌≢◌, ◌⊎◌, ℕ, ◌+◌, ◌<◌, ◌≤◌, Option}
use Rattle.buck_value.specs.Sheet.{SheetParts}
use Rattle.buck_book_postings.specs.declared.posting.Posting.{Posting}
use Rattle.buck_book_postings.specs.declared.posting.Posting.TheVariants.{Cut, Demand}
use Rattle.buck_book_postings.specs.Plan.{PlanParts, IsPlan}
use Rattle.buck_book_postings.specs.Targets.{AreTargets}
use Rattle.buck_book_postings.specs.History.{HistoryParts, sheet_at, version_of}
use Rattle.buck_book_postings.specs.Book.{entry_of, demand_of, IsNext}
use Rattle.buck_fleet_world.specs.declared.stage.Stage.{Stage}
use Rattle.buck_fleet_world.specs.declared.stage.Stage.TheVariants.{Idle, Reading, Planned}
use Rattle.buck_fleet_world.specs.declared.event.Event.{Event}
use Rattle.buck_fleet_world.specs.declared.event.Event.TheVariants.{Read, Plan, Try, Locked, Retarget, Raise, Leave}
use Rattle.buck_fleet_world.specs.World.{WorldParts, IsHarvester, at, IsAnswered, NobodyAnswered, with_harvester, with_posting, with_front}

abbrev pub IsPlanned : Stage → Type 0
IsPlanned (Planned p) = Unit {0}
IsPlanned other = ⊥

-- a harvester that holds no plan and isn't answered
abbrev pub IsIdleOrReading : Stage → Type 0
IsIdleOrReading Idle = Unit {0}
IsIdleOrReading Reading = Unit {0}
IsIdleOrReading other = ⊥

-- when each event is allowed
abbrev pub Allowed : WorldParts → Event → Type 0
Allowed w (Read h v) =
    IsHarvester w h
    × ((at w h).stage ≡ Idle)
    × ((at w h).stale < 3)
    × ((at w h).seen ≤ v)
    × (v ≤ w.front)
Allowed w (Plan h stem) = IsHarvester w h × ((at w h).stage ≡ Reading)
Allowed w (Try h) = IsHarvester w h × IsPlanned (at w h).stage × NobodyAnswered w
Allowed w (Locked h stem) = IsHarvester w h × IsIdleOrReading (at w h).stage × NobodyAnswered w
Allowed w (Retarget h targets) = IsHarvester w h × IsIdleOrReading (at w h).stage × NobodyAnswered w
Allowed w (Raise h) = IsHarvester w h × IsAnswered w h
Allowed w (Leave h) = IsHarvester w h × (IsAnswered w h → ⊥)

-- the first of the best for a stem, under the sheet of a version of the history
pub record IsPlanUnder (h : HistoryParts) (version : ℕ) (p : PlanParts) : Type 0 where
  pub sheet_is : p.sheet ≡ sheet_at h.instruction h.sheets version
  pub planned : IsPlan p

-- h's posting is added; if it is an end, a next sheet comes, whose prices are free within the price relation
abbrev pub Adds : WorldParts → ℕ → Posting → WorldParts → Type 0
Adds w h x w' = (next : Option SheetParts) × IsNext w.history x next × (w' ≡ with_posting w h x next)

-- harvester h is now at this
abbrev pub Becomes : WorldParts → ℕ → Stage → ℕ → ℕ → WorldParts → Type 0
Becomes w h stage seen stale w' =
    w' ≡ with_harvester w h (record { stage = stage; seen = seen; stale = stale })

-- a plan that is brought to the book is added if its sheet is in force; else it was a stale attempt
abbrev pub Tries : WorldParts → ℕ → PlanParts → WorldParts → Type 0
Tries w h p w' =
    (((at w h).seen ≡ version_of w.history) × Adds w h (Cut (entry_of w.history h p)) w')
    ⊎ (((at w h).seen ≢ version_of w.history) × Becomes w h Idle (at w h).seen ((at w h).stale + 1) w')

-- what follows
abbrev pub Follows : WorldParts → Event → WorldParts → Type 0
Follows w (Read h v) w' = Becomes w h Reading v (at w h).stale w'
Follows w (Plan h stem) w' =
    (p : PlanParts)
    × (p.stem ≡ stem.value)
    × IsPlanUnder w.history (at w h).seen p
    × Becomes w h (Planned p) (at w h).seen (at w h).stale w'
Follows w (Try h) w' = (p : PlanParts) × ((at w h).stage ≡ Planned p) × Tries w h p w'
Follows w (Locked h stem) w' =
    (p : PlanParts)
    × (p.stem ≡ stem.value)
    × IsPlanUnder w.history (version_of w.history) p
    × Adds w h (Cut (entry_of w.history h p)) w'
Follows w (Retarget h targets) w' =
    AreTargets w.history.instruction targets.value.items
    × Adds w h (Demand (demand_of w.history h targets.value.items)) w'
Follows w (Raise h) w' = w' ≡ with_front w h
Follows w (Leave h) w' = Becomes w h Idle (at w h).seen 0 w'

abbrev pub Step : WorldParts → Event → WorldParts → Type 0
Step w e w' = Allowed w e × Follows w e w'
