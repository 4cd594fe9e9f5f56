-- Runs, and what their events add.
use Rattle.std.specs.Prelude.{ℕ, List, [], ◌∷◌, ◌++◌, length, drop}
use Rattle.buck_book_postings.specs.declared.posting.Posting.{Posting}
use Rattle.buck_fleet_world.specs.declared.event.Event.{Event}
use Rattle.buck_fleet_world.specs.declared.event.Event.TheVariants.{Read, Plan, Try, Locked, Retarget, Raise, Leave}
use Rattle.buck_fleet_world.specs.World.{WorldParts}
use Rattle.buck_fleet_world.specs.Step.{Step}

-- an event, and the world after it
pub record Move : Type 0 where
  pub event : Event
  pub after : WorldParts

-- each event is allowed where it stands, and its world follows
abbrev pub IsRun : WorldParts → List Move → Type 0
IsRun w [] = Unit {0}
IsRun w (m ∷ ms) = Step w m.event m.after × IsRun m.after ms

-- the world at the end
abbrev pub last : WorldParts → List Move → WorldParts
last w [] = w
last w (m ∷ ms) = last m.after ms

-- whose event it is
abbrev pub harvester_of_event : Event → ℕ
harvester_of_event (Read h v) = h
harvester_of_event (Plan h stem) = h
harvester_of_event (Try h) = h
harvester_of_event (Locked h stem) = h
harvester_of_event (Retarget h targets) = h
harvester_of_event (Raise h) = h
harvester_of_event (Leave h) = h

-- the postings of the later world that are past those of the earlier one
abbrev pub more_than : WorldParts → WorldParts → List Posting
more_than w w' = drop (length w.history.postings) w'.history.postings

-- what a `Try`, a `Locked` or a `Retarget` added; no other event adds
abbrev pub added_at : WorldParts → Event → WorldParts → List Posting
added_at w (Try h) w' = more_than w w'
added_at w (Locked h stem) w' = more_than w w'
added_at w (Retarget h targets) w' = more_than w w'
added_at w other w' = []

-- what the events of a run added, in order
abbrev pub added : WorldParts → List Move → List Posting
added w [] = []
added w (m ∷ ms) = added_at w m.event m.after ++ added m.after ms
