-- What is kept besides, so that each event leaves a world again.
use Rattle.std.specs.Prelude.{◌≡◌, ℕ, ◌+◌, ◌-◌, ◌<◌, ◌≤◌, List, slice_get, slice_index_or, Some}
use Rattle.buck_book_postings.specs.declared.posting.Posting.{Posting}
use Rattle.buck_book_postings.specs.Posting.{harvester_of, planned_version}
use Rattle.buck_book_postings.specs.History.{HistoryParts, version_of}
use Rattle.buck_book_postings.specs.Book.{BookParts}
use Rattle.buck_fleet_world.specs.declared.stage.Stage.{Stage}
use Rattle.buck_fleet_world.specs.declared.stage.Stage.TheVariants.{Reading, Planned, Answered}
use Rattle.buck_fleet_world.specs.declared.harvester.Harvester.{Harvester}
use Rattle.buck_fleet_world.specs.World.{WorldParts, IsHarvester, at, newcomer}
use Rattle.buck_fleet_world.specs.Kept.{IsWorld, RuledWorld, IsKept}

-- an attempt is going on
abbrev pub IsGoing : Stage → Type 0
IsGoing Reading = Unit {0}
IsGoing (Planned p) = Unit {0}
IsGoing other = ⊥

-- harvester h has seen the versions of its own postings, unless it is answered; an attempt goes on only after fewer
-- than three stale ones
pub record IsPlaced (s : HistoryParts) (h : ℕ) (x : Harvester) : Type 0 where
  pub going : IsGoing x.stage → x.stale < 3
  pub replied : (x.stage ≡ Answered → ⊥)
      → (k : ℕ) (p : Posting)
      → slice_get s.postings k ≡ Some p
      → harvester_of p ≡ h
      → planned_version p ≤ x.seen

-- a world, in which the version in force is at most one past the front
pub record IsSound (w : WorldParts) : Type 0 where
  pub world : IsWorld w
  pub next : version_of w.history ≤ w.front + 1
  pub placed : (h : ℕ) → IsHarvester w h → IsPlaced w.history h (at w h)

-- all that the type of worlds keeps
pub record Keeps {F : Type 0} (r : RuledWorld F) : Type 0 where
  pub kept : IsKept r
  pub sound : IsSound r.world

-- the world of a book, a front and the harvesters
abbrev pub world_of : HistoryParts → ℕ → List Harvester → WorldParts
world_of s front xs = record { history = s; front = front; harvesters = xs }

abbrev pub ruled : {F : Type 0} → BookParts F → ℕ → List Harvester → RuledWorld F
ruled b front xs = record { rule = b.rule; capacity = b.capacity; world = world_of b.history front xs }

abbrev pub is_at : List Harvester → ℕ → Harvester
is_at xs h = slice_index_or xs (h - 1) newcomer
