-- What is true of every world.
use Rattle.std.specs.Prelude.{◌≡◌, ℕ, ◌≤◌, List, length, map}
use Rattle.buck_apt_instruction.specs.Instruction.{IsInstruction}
use Rattle.buck_board.specs.Front.{IsSeenUpTo}
use Rattle.buck_book_postings.specs.Plan.{PlanParts}
use Rattle.buck_book_postings.specs.History.{HistoryParts, IsLawful, version_of}
use Rattle.buck_fleet_world.specs.declared.stage.Stage.TheVariants.{Planned}
use Rattle.buck_fleet_world.specs.declared.harvester.Harvester.{Harvester}
use Rattle.buck_fleet_world.specs.World.{WorldParts, IsHarvester, at, IsAnswered, NobodyAnswered}
use Rattle.buck_fleet_world.specs.Step.{IsPlanUnder}
use Rattle.buck_book_postings.specs.declared.posting.TheConstants.{MOST_POSTINGS}

-- what is true of each harvester: the plan that it holds was made under the sheet of the version that it has seen, that
-- version is at most the front, and it made at most three stale attempts
pub record IsFit (h : HistoryParts) (front : ℕ) (x : Harvester) : Type 0 where
  pub plan : (p : PlanParts) → x.stage ≡ Planned p → IsPlanUnder h x.seen p
  pub seen : x.seen ≤ front
  pub stale : x.stale ≤ 3

-- what is true of every world that a run reaches
pub record IsWorld (w : WorldParts) : Type 0 where
  pub lawful : IsLawful w.history
  pub fits : (h : ℕ) → IsHarvester w h → IsFit w.history w.front (at w h)
  pub one_answered : (h g : ℕ)
      → IsHarvester w h
      → IsHarvester w g
      → IsAnswered w h
      → IsAnswered w g
      → h ≡ g
  pub front_low : w.front ≤ version_of w.history
  pub front_in_force : NobodyAnswered w → w.front ≡ version_of w.history

-- a world with the closure that gives the next prices, and with how many postings it may have
pub record RuledWorld (F : Type 0) : Type 0 where
  pub rule : F  -- the closure
  pub capacity : ℕ  -- how many postings it may have
  pub world : WorldParts

-- the versions that the harvesters have seen
abbrev pub all_seen : WorldParts → List ℕ
all_seen w = map (λ x. x.seen) w.harvesters

-- what the type of worlds keeps; the front rule is that of the board
pub record IsKept {F : Type 0} (r : RuledWorld F) : Type 0 where
  pub valid : IsInstruction r.world.history.instruction
  pub world : IsWorld r.world
  pub front_rule : IsSeenUpTo r.world.front (all_seen r.world)
  pub within : length r.world.history.postings ≤ r.capacity
  pub capacity_range : r.capacity ≤ MOST_POSTINGS
  pub harvesters_range : length r.world.harvesters ≤ 64
