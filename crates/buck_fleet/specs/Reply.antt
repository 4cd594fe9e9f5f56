-- What calls of a seat answer.
use Rattle.std.specs.Prelude.{◌≡◌, ℕ, ◌+◌, ◌≤◌, List}
use Rattle.buck_stem_shape.specs.Stem.{StemParts}
use Rattle.buck_value.specs.Sheet.{SheetParts}
use Rattle.buck_book_postings.specs.declared.posting.Posting.TheVariants as posting
use Rattle.buck_book_postings.specs.Entry.{EntryParts}
use Rattle.buck_book_postings.specs.Plan.{PlanParts, IsPlan, plan_of}
use Rattle.buck_book_postings.specs.declared.posting.Kept.{Kept}
use Rattle.buck_fleet.specs.declared.seat.Path.{Path}
use Rattle.buck_fleet.specs.declared.seat.Path.TheVariants.{Optimistic, Locked}
use Rattle.buck_fleet.specs.declared.seat.Reply.{Reply}
use Rattle.buck_fleet.specs.declared.seat.DemandReply.{DemandReply}
use Rattle.buck_fleet.specs.declared.seat.TheConstants.{MOST_ATTEMPTS}
use Rattle.buck_fleet.specs.Seat.{SeatParts, KeepsOne, seen_of}

-- the first of the best cuttings of a stem, with its worth, under some sheet of the entry's version
abbrev pub IsFirstBestSomewhere : EntryParts → Type 0
IsFirstBestSomewhere e = (s : SheetParts) × (s.version ≡ e.version) × IsPlan (plan_of e.stem s e.logs e.worth)

-- what is kept of a reply
abbrev pub kept_of : Reply → Kept
kept_of r = record { position = r.position; entry = posting.Cut r.entry }

abbrev pub kept_demand_of : DemandReply → Kept
kept_demand_of r = record { position = r.position; entry = posting.Demand r.demand }

-- a seat's reply for a stem, which was kept; the version of its sheet has been seen
pub record IsReplyFor (before after : SeatParts) (stem : StemParts) (r : Reply) : Type 0 where
  pub kept : KeepsOne before (kept_of r) after
  pub own_harvester : r.entry.harvester ≡ before.harvester
  pub same_stem : r.entry.stem ≡ stem
  pub first_best : IsFirstBestSomewhere r.entry
  pub seen : r.entry.version ≤ seen_of after

-- the entry is what was planned
pub record IsOfPlan (p : PlanParts) (e : EntryParts) : Type 0 where
  pub same_version : e.version ≡ p.sheet.version
  pub same_logs : e.logs ≡ p.logs
  pub same_worth : e.worth ≡ p.worth

-- how many optimistic attempts a reply may name
abbrev pub AreAttempts : Path → ℕ → Type 0
AreAttempts Optimistic n = (1 ≤ n) × (n ≤ MOST_ATTEMPTS)
AreAttempts Locked n = n ≤ MOST_ATTEMPTS

-- a seat's reply for new targets, which was kept; the version that they begin has been seen
pub record IsReplyToTargets (before after : SeatParts) (targets : List ℕ) (r : DemandReply) : Type 0 where
  pub kept : KeepsOne before (kept_demand_of r) after
  pub own_harvester : r.demand.harvester ≡ before.harvester
  pub same_targets : r.demand.targets ≡ targets
  pub seen : r.demand.version + 1 ≤ seen_of after
