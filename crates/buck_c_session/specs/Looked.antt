-- What is said of a felled stem that isn't cut: how it would be cut now, and what other logs of it are worth.
use Rattle.std.specs.Prelude.{◌≡◌, ℕ, ◌<◌, ◌≤◌, List}
use Rattle.buck_apt_instruction.specs.Instruction.{IsWithin}
use Rattle.buck_stem_shape.specs.Stem.{StemParts, IsStem}
use Rattle.buck_value.specs.declared.log.Log.{Log}
use Rattle.buck_book_postings.specs.Entry.{EntryParts}
use Rattle.buck_book_postings.specs.Plan.{PlanParts, IsPlan}
use Rattle.buck_book_postings.specs.History.{HistoryParts, in_force}
use Rattle.buck_book_postings.specs.Book.{entry_of}
use Rattle.buck_dp_own_logs.specs.Judged.{IsJudged}
use Rattle.buck_c_session.specs.declared.felling.Felled.{Felled}
use Rattle.buck_c_session.specs.declared.felling.FellFault.{FellFault}
use Rattle.buck_c_session.specs.declared.felling.FellFault.TheVariants.{Harvester, Stem, Full, Memory}
use Rattle.buck_c_session.specs.declared.looking.Appraisal.{Appraisal}
use Rattle.buck_c_session.specs.declared.looking.NamedLog.{NamedLog}

-- a log as a stem has it
abbrev pub log_by : NamedLog → Log
log_by g = record { start = g.start; length = g.length; assortment = g.assortment }

-- a stem is planned under the sheet in force
pub record IsPlannedNow (h : HistoryParts) (stem : StemParts) (plan : PlanParts) : Type 0 where
  pub is_plan : IsPlan plan
  pub same_stem : plan.stem ≡ stem
  pub sheet_in_force : plan.sheet ≡ in_force h

-- an entry as a cut of the stem would give it now
pub record IsPreview (h : HistoryParts) (harvester : ℕ) (stem : StemParts) (entry : EntryParts) : Type 0 where
  pub plan : PlanParts
  pub planned : IsPlannedNow h stem plan
  pub entry_is : entry ≡ entry_of h harvester plan

-- what logs of a stem are worth now, or which of them can't be cut, beside the worth of the best cutting
pub record IsAppraised (h : HistoryParts) (stem : StemParts) (logs : List Log) (a : Appraisal) : Type 0 where
  pub judged : IsJudged (in_force h) stem logs a.judged
  pub plan : PlanParts
  pub planned : IsPlannedNow h stem plan
  pub best : a.best ≡ plan.worth

-- why nothing is said: the harvester is looked at first, then the stem
abbrev pub IsLookFault : Felled → StemParts → FellFault → Type 0
IsLookFault felled stem Harvester = 0 < felled.harvester → felled.harvester ≤ 64 → ⊥
IsLookFault felled stem Stem = IsWithin 1 64 felled.harvester × (IsStem stem → ⊥)
IsLookFault felled stem Full = ⊥
IsLookFault felled stem Memory = Unit {0}
