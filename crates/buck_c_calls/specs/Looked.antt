-- What is said of a felled stem that isn't cut, as a caller in another language sees it.
use Rattle.std.specs.Prelude.{◌≡◌, ◌⊎◌, ℕ, List, length, map, Option, Some, None}
use Rattle.buck_stem_shape.specs.Stem.{StemParts}
use Rattle.buck_value.specs.declared.log.Log.{Log}
use Rattle.buck_book_postings.specs.Entry.{EntryParts}
use Rattle.buck_book_postings.specs.History.{HistoryParts, version_of, in_force}
use Rattle.buck_dp_own_logs.specs.declared.judging.Judged.{Judged}
use Rattle.buck_dp_own_logs.specs.declared.judging.Judged.TheVariants.{Admissible, Refused}
use Rattle.buck_dp_own_logs.specs.Reasons.{number_of}
use Rattle.buck_c_session.specs.declared.felling.Felled.{Felled}
use Rattle.buck_c_session.specs.declared.felling.Zone.{Zone}
use Rattle.buck_c_session.specs.declared.felling.FellFault.{FellFault}
use Rattle.buck_c_session.specs.declared.looking.Appraisal.{Appraisal}
use Rattle.buck_c_session.specs.declared.looking.NamedLog.{NamedLog}
use Rattle.buck_c_session.specs.Kept.{KeptParts}
use Rattle.buck_c_session.specs.Felled.{stem_by}
use Rattle.buck_c_session.specs.Looked.{IsAppraised, IsLookFault, IsPreview, log_by}
use Rattle.buck_c_calls.specs.declared.showing.Cut.{Cut}
use Rattle.buck_c_calls.specs.declared.looking.Appraised.{Appraised}
use Rattle.buck_c_calls.specs.Books.{closed, status_of_fell}
use Rattle.buck_c_calls.specs.Shown.{ShowsCut}

-- nothing is said of a stem, and the status has why
abbrev pub IsNotLookedAt : Felled → StemParts → ℕ → Type 0
IsNotLookedAt felled stem status =
    (fault : FellFault) × IsLookFault felled stem fault × (status ≡ status_of_fell fault)

-- a stem is shown as it would be cut now, at the position that its posting would have; or nothing is shown
abbrev pub Previews : Felled → List ℕ → List Zone → KeptParts → Cut → Cut → ℕ → Type 0
Previews felled samples zones kept old new status =
    ((status ≡ 0) × ((entry : EntryParts)
    × IsPreview kept.history felled.harvester (stem_by felled samples zones) entry
    × ShowsCut (in_force kept.history) (length kept.history.postings) entry new))
    ⊎ ((new ≡ old) × IsNotLookedAt felled (stem_by felled samples zones) status)

abbrev pub AnswersPreview : Felled → List ℕ → List Zone → Option KeptParts → Cut → Cut → ℕ → Type 0
AnswersPreview felled samples zones None old new status = (new ≡ old) × (status ≡ closed)
AnswersPreview felled samples zones (Some kept) old new status = Previews felled samples zones kept old new status

-- what is said of so many logs: how many of them from the butt on can be cut, and why the next one can't be, 0 if all
-- can be
abbrev pub ShowsJudged : ℕ → Judged → Appraised → Type 0
ShowsJudged n (Admissible worth) shown = (shown.worth ≡ worth) × (shown.log ≡ n) × (shown.reason ≡ 0)
ShowsJudged n (Refused log reason) shown =
    (shown.worth ≡ 0) × (shown.log ≡ log) × (shown.reason ≡ number_of reason)

-- logs of a stem are shown with what they are worth now
pub record ShowsAppraisal (h : HistoryParts) (stem : StemParts) (logs : List Log) (shown : Appraised) : Type 0 where
  pub appraisal : Appraisal
  pub appraised : IsAppraised h stem logs appraisal
  pub judged : ShowsJudged (length logs) appraisal.judged shown
  pub best : shown.best ≡ appraisal.best
  pub version : shown.version ≡ version_of h

abbrev pub Prices : Felled → List ℕ → List Zone → List NamedLog → KeptParts → Appraised → Appraised → ℕ → Type 0
Prices felled samples zones named kept old new status =
    ((status ≡ 0) × ShowsAppraisal kept.history (stem_by felled samples zones) (map log_by named) new)
    ⊎ ((new ≡ old) × IsNotLookedAt felled (stem_by felled samples zones) status)

abbrev pub AnswersPrice : Felled → List ℕ → List Zone → List NamedLog → Option KeptParts → Appraised → Appraised → ℕ
    → Type 0
AnswersPrice felled samples zones named None old new status = (new ≡ old) × (status ≡ closed)
AnswersPrice felled samples zones named (Some kept) old new status =
    Prices felled samples zones named kept old new status
