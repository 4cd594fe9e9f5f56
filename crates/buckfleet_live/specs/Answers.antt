-- What is answered to a line of the input by the history so far, and which history comes of it.
use Rattle.std.specs.Prelude.{◌≡◌, ◌⊎◌, ◌<◌, ◌+◌, ℕ, List, [], ◌∷◌, ◌++◌, length, Option, Some, None, Result, Ok, Err, codes}
use Rattle.std.specs.List.{flat_map}
use Rattle.buck_record.specs.writing.Line.{line_of}
use Rattle.buck_record.specs.writing.Written.{spelled}
use Rattle.buck_stem.specs.declared.fault.StmFault.{StmFault}
use Rattle.buck_stem_shape.specs.Stem.{StemParts, stem_length}
use Rattle.buck_value.specs.declared.log.Log.{Log}
use Rattle.buck_value.specs.Sheet.{SheetParts}
use Rattle.buck_dp.specs.Best.{IsFirstBest, cutting_worth}
use Rattle.buck_dp_own_logs.specs.Reasons.{reason_name}
use Rattle.buck_dp_own_logs.specs.Judged.{IsJudged}
use Rattle.buck_dp_own_logs.specs.declared.judging.Judged.{Judged}
use Rattle.buck_dp_own_logs.specs.declared.judging.Judged.TheVariants.{Admissible, Refused}
use Rattle.buck_book_postings.specs.declared.posting.Posting.TheVariants.{Demand}
use Rattle.buck_book_postings.specs.declared.targets.TargetsFault.{TargetsFault}
use Rattle.buck_book_postings.specs.declared.targets.TargetsFault.TheVariants.{Count, Range, Sum}
use Rattle.buck_book_postings.specs.Entry.{EntryParts, DemandParts}
use Rattle.buck_book_postings.specs.Targets.{IsTargetsFault}
use Rattle.buck_book_postings.specs.History.{HistoryParts, in_force}
use Rattle.buck_book_cutter.specs.Cut.{AnyPrices, HasCut, HasRetargeted}
use Rattle.buckfleet_engine_files.specs.declared.fault.EngineFault.TheVariants.{Read, Stm, Full}
use Rattle.buckfleet_engine_files.specs.Faults.{fault_line, memory_line}
use Rattle.buckfleet_engine_text.specs.Bucking.{log_line, named_line_of, stem_lines}
use Rattle.buckfleet_engine_text.specs.Report.{posting_line}
use Rattle.buckfleet_live.specs.Request.{request_of}
use Rattle.buckfleet_live.specs.declared.request.Asked.{Asked}
use Rattle.buckfleet_live.specs.declared.request.Asked.TheVariants.{Stem, Preview, Own, Targets}
use Rattle.buckfleet_live.specs.declared.request.Request.{Request}
use Rattle.buck_book_postings.specs.declared.posting.TheConstants.{MOST_POSTINGS}

-- a stem was cut, by the first of the best cuttings under the sheet in force; its lines are answered, with the worths
-- of that sheet
pub record CutsStem (before : HistoryParts) (harvester : ℕ) (stem : StemParts) (text : List ℕ)
    (after : HistoryParts) : Type 0 where
  pub entry : EntryParts
  pub cut : HasCut AnyPrices harvester stem before after entry
  pub text_is : text ≡ stem_lines (in_force before) (record { stem = stem; logs = entry.logs })

-- new targets came into force; the line of the demand is answered, with its position
pub record TakesTargets (before : HistoryParts) (harvester : ℕ) (targets : List ℕ) (text : List ℕ)
    (after : HistoryParts) : Type 0 where
  pub demand : DemandParts
  pub taken : HasRetargeted AnyPrices harvester targets before after demand
  pub text_is : text ≡ posting_line (length before.postings) (Demand demand)

-- the number of a fault of targets, and its fields
abbrev pub targets_numbers : TargetsFault → List ℕ
targets_numbers Count = 1 ∷ []
targets_numbers (Range at) = 2 ∷ at ∷ []
targets_numbers (Sum assortment) = 3 ∷ assortment ∷ []

-- targets are refused, with the line of their first fault
pub record RefusesTargets (before : HistoryParts) (targets : List ℕ) (text : List ℕ) (after : HistoryParts)
    : Type 0 where
  pub fault : TargetsFault
  pub is_fault : IsTargetsFault before.instruction targets fault
  pub text_is : text ≡ line_of (codes "targets fault") (targets_numbers fault)
  pub same : after ≡ before

-- a text is answered, and nothing changes
abbrev pub SaysOnly : List ℕ → HistoryParts → List ℕ → HistoryParts → Type 0
SaysOnly words before text after = (text ≡ words) × (after ≡ before)

-- PREVIEW <stem number> <stem length> <number of logs> <worth>, and a line for each log
abbrev pub preview_lines : SheetParts → StemParts → List Log → List ℕ
preview_lines sheet stem logs =
    line_of (codes "PREVIEW")
    (stem.number ∷ stem_length stem.samples ∷ length logs ∷ cutting_worth sheet stem logs ∷ [])
    ++ flat_map (log_line sheet stem) logs

-- a stem is previewed: the first of the best cuttings under the sheet in force, with the worths of that sheet
pub record PreviewsStem (before : HistoryParts) (stem : StemParts) (text : List ℕ) : Type 0 where
  pub logs : List Log
  pub best : IsFirstBest (in_force before) stem logs
  pub text_is : text ≡ preview_lines (in_force before) stem logs

-- OWN <stem number> <number of logs> <worth> <best worth> of a cutting that is admissible, and else
-- OWN <stem number> not <log> <reason>, the first log that can't be cut, from 1
abbrev pub own_line : StemParts → List Log → ℕ → Judged → List ℕ
own_line stem own best (Admissible worth) = line_of (codes "OWN") (stem.number ∷ length own ∷ worth ∷ best ∷ [])
own_line stem own best (Refused log reason) =
    codes "OWN" ++ (spelled (stem.number ∷ []) ++ named_line_of (codes " not") ((log + 1) ∷ []) (reason_name reason))

-- an operator's own logs of a stem are priced, or the first that can't be cut is named; beside it the worth of the best
-- cutting, all of it under the sheet in force
pub record JudgesOwn (before : HistoryParts) (stem : StemParts) (own : List Log) (text : List ℕ) : Type 0 where
  pub judged : Judged
  pub is_judged : IsJudged (in_force before) stem own judged
  pub best : List Log
  pub is_best : IsFirstBest (in_force before) stem best
  pub text_is : text ≡ own_line stem own (cutting_worth (in_force before) stem best) judged

-- what is answered if a posting has room, and that the history is full if it hasn't
abbrev pub IfRoom : HistoryParts → List ℕ → HistoryParts → Type 0 → Type 0
IfRoom before text after Posts =
    ((length before.postings ≡ MOST_POSTINGS) × SaysOnly (fault_line Full) before text after)
    ⊎ ((length before.postings < MOST_POSTINGS) × Posts)

-- what is answered to what is asked for; a stem that is looked at only needs no room, and nothing changes
abbrev pub AnswersAsked : HistoryParts → ℕ → Asked → List ℕ → HistoryParts → Type 0
AnswersAsked before harvester (Stem stem) text after =
    IfRoom before text after (CutsStem before harvester stem text after)
AnswersAsked before harvester (Preview stem) text after = PreviewsStem before stem text × (after ≡ before)
AnswersAsked before harvester (Own stem logs) text after = JudgesOwn before stem logs text × (after ≡ before)
AnswersAsked before harvester (Targets targets) text after =
    IfRoom before text after
    (TakesTargets before harvester targets text after ⊎ RefusesTargets before targets text after)

-- what is answered to a line by what it asks for: nothing to one that asks for nothing, and to one that is refused the
-- line of its fault, as of a file with the number 1
abbrev pub AnswersRead : HistoryParts → Result (Option Request) StmFault → List ℕ → HistoryParts → Type 0
AnswersRead before (Ok None) text after = SaysOnly [] before text after
AnswersRead before (Ok (Some r)) text after = AnswersAsked before r.harvester r.asked text after
AnswersRead before (Err fault) text after = SaysOnly (fault_line (Stm 1 fault)) before text after

-- what is answered to a line; that memory ran out may come in the place of each answer
abbrev pub AnswersLine : HistoryParts → Option (List ℕ) → List ℕ → HistoryParts → Type 0
AnswersLine before None text after = SaysOnly (fault_line (Read 1)) before text after
AnswersLine before (Some line) text after =
    AnswersRead before (request_of line) text after ⊎ SaysOnly memory_line before text after

-- what is answered to lines, one after the other, and which history comes of them
abbrev pub AnswersAll : HistoryParts → List (Option (List ℕ)) → List ℕ → HistoryParts → Type 0
AnswersAll before [] text after = SaysOnly [] before text after
AnswersAll before (line ∷ more) text after =
    (between : HistoryParts) × (first : List ℕ) × (rest : List ℕ)
    × AnswersLine before line first between × AnswersAll between more rest after × (text ≡ first ++ rest)
