-- What runs come to without a journal.
use Rattle.std.specs.Prelude.{◌≡◌, ℕ, List, length, map, nat_le, cond, sum, slice_get, Option, Some, None}
use Rattle.std.specs.List.{AllZip}
use Rattle.std.specs.declared.sync.Arc.{Arc}
use Rattle.std.specs.declared.vec.Vec.{Vec}
use Rattle.std.specs.declared.alloc.Global.{Global}
use Rattle.std.specs.Arc.{arc_value}
use Rattle.buck_apt_instruction.specs.Instruction.{InstructionParts}
use Rattle.buck_stem_shape.specs.declared.stem.Stem.{Stem}
use Rattle.buck_stem_shape.specs.Stem.{StemParts}
use Rattle.buck_value.specs.declared.log.Log.{Log}
use Rattle.buck_value.specs.Sheet.{SheetParts}
use Rattle.buck_dp.specs.Best.{IsFirstBest, cutting_worth}
use Rattle.buck_book_postings.specs.Degree.{IsDegreeBy}
use Rattle.buck_book_postings.specs.History.{HistoryParts}
use Rattle.buck_book_postings.specs.Replies.{stems_of}
use Rattle.buck_rule.specs.declared.named.NamedRule.{NamedRule}
use Rattle.buckfleet_trial_sweep.specs.Runs.{HasCut}
use Rattle.buckfleet_trial_draws.specs.Draws.{order_of}

-- the lesser of two numbers, or the only one
abbrev pub lesser : Option ℕ → Option ℕ → Option ℕ
lesser None other = other
lesser (Some one) None = Some one
lesser (Some one) (Some other) = cond (nat_le one other) (Some one) (Some other)

-- the degree of each assortment, given what is wanted and what was cut of each class
pub record AreDegrees (i : InstructionParts) (targets counts : List ℕ) (degrees : List (Option ℕ)) : Type 0 where
  pub one_each : length degrees ≡ length i.assortments
  pub each : (at : ℕ) (d : Option ℕ) → slice_get degrees at ≡ Some d → IsDegreeBy i targets counts at d

-- the stems of lists
abbrev pub all_stems : List (Vec (Arc Stem Global) Global) → List (List StemParts)
all_stems lists = map (λ list. stems_of list.items) lists

-- lists in the order of the draw that begins at a state
abbrev pub AreDrawn : ℕ → List (Vec (Arc Stem Global) Global) → List (Vec (Arc Stem Global) Global) → Type 0
AreDrawn start lists order = all_stems order ≡ order_of start (all_stems lists)

-- lists in the files' own order, or in that of the draw that begins at a state
abbrev pub AreOrdered : Option ℕ → List (Vec (Arc Stem Global) Global) → List (Vec (Arc Stem Global) Global) → Type 0
AreOrdered None lists order = order ≡ lists
AreOrdered (Some start) lists order = AreDrawn start lists order

-- what a run of an instruction by a rule in an order cuts
pub record HasCutOf (rule : NamedRule) (i : InstructionParts) (lists : List (Vec (Arc Stem Global) Global))
    (order : Option ℕ) (history : HistoryParts) : Type 0 where
  pub ordered : List (Vec (Arc Stem Global) Global)
  pub are_ordered : AreOrdered order lists ordered
  pub instruction : history.instruction ≡ i
  pub has_cut : HasCut rule ordered history

-- what the best cutting of a stem under a sheet is worth
abbrev pub IsBestWorth : SheetParts → StemParts → ℕ → Type 0
IsBestWorth sheet stem worth =
    (logs : List Log) × IsFirstBest sheet stem logs × (worth ≡ cutting_worth sheet stem logs)

-- what the best cuttings of stems are worth together, and those of all lists
abbrev pub AreBestOf : SheetParts → List (Arc Stem Global) → ℕ → Type 0
AreBestOf sheet stems worth =
    (worths : List ℕ) × AllZip (λ stem w. IsBestWorth sheet (arc_value stem) w) stems worths × (worth ≡ sum worths)

abbrev pub AreBest : SheetParts → List (Vec (Arc Stem Global) Global) → ℕ → Type 0
AreBest sheet lists worth =
    (worths : List ℕ) × AllZip (λ list w. AreBestOf sheet list.items w) lists worths × (worth ≡ sum worths)
