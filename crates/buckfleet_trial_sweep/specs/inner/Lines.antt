-- How the line of a run comes about: lists that are cut, and figures that are taken.
use Rattle.std.specs.Prelude.{◌≡◌, ◌++◌, ℕ, List, [], ◌∷◌, length, slice_get, nat_le, cond, Option, Some, None, Result, Ok, Err, codes}
use Rattle.std.specs.declared.vec.Vec.{Vec}
use Rattle.std.specs.declared.alloc.Global.{Global}
use Rattle.buck_apt_instruction.specs.Instruction.{InstructionParts}
use Rattle.buck_page_figures.specs.Degrees.{AreDegreesBy}
use Rattle.buck_page_figures.specs.declared.degrees.Degrees.{Degrees}
use Rattle.buck_book_journal.specs.Journal.{JournalParts}
use Rattle.buck_fleet_round_robin.specs.Turn.{StemList}
use Rattle.buckfleet_tasks.specs.declared.combination.Combination.{Combination}
use Rattle.buck_page_figures.specs.declared.figures.Figures.{Figures}
use Rattle.buckfleet_engine_files.specs.declared.fault.EngineFault.{EngineFault}
use Rattle.buck_rule.specs.declared.named.NamedRule.{NamedRule}
use Rattle.buck_rule.specs.Named.{rule_name}
use Rattle.buckfleet_trial_sweep.specs.Table.{apart_of, cells, head_line, rate_of, volumes_of, wholes_of}
use Rattle.buckfleet_trial_sweep.specs.Sweep.{AreLines}
use Rattle.buckfleet_trial_sweep.specs.Runs.{IsRunLine, IsStop}

-- the degrees of each assortment, given what is wanted and what was cut of each class
pub record AreAllDegrees (i : InstructionParts) (targets counts : List ℕ) (degrees : List Degrees) : Type 0 where
  pub one_each : length degrees ≡ length i.assortments
  pub each : (a : ℕ) (d : Degrees) → slice_get degrees a ≡ Some d → AreDegreesBy i targets counts a d

-- the lesser of two numbers, or the only one
abbrev pub lesser : Option ℕ → Option ℕ → Option ℕ
lesser None other = other
lesser (Some one) None = Some one
lesser (Some one) (Some other) = cond (nat_le one other) (Some one) (Some other)

-- how many sheets the first of some journals has
abbrev pub versions_of : List JournalParts → ℕ
versions_of [] = 0
versions_of (j ∷ more) = length j.sheets

-- the line of a run, from its figures
abbrev pub line_by : NamedRule → Figures → List Degrees → Option ℕ → List ℕ
line_by rule f degrees least =
    rule_name rule
    ++ (cells (Some f.instruction.now.period ∷ Some f.instruction.now.limit ∷ Some (versions_of f.journals.now) ∷ [])
    ++ (cells (wholes_of degrees)
    ++ (cells (least ∷ Some f.total.at_base ∷ Some f.total.best ∷ Some (rate_of f.total.best f.total.at_base)
    ∷ Some f.total.volume ∷ [])
    ++ (cells (volumes_of f.assortments.items f.unsteered_assortments.items)
    ++ (cells (apart_of degrees) ++ codes "\n")))))

-- the lines of some combinations, or why there are none
abbrev pub IsPart : InstructionParts → List StemList → List Combination
    → Result (Vec ℕ Global) EngineFault → Type 0
IsPart i lists cs (Ok text) = AreLines (IsRunLine i lists) cs text.items
IsPart i lists cs (Err fault) = IsStop lists fault

-- the names of the columns, and the lines of combinations whose runs cut these lists by this instruction; or why there
-- are none
abbrev pub AnswersTable : InstructionParts → List StemList → List Combination
    → Result (List ℕ) EngineFault → Type 0
AnswersTable i lists cs (Ok text) =
    (lines : List ℕ) × AreLines (IsRunLine i lists) cs lines × (text ≡ head_line i ++ lines)
AnswersTable i lists cs (Err fault) = IsStop lists fault
