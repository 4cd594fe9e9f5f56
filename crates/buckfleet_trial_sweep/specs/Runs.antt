-- The run of a combination: lists that are cut in turn, and its line.
use Rattle.std.specs.Prelude.{◌≡◌, ◌<◌, ◌≤◌, ℕ, List, length}
use Rattle.buck_apt_instruction.specs.Instruction.{InstructionParts}
use Rattle.buck_apt_instruction.specs.Settings.{with_settings}
use Rattle.buck_book_postings.specs.History.{HistoryParts, IsLawful}
use Rattle.buck_book_postings.specs.declared.posting.TheConstants.{MOST_POSTINGS}
use Rattle.buck_fleet_round_robin.specs.Turn.{HasCutInTurn, StemList, stems_in_all}
use Rattle.buck_rule.specs.declared.named.NamedRule.{NamedRule}
use Rattle.buckfleet_engine_files.specs.declared.fault.EngineFault.{EngineFault}
use Rattle.buckfleet_engine_files.specs.declared.fault.EngineFault.TheVariants.{Full}
use Rattle.buckfleet_engine_input.specs.Harvest.{AreFirsts, IsCuttingFault}
use Rattle.buckfleet_engine_files.specs.Ruled.{FollowsRule}
use Rattle.buckfleet_tasks.specs.declared.combination.Combination.{Combination}
use Rattle.buckfleet_trial_sweep.specs.Table.{IsLine}

-- a lawful history of at most 1,000,000 postings, each cutting the first of the best ones, in which lists were cut in
-- turn by a rule
pub record HasCut (rule : NamedRule) (lists : List StemList) (h : HistoryParts) : Type 0 where
  pub lawful : IsLawful h
  pub few : length h.postings ≤ MOST_POSTINGS
  pub firsts : AreFirsts h
  pub cut : HasCutInTurn lists h
  pub by_rule : FollowsRule rule h

-- the line of a combination, whose run cut these lists in turn by this instruction, with its numbers put in
pub record IsRunLine (i : InstructionParts) (lists : List StemList) (c : Combination)
    (line : List ℕ) : Type 0 where
  pub history : HistoryParts
  pub instruction : history.instruction ≡ with_settings c.settings i
  pub has_cut : HasCut c.rule lists history
  pub is_line : IsLine c.rule history line

-- why lists aren't cut: memory ran out, or they have too many stems
abbrev pub IsStop : List StemList → EngineFault → Type 0
IsStop lists fault = IsCuttingFault fault × (fault ≡ Full → MOST_POSTINGS < stems_in_all lists)
