-- What a table of trials is: the lines of a sweep, and behind each what the draws of its combination came to.
use Rattle.std.specs.Prelude.{◌≡◌, ℕ, List, [], ◌∷◌, ◌++◌, length, map, sum_by, slice_get, Option, Some, None, Result, Ok, Err, codes}
use Rattle.std.specs.List.{AllZip}
use Rattle.std.specs.declared.sync.Arc.{Arc}
use Rattle.std.specs.declared.vec.Vec.{Vec}
use Rattle.std.specs.declared.alloc.Global.{Global}
use Rattle.buck_apt_instruction.specs.Instruction.{InstructionParts}
use Rattle.buck_apt_instruction.specs.Settings.{with_settings}
use Rattle.buck_stem_shape.specs.declared.stem.Stem.{Stem}
use Rattle.buck_book_postings.specs.Degree.{IsDegree}
use Rattle.buck_book_postings.specs.History.{HistoryParts}
use Rattle.buck_page_figures.specs.Figures.{at_base_in, base_sheet}
use Rattle.buckfleet_tasks.specs.declared.combination.Combination.{Combination}
use Rattle.buckfleet_trial_sweep.specs.Runs.{HasCut, IsRunLine}
use Rattle.buckfleet_trial_sweep.specs.Sweep.{AreLines}
use Rattle.buckfleet_trial_sweep.specs.Table.{IsLeast, head_line, rate_of}
use Rattle.buck_page_cells.specs.declared.change.Change.{Change}
use Rattle.buck_page_cells.specs.declared.spread.Spread.{Spread}
use Rattle.buck_page_cells.specs.Cells.{spread_cells}
use Rattle.buck_page_cells.specs.Spread.{IsSpread}
use Rattle.buckfleet_trial_draws.specs.declared.orders.Draws.{Draws}
use Rattle.buckfleet_trial_draws.specs.Draws.{starts_from}
use Rattle.buckfleet_terms_files.specs.declared.fault.TermsFault.{TermsFault}
use Rattle.buckfleet_terms_files.specs.Telling.{WritesTerms}
use Rattle.buckfleet_trial.specs.declared.trial.Drawn.{Drawn}
use Rattle.buckfleet_trial.specs.Inputs.{IsInputFault, SaysInput}
use Rattle.buckfleet_trial.specs.Light.{AreBest, AreDrawn}

-- the run of a draw: that of a history in which the stems were cut in turn in the order of that draw, by the
-- instruction with the combination's numbers in the place of its own, at the prices that its rule gives
pub record IsDrawn (i : InstructionParts) (lists : List (Vec (Arc Stem Global) Global)) (c : Combination) (start : ℕ)
    (d : Drawn) : Type 0 where
  pub order : List (Vec (Arc Stem Global) Global)
  pub history : HistoryParts
  pub are_drawn : AreDrawn start lists order
  pub instruction : history.instruction ≡ with_settings c.settings i
  pub has_cut : HasCut c.rule order history
  pub at_base : d.at_base ≡ sum_by (at_base_in history.instruction) history.postings
  pub degrees : List (Option ℕ)
  pub one_each : length degrees ≡ length i.assortments
  pub are_degrees : (at : ℕ) (degree : Option ℕ) → slice_get degrees at ≡ Some degree → IsDegree history at degree
  pub is_least : IsLeast degrees d.least

-- one run for each state at which a draw begins
abbrev pub AreAllDrawn : InstructionParts → List (Vec (Arc Stem Global) Global) → Combination → List ℕ → List Drawn
    → Type 0
AreAllDrawn i lists c starts drawn = AllZip (IsDrawn i lists c) starts drawn

-- a number as a change from 0
abbrev pub IsFromNothing : Option ℕ → Option Change → Type 0
IsFromNothing None None = Unit {0}
IsFromNothing None (Some change) = ⊥
IsFromNothing (Some n) None = ⊥
IsFromNothing (Some n) (Some change) = (change.from ≡ 0) × (change.to ≡ n)

-- the three cells of some numbers: their least, their mean and their greatest
pub record AreSpread (numbers : List (Option ℕ)) (text : List ℕ) : Type 0 where
  pub changes : List (Option Change)
  pub from_nothing : AllZip IsFromNothing numbers changes
  pub spread : Option Spread
  pub is_spread : IsSpread changes spread
  pub text_is : text ≡ spread_cells spread

-- the least degrees of draws, and what steering cost in each
abbrev pub degrees_in : List Drawn → List (Option ℕ)
degrees_in drawn = map (λ d. d.least) drawn

abbrev pub costs_in : ℕ → List Drawn → List (Option ℕ)
costs_in best drawn = map (λ d. Some (rate_of best d.at_base)) drawn

-- the cells of draws: their spreads, none if there are no draws
abbrev pub AreSpreads : ℕ → List Drawn → List ℕ → Type 0
AreSpreads best [] text = text ≡ []
AreSpreads best (d ∷ more) text = (degrees : List ℕ) × (costs : List ℕ)
    × AreSpread (degrees_in (d ∷ more)) degrees × AreSpread (costs_in best (d ∷ more)) costs
    × (text ≡ degrees ++ costs)

-- the line of a combination: that of a sweep, and what its draws came to, before the line feed
pub record IsTrialLine (i : InstructionParts) (lists : List (Vec (Arc Stem Global) Global)) (starts : List ℕ)
    (best : ℕ) (c : Combination) (line : List ℕ) : Type 0 where
  pub own : List ℕ
  pub drawn : List Drawn
  pub spreads : List ℕ
  pub is_run_line : IsRunLine i lists c (own ++ codes "\n")
  pub are_drawn : AreAllDrawn i lists c starts drawn
  pub are_spreads : AreSpreads best drawn spreads
  pub line_is : line ≡ own ++ (spreads ++ codes "\n")

-- the states at which draws begin, if there are draws
abbrev pub starts_of : Option Draws → List (Vec (Arc Stem Global) Global) → List ℕ
starts_of None lists = []
starts_of (Some draws) lists = starts_from draws.number draws.seed (map (λ list. list.items) lists)

-- the names of the columns of draws, if there are some
abbrev pub drawn_head : List ℕ → List ℕ
drawn_head [] = []
drawn_head (start ∷ more) =
    codes ",least_degree_min,least_degree_mean,least_degree_max,cost_min,cost_mean,cost_max"

-- what the best cuttings at base prices are worth, if draws need it
abbrev pub IsBestFor : InstructionParts → List (Vec (Arc Stem Global) Global) → List ℕ → ℕ → Type 0
IsBestFor i lists [] best = Unit {0}
IsBestFor i lists (start ∷ more) best = AreBest (base_sheet i) lists best

-- the table of some combinations over an instruction and stems, with the draws that begin at these states
pub record IsTrialOver (i : InstructionParts) (lists : List (Vec (Arc Stem Global) Global)) (cs : List Combination)
    (starts text : List ℕ) : Type 0 where
  pub head : List ℕ
  pub head_is : head_line i ≡ head ++ codes "\n"
  pub best : ℕ
  pub is_best : IsBestFor i lists starts best
  pub lines : List ℕ
  pub are_lines : AreLines (IsTrialLine i lists starts best) cs lines
  pub text_is : text ≡ head ++ (drawn_head starts ++ (codes "\n" ++ lines))

-- the same over the files of a trial
pub record IsTrial (cs : List Combination) (draws : Option Draws) (apt : Option (List ℕ))
    (stms : List (Option (List ℕ))) (targets : Option (Option (List ℕ) × ℕ)) (text : List ℕ) : Type 0 where
  pub instruction : InstructionParts
  pub lists : List (Vec (Arc Stem Global) Global)
  pub says : SaysInput apt stms targets instruction lists
  pub is_trial : IsTrialOver instruction lists cs (starts_of draws lists) text

-- the table, or why there is none
abbrev pub AnswersTrial : List Combination → Option Draws → Option (List ℕ) → List (Option (List ℕ))
    → Option (Option (List ℕ) × ℕ) → Result (List ℕ) TermsFault → Type 0
AnswersTrial cs draws apt stms targets (Ok text) = IsTrial cs draws apt stms targets text
AnswersTrial cs draws apt stms targets (Err fault) = IsInputFault apt stms targets fault

-- how a run of a trial ended, and what it wrote
abbrev pub IsTrialRun : List Combination → Option Draws → Option (List ℕ) → List (Option (List ℕ))
    → Option (Option (List ℕ) × ℕ) → Option (List ℕ) → Option (List ℕ) → Result (Unit {0}) TermsFault → Type 0
IsTrialRun cs draws apt stms targets old new outcome =
    WritesTerms (AnswersTrial cs draws apt stms targets) old new outcome
