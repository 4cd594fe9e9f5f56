-- A price list tuned on stems: each price is the mean of those that were in force while the stems were cut.
use Rattle.std.specs.Prelude.{◌≡◌, ◌<◌, ◌==◌, ◌||◌, ℕ, List, length, max, min, sum_by, slice_index, if◌then◌else◌, Option, Result, Ok, Err}
use Rattle.std.specs.declared.sync.Arc.{Arc}
use Rattle.std.specs.declared.vec.Vec.{Vec}
use Rattle.std.specs.declared.alloc.Global.{Global}
use Rattle.buck_apt.specs.Apt.{apt_of}
use Rattle.buck_apt_instruction.specs.Instruction.{InstructionParts, classes}
use Rattle.buck_apt_instruction.specs.Priced.{with_prices}
use Rattle.buck_apt_instruction.specs.Settings.{SettingsParts, with_settings}
use Rattle.buck_apt.specs.Text.{text_of}
use Rattle.buck_stem_shape.specs.declared.stem.Stem.{Stem}
use Rattle.buck_value.specs.Sheet.{base_prices}
use Rattle.buck_rule.specs.declared.named.NamedRule.{NamedRule}
use Rattle.buck_book_postings.specs.History.{HistoryParts, prices_at}
use Rattle.buck_book_postings.specs.Posting.{planned_version}
use Rattle.buckfleet_trial_sweep.specs.Runs.{HasCut}
use Rattle.buck_page_text.specs.Words.{half_up}
use Rattle.buckfleet_terms_files.specs.declared.fault.TermsFault.{TermsFault}
use Rattle.buckfleet_trial.specs.Inputs.{IsInputFault, SaysInput}

-- the prices of a class, by its place among all, that were in force for each posting, together
abbrev pub price_sum : HistoryParts → ℕ → ℕ
price_sum h at = sum_by (λ x. slice_index (prices_at h.sheets (planned_version x)) at) h.postings

-- the mean of so many prices that come to a sum, within what the base price of a class that is bought may be; a class
-- that isn't bought stays so, and all stays if there are no prices
abbrev pub tuned : ℕ → ℕ → ℕ → ℕ
tuned base sum number =
    if (base == 0) || (number == 0) then base else min (max (half_up sum number) 1) 10000000

abbrev pub tuned_price : HistoryParts → ℕ → ℕ
tuned_price h at = tuned (slice_index (base_prices h.instruction) at) (price_sum h at) (length h.postings)

-- new base prices, one for each class
pub record AreTuned (h : HistoryParts) (prices : List ℕ) : Type 0 where
  pub one_each : length prices ≡ classes h.instruction
  pub each : (at : ℕ) → at < classes h.instruction → slice_index prices at ≡ tuned_price h at

-- the text of the instruction with the prices that a run by a rule over lists tunes. Settings are the run's alone.
pub record IsTunedText (rule : NamedRule) (settings : SettingsParts) (i : InstructionParts)
    (lists : List (Vec (Arc Stem Global) Global)) (text : List ℕ) : Type 0 where
  pub history : HistoryParts
  pub instruction : history.instruction ≡ with_settings settings i
  pub has_cut : HasCut rule lists history
  pub prices : List ℕ
  pub are_tuned : AreTuned history prices
  pub text_is : text ≡ text_of (with_prices prices i)
  pub read_again : apt_of text ≡ Ok (with_prices prices i)

-- over the files of a trial
pub record IsTuned (rule : NamedRule) (settings : SettingsParts) (apt : Option (List ℕ))
    (stms : List (Option (List ℕ))) (targets : Option (Option (List ℕ) × ℕ)) (text : List ℕ) : Type 0 where
  pub instruction : InstructionParts
  pub lists : List (Vec (Arc Stem Global) Global)
  pub says : SaysInput apt stms targets instruction lists
  pub is_tuned : IsTunedText rule settings instruction lists text

-- the text, or why there is none
abbrev pub AnswersTune : NamedRule → SettingsParts → Option (List ℕ) → List (Option (List ℕ))
    → Option (Option (List ℕ) × ℕ) → Result (List ℕ) TermsFault → Type 0
AnswersTune rule settings apt stms targets (Ok text) = IsTuned rule settings apt stms targets text
AnswersTune rule settings apt stms targets (Err fault) = IsInputFault apt stms targets fault
