-- What the calls answer over journals.
use Rattle.std.specs.Prelude.{◌≡◌, ◌<◌, ◌≤◌, ◌+◌, ℕ, List, ◌∷◌, length, Some}
use Rattle.buck_apt_instruction.specs.Settings.{SettingsParts}
use Rattle.buckfleet_tasks.specs.declared.journals.CrossCheck.{CrossCheck}
use Rattle.buckfleet_engine_files.specs.Reading.{apt_with}
use Rattle.buckfleet_engine_cross_check.specs.Answers.{AnswersCheckWith}
use Rattle.buckfleet_tasks.specs.declared.journals.CompareTask.{CompareTask}
use Rattle.buckfleet_proceeds.specs.Serving.{AnswersAppraise, AnswersCompare}
use Rattle.buck_c_calls.specs.declared.asked.Numbers.{Numbers}
use Rattle.buck_c_calls.specs.declared.asked.Pair.{Pair}
use Rattle.buck_c_calls.specs.declared.asked.Run.{Run}
use Rattle.buck_c_calls.specs.Asked.{AreSettings, IsCrossCheck}
use Rattle.buck_c_calls.specs.Several.{AnswersCall, InTerms}

-- the line of a journal that is tied to stem files and to a rule, over an instruction, a journal and stem files
abbrev pub IsCheckedWith : Run → List ℕ → List ℕ → List ℕ → ℕ → Type 0
IsCheckedWith run lengths bytes text status =
    AnswersCall (λ (by : CrossCheck) n. IsCrossCheck run by)
    (λ by apt journal stms. InTerms (AnswersCheckWith (apt_with by.settings) by.rule (Some apt) (Some journal) stms))
    lengths bytes text status

-- the table of an appraisal, over an instruction, an owner's contract and 1 to 64 journals
abbrev pub IsAppraised : Numbers → List ℕ → List ℕ → List ℕ → ℕ → Type 0
IsAppraised numbers lengths bytes text status =
    AnswersCall (λ (s : SettingsParts) n. AreSettings numbers s × (0 < n) × (n ≤ 64))
    (λ s apt own journals. AnswersAppraise s (Some apt) journals (Some own, length journals + 1))
    lengths bytes text status

-- the table of a comparison, over an instruction and two journals
abbrev pub IsCompared : Pair → List ℕ → List ℕ → List ℕ → ℕ → Type 0
IsCompared pair lengths bytes text status =
    AnswersCall (λ (t : CompareTask) n. AreSettings pair.first t.first × AreSettings pair.second t.second × (n ≡ 1))
    (λ t apt one others. InTerms (AnswersCompare t (Some apt) (Some one ∷ others)))
    lengths bytes text status
