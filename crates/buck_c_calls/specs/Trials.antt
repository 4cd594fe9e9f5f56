-- What the calls answer that say what a harvest would come to.
use Rattle.std.specs.Prelude.{◌+◌, ℕ, List, [], ◌∷◌, length, min, Option, Some, None}
use Rattle.std.specs.List.{AllZip}
use Rattle.buckfleet_tasks.specs.declared.combination.Combination.{Combination}
use Rattle.buckfleet_trial.specs.Trial.{AnswersTrial}
use Rattle.buckfleet_trial_tune.specs.Tune.{AnswersTune}
use Rattle.buckfleet_trial_wishes.specs.Wishes.{AnswersWishes}
use Rattle.buck_c_calls.specs.declared.asked.DrawnRun.{DrawnRun}
use Rattle.buck_c_calls.specs.declared.asked.Orders.{Orders}
use Rattle.buck_c_calls.specs.declared.asked.Run.{Run}
use Rattle.buck_c_calls.specs.Asked.{IsCombination, draws_by}
use Rattle.buck_c_calls.specs.Several.{AnswersCall}

-- a file of targets, but for one of no bytes, with its number: it is behind the stem files
abbrev pub wanted_in : List ℕ → List (Option (List ℕ)) → Option (Option (List ℕ) × ℕ)
wanted_in [] stms = None
wanted_in (byte ∷ bytes) stms = Some (Some (byte ∷ bytes), min (length stms + 1) 4294967295)

-- the table of runs and of their draws, over an instruction, targets and stem files
abbrev pub IsSwept : List Run → Orders → List ℕ → List ℕ → List ℕ → ℕ → Type 0
IsSwept runs draws lengths bytes text status =
    AnswersCall (λ (cs : List Combination) n. AllZip IsCombination runs cs)
    (λ cs apt targets stms. AnswersTrial cs (draws_by draws) (Some apt) stms (wanted_in targets stms))
    lengths bytes text status

-- the table of wishes of a run and of its draws, over such files
abbrev pub IsWished : DrawnRun → List ℕ → List ℕ → List ℕ → ℕ → Type 0
IsWished asked lengths bytes text status =
    AnswersCall (λ c n. IsCombination asked.run c)
    (λ c apt targets stms. AnswersWishes c.rule c.settings (draws_by asked.draws) (Some apt) stms
    (wanted_in targets stms))
    lengths bytes text status

-- the instruction that a run over such files tunes
abbrev pub IsTuned : Run → List ℕ → List ℕ → List ℕ → ℕ → Type 0
IsTuned run lengths bytes text status =
    AnswersCall (λ c n. IsCombination run c)
    (λ c apt targets stms. AnswersTune c.rule c.settings (Some apt) stms (wanted_in targets stms))
    lengths bytes text status
