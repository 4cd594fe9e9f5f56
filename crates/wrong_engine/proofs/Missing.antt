-- Two files of which only the second is missing.
use Rattle.std.proofs.Common.{◌≡◌, ℕ, List, Option, Some, None, Result, Ok, Err, ap, ◌∙◌}
use mathlib.Core.Logic.{inl, inr}
use Rattle.buckfleet_engine_files.specs.declared.fault.EngineFault.{EngineFault}
use Rattle.buckfleet_engine_files.specs.declared.fault.EngineFault.TheVariants.{Read}
use Rattle.buckfleet_engine_files.specs.Opening.{AnswersOpening}
use Rattle.buckfleet_engine.specs.run.Bucking.{AnswersBuck}
use Rattle.buckfleet_engine.specs.run.Serving.{RunsOpened}

pub second_missing : {O F : Type 0} (opens : O → List ℕ → Option F → O → Type 0) (held : F → Option (List ℕ))
    (start end : O)
    (a b : List ℕ) (old new : Option (List ℕ)) (outcome : Result (Unit {0}) EngineFault)
    (opened : Result (F × F) EngineFault)
    → ((x : O) → opens start a None x → ⊥)
    → ((x y : O) (f g : F) → opens start a (Some f) x → opens x b (Some g) y → ⊥)
    → AnswersOpening opens start end a b opened → RunsOpened AnswersBuck held opened old new outcome
    → outcome ≡ Err (Read 1)
second_missing opens held start end a b old new outcome (Ok files) first second both runs =
    absurd (second both.between end files.0 files.1 both.first both.second)
second_missing opens held start end a b old new outcome (Err fault) first second (inl one) runs =
    absurd (first end one.1)
second_missing opens held start end a b old new outcome (Err fault) first second (inr two) runs =
    runs.0 ∙ ap (λ f. Err f) two.0
