-- How a whole run of wishes ends: what is opened, and what is written.
use Rattle.std.specs.Prelude.{ℕ, List, map, Option, Result}
use Rattle.std.specs.Option.{option_map}
use Rattle.buckfleet_tasks.specs.declared.trials.WishesTask.{WishesTask}
use Rattle.buckfleet_terms_files.specs.declared.fault.TermsFault.{TermsFault}
use Rattle.buckfleet_trial.specs.Inputs.{held_with}
use Rattle.buckfleet_trial.specs.Serving.{RunsFiles}
use Rattle.buckfleet_trial_wishes.specs.Wishes.{AnswersWishes}

-- all input files are opened by their names, in order, and then the table is made
abbrev pub RunsWishes : {O F : Type 0} → (O → List ℕ → Option F → O → Type 0) → (F → Option (List ℕ)) → O → O
    → WishesTask → Option (List ℕ) → Option (List ℕ) → Result (Unit {0}) TermsFault → Type 0
RunsWishes opens held start end task old new outcome =
    RunsFiles opens
    (λ files. AnswersWishes task.rule task.settings task.draws (held files.apt) (map held files.stms.items)
    (held_with held files.targets)) start end task.apt.now (map (λ s. s.now) task.stms.items)
    (option_map (λ s. s.now) task.targets) old new outcome
