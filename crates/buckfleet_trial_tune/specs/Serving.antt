-- How a whole run that tunes an instruction ends: what is opened, and what is written.
use Rattle.std.specs.Prelude.{ℕ, List, map, Option, Result}
use Rattle.std.specs.Option.{option_map}
use Rattle.buckfleet_tasks.specs.declared.trials.TuneTask.{TuneTask}
use Rattle.buckfleet_terms_files.specs.declared.fault.TermsFault.{TermsFault}
use Rattle.buckfleet_trial.specs.Inputs.{held_with}
use Rattle.buckfleet_trial.specs.Serving.{RunsFiles}
use Rattle.buckfleet_trial_tune.specs.Tune.{AnswersTune}

-- all input files are opened by their names, in order, and then the text is made
abbrev pub RunsTune : {O F : Type 0} → (O → List ℕ → Option F → O → Type 0) → (F → Option (List ℕ)) → O → O
    → TuneTask → Option (List ℕ) → Option (List ℕ) → Result (Unit {0}) TermsFault → Type 0
RunsTune opens held start end task old new outcome =
    RunsFiles opens
    (λ files. AnswersTune task.rule task.settings (held files.apt) (map held files.stms.items)
    (held_with held files.targets)) start end task.apt.now (map (λ s. s.now) task.stms.items)
    (option_map (λ s. s.now) task.targets) old new outcome
