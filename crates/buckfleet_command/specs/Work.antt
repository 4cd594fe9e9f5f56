-- What comes of the work that words ask for.
use Rattle.std.specs.Prelude.{ℕ, List, Option, Result, Ok, Err}
use Rattle.buckfleet_engine_files.specs.declared.fault.EngineFault.{EngineFault}
use Rattle.buckfleet_engine.specs.run.Bucking.{AnswersBuck}
use Rattle.buckfleet_engine.specs.run.Serving.{RunsFiles, RunsTask}
use Rattle.buckfleet_engine.specs.fleet.Serving.{RunsFleet}
use Rattle.buckfleet_engine_page.specs.Showing.{RunsView}
use Rattle.buckfleet_engine_cross_check.specs.Serving.{RunsCheck}
use Rattle.buckfleet_live.specs.Serving.{RunsLive}
use Rattle.buckfleet_trial_sweep.specs.Serving.{RunsSweep}
use Rattle.buckfleet_trial_owned.specs.Owned.{RunsOwned}
use Rattle.buckfleet_trial.specs.Serving.{RunsTrial}
use Rattle.buckfleet_trial_tune.specs.Serving.{RunsTune}
use Rattle.buckfleet_trial_wishes.specs.Serving.{RunsWishes}
use Rattle.buckfleet_proceeds.specs.Serving.{RunsAppraise, RunsCompare}
use Rattle.buckfleet_terms_files.specs.declared.fault.TermsFault.{TermsFault}
use Rattle.buckfleet_terms_files.specs.declared.fault.TermsFault.TheVariants.{Run, Targets, Own}
use Rattle.buckfleet_tasks.specs.declared.work.Work.{Work}
use Rattle.buckfleet_tasks.specs.declared.work.Work.TheVariants.{Plain, Buck, Fleet, Check, View, Live, Sweep, Trial, Owned, Wishes, Tune, Appraise, Compare}

-- work that ends as a run may that has no file beside the instruction
abbrev pub Ends : (Result (Unit {0}) EngineFault → Type 0) → Result (Unit {0}) TermsFault → Type 0
Ends Runs (Ok u) = Runs (Ok u)
Ends Runs (Err (Run fault)) = Runs (Err fault)
Ends Runs (Err (Targets fault)) = ⊥
Ends Runs (Err (Own fault)) = ⊥

-- work is its task's run, over the input and the files, and what it writes is the output; what it is that nothing was
-- read of the input is handed over
abbrev pub DoesWork : {O F M : Type 0} → (O → List ℕ → Option F → O → Type 0) → (O → List ℕ → Option M → O → Type 0)
    → (F → Option (List ℕ)) → (M → Option (List ℕ)) → O → O → Option (List ℕ) → Type 0 → Work
    → Option (List ℕ) → Option (List ℕ) → Result (Unit {0}) TermsFault → Type 0
DoesWork opens makes held contents start end input Unread (Plain task) old new outcome =
    Ends (RunsTask opens held start end input task old new) outcome
DoesWork opens makes held contents start end input Unread (Buck task) old new outcome =
    Ends (RunsFiles AnswersBuck opens held start end task.apt.now task.stm.now old new) outcome
DoesWork opens makes held contents start end input Unread (Fleet task) old new outcome =
    Ends (RunsFleet opens makes held contents start end task old new) outcome
DoesWork opens makes held contents start end input Unread (Check task) old new outcome =
    Ends (RunsCheck opens held start end task old new) outcome
DoesWork opens makes held contents start end input Unread (View task) old new outcome =
    Ends (RunsView opens held start end task old new) outcome
DoesWork opens makes held contents start end input Unread (Live task) old new outcome =
    Ends (RunsLive opens makes held contents start end task input Unread old new) outcome
DoesWork opens makes held contents start end input Unread (Sweep task) old new outcome =
    Ends (RunsSweep opens held start end task old new) outcome
DoesWork opens makes held contents start end input Unread (Trial task) old new outcome =
    RunsTrial opens held start end task old new outcome
DoesWork opens makes held contents start end input Unread (Owned task) old new outcome =
    RunsOwned opens held start end task old new outcome
DoesWork opens makes held contents start end input Unread (Wishes task) old new outcome =
    RunsWishes opens held start end task old new outcome
DoesWork opens makes held contents start end input Unread (Tune task) old new outcome =
    RunsTune opens held start end task old new outcome
DoesWork opens makes held contents start end input Unread (Appraise task) old new outcome =
    RunsAppraise opens held start end task old new outcome
DoesWork opens makes held contents start end input Unread (Compare task) old new outcome =
    Ends (RunsCompare opens held start end task old new) outcome
