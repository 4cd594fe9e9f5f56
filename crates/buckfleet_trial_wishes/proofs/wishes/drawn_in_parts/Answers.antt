use Rattle.std.proofs.Common.{IfOk, Some, inl, inr, refl, subst}
use Rattle.buckfleet_engine_files.specs.declared.fault.EngineFault.TheVariants.{Memory}
use Rattle.buckfleet_trial_sweep.specs.Runs.{IsStop}
use Rattle.buckfleet_trial_wishes.specs.inner.Asking.{AreDrawnBy, IsRunBy}
use Rattle.buckfleet_trial.proofs.Each.{all_given, one_stopped}
use Rattle.buckfleet_trial_wishes.proofs.wishes.drawn_in_parts.Goals as goal

pub returns-clause-ok : goal.returns-clause-ok
returns-clause-ok g c =
    subst (λ s. IfOk c.joined.result (λ made. AreDrawnBy c.args.asking.now c.args.asking.now.instruction.value s
    made.items)) c.as_slice-starts.ensures.value
    (all_given _ _ (λ start run. IsRunBy c.args.asking.now c.args.asking.now.instruction.value (Some start) run)
    (IsStop c.args.asking.now.input.lists.items) c.size_of-size.result c.as_slice-starts.result.now c.in_ok-parts.parts
    c.joined.result c.size_of-size.ensures c.in_ok-parts.ensures.len c.in_ok-parts.ensures.each
    (λ start p r call. call) c.joined.ensures.all)

pub returns-clause-stop : goal.returns-clause-stop
returns-clause-stop g c =
    one_stopped _ _ (λ start run. IsRunBy c.args.asking.now c.args.asking.now.instruction.value (Some start) run)
    (IsStop c.args.asking.now.input.lists.items) c.size_of-size.result c.as_slice-starts.result.now c.in_ok-parts.parts
    c.joined.result Memory (inr (inl refl), λ e. absurd (cc e)) c.in_ok-parts.ensures.each (λ start p r call. call)
    c.joined.ensures.fault
