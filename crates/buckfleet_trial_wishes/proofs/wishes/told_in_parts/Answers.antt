use Rattle.std.proofs.Common.{inl, inr, refl}
use Rattle.buckfleet_engine_files.specs.declared.fault.EngineFault.TheVariants.{Memory}
use Rattle.buckfleet_trial_sweep.specs.Runs.{IsStop}
use Rattle.buckfleet_trial_wishes.specs.inner.Asking.{IsToldOf}
use Rattle.buckfleet_trial.proofs.Each.{all_given, one_stopped}
use Rattle.buckfleet_trial_wishes.proofs.wishes.told_in_parts.Goals as goal

pub returns-clause-ok : goal.returns-clause-ok
returns-clause-ok g c =
    all_given _ _ (IsToldOf c.args.asking.now c.args.whole.now) (IsStop c.args.asking.now.input.lists.items)
    c.size_of-size.result c.args.wishes.now c.in_ok-parts.parts c.joined.result c.size_of-size.ensures
    c.in_ok-parts.ensures.len c.in_ok-parts.ensures.each (λ start p r call. call) c.joined.ensures.all

pub returns-clause-stop : goal.returns-clause-stop
returns-clause-stop g c =
    one_stopped _ _ (IsToldOf c.args.asking.now c.args.whole.now) (IsStop c.args.asking.now.input.lists.items)
    c.size_of-size.result c.args.wishes.now c.in_ok-parts.parts c.joined.result Memory
    (inr (inl refl), λ e. absurd (cc e)) c.in_ok-parts.ensures.each (λ start p r call. call) c.joined.ensures.fault
