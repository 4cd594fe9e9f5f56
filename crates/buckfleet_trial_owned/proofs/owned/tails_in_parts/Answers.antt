use Rattle.std.proofs.Common.{inl, inr, refl}
use Rattle.buckfleet_engine_files.specs.declared.fault.EngineFault.TheVariants.{Memory}
use Rattle.buckfleet_trial_sweep.specs.Runs.{IsStop}
use Rattle.buckfleet_trial_owned.specs.Owned.{IsOwnTail}
use Rattle.buckfleet_trial.proofs.Each.{all_given, one_stopped}
use Rattle.buckfleet_trial_owned.proofs.owned.tails_in_parts.Goals as goal

pub returns-clause-ok : goal.returns-clause-ok
returns-clause-ok g c =
    all_given _ _ (λ x tail. IsOwnTail c.args.own.now c.args.input.now.instruction c.args.input.now.lists.items
    c.args.starts.now x tail.items)
    (IsStop c.args.input.now.lists.items) c.size_of-size.result c.args.combinations.now c.in_ok-parts.parts
    c.joined.result c.size_of-size.ensures c.in_ok-parts.ensures.len c.in_ok-parts.ensures.each
    (λ start p r call. call) c.joined.ensures.all

pub returns-clause-stop : goal.returns-clause-stop
returns-clause-stop g c =
    one_stopped _ _ (λ x tail. IsOwnTail c.args.own.now c.args.input.now.instruction c.args.input.now.lists.items
    c.args.starts.now x tail.items)
    (IsStop c.args.input.now.lists.items) c.size_of-size.result c.args.combinations.now c.in_ok-parts.parts
    c.joined.result Memory (inr (inl refl), λ e. absurd (cc e)) c.in_ok-parts.ensures.each
    (λ start p r call. call) c.joined.ensures.fault
