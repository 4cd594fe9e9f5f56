use Rattle.std.proofs.Common.{◌∙◌, inl, inr, refl, subst}
use Rattle.buckfleet_engine_files.specs.declared.fault.EngineFault.TheVariants.{Memory}
use Rattle.buckfleet_trial_owned.specs.Owned.{IsOwnedOver}
use Rattle.buckfleet_trial.specs.Trial.{starts_of}
use Rattle.buckfleet_trial.proofs.Ended.{nothing_made, written_over}
use Rattle.buckfleet_trial_owned.proofs.owned.write_owned.Goals as goal

pub returns-in_err-starts : goal.returns-in_err-starts
returns-in_err-starts g c =
    nothing_made c.args.input.now.lists.items
    (IsOwnedOver c.args.own.now c.args.input.now.instruction c.args.input.now.lists.items
    c.args.task.now.combinations.items (starts_of c.args.task.now.draws c.args.input.now.lists.items))
    (g.W.Write.contents c.args.out.now) Memory c.from_residual.result
    c.from_residual.ensures.1 (inr (inl refl), λ e. absurd (cc e))

pub returns-in_err-text : goal.returns-in_err-text
returns-in_err-text g c =
    nothing_made c.args.input.now.lists.items
    (IsOwnedOver c.args.own.now c.args.input.now.instruction c.args.input.now.lists.items
    c.args.task.now.combinations.items (starts_of c.args.task.now.draws c.args.input.now.lists.items))
    (g.W.Write.contents c.args.out.now) _ c.from_residual-in_err-text.result
    c.from_residual-in_err-text.ensures.1 c.in_err-text.ensures.stop

pub returns : goal.returns
returns g c =
    written_over c.args.input.now.lists.items
    (IsOwnedOver c.args.own.now c.args.input.now.instruction c.args.input.now.lists.items
    c.args.task.now.combinations.items (starts_of c.args.task.now.draws c.args.input.now.lists.items))
    (g.W.Write.contents c.args.out.now) _ c.in_ok-text.text.items c.as_slice-2.result.now _
    (subst (λ s. IsOwnedOver c.args.own.now c.args.input.now.instruction c.args.input.now.lists.items
    c.args.task.now.combinations.items s c.in_ok-text.text.items)
    (c.as_slice.ensures.value ∙ c.in_ok-starts.ensures.starts)
    (subst (λ cs. IsOwnedOver c.args.own.now c.args.input.now.instruction c.args.input.now.lists.items cs
    c.as_slice.result.now c.in_ok-text.text.items) c.as_slice-combinations.ensures.value c.in_ok-text.ensures.ok))
    c.as_slice-2.ensures.value c.write_text.ensures
