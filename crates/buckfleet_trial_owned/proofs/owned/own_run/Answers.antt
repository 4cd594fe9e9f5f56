use Rattle.std.proofs.Common.{◌≡◌, rules, subst}
use Rattle.buck_apt_instruction.specs.Settings.{with_settings}
use Rattle.buckfleet_trial.specs.Light.{HasCutOf}
use Rattle.buckfleet_trial_owned.proofs.Owning.{own_run_is}
use Rattle.buckfleet_trial_owned.proofs.owned.own_run.Goals as goal

pub returns-clause-ok : goal.returns-clause-ok
returns-clause-ok c =
    let run : c.in_ok-instruction.instruction.value
    ≡ with_settings c.args.combination.now.settings c.args.input.now.instruction = search rules in
    own_run_is c.args.own.now c.args.input.now.instruction c.in_ok-instruction.instruction.value
    c.args.input.now.lists.items c.args.combination.now c.args.order c.in_ok-paid_for.field-0 c.in_ok-parts.parts run
    (subst (λ l. HasCutOf c.args.combination.now.rule c.in_ok-instruction.instruction.value l c.args.order
    c.in_ok-parts.parts) c.as_slice-lists.ensures.value c.in_ok-parts.ensures.ok) c.in_ok-paid_for.ensures
