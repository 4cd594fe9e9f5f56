use Rattle.std.proofs.Common.{◌≡◌, ◌++◌, ◌∙◌, ap, sym}
use Rattle.std.specs.Prelude.{codes}
use Rattle.buckfleet_trial_owned.specs.inner.Owned.{own_columns}
use Rattle.buckfleet_trial_owned.proofs.Owning.{columns_put}
use Rattle.buckfleet_trial_owned.proofs.owned.put_columns.Goals as goal
use Rattle.buckfleet_trial_owned.proofs.owned.put_columns.Goals.{then-has_draws+in_ok-extend_from_slice, else-has_draws}

pub returns : goal.returns
returns c =
    let names : c.if-has_draws.names.items ≡ own_columns c.args.has_draws =
    elim c.if-has_draws.branch [
      | then-has_draws+in_ok-extend_from_slice w ↦
          ap (λ v. v.items) w.names-is ∙ w.in_ok-extend_from_slice.ensures.items
          ∙ ap (λ l. l ++ codes ",own_loss_min,own_loss_mean,own_loss_max") c.in_ok-names.ensures.items
          ∙ ap (λ t. own_columns t) (sym w.if-has_draws.true)
      | else-has_draws w ↦
          ap (λ v. v.items) w.names-is ∙ c.in_ok-names.ensures.items
          ∙ ap (λ t. own_columns t) (sym w.if-has_draws.false)
    ] in
    columns_put c.args.instruction.now c.args.has_draws c.new-head.result.items c.put_first.new.out.items
    c.as_slice.result.now c.if-has_draws.names.items c.as_slice-2.result.now c.args.out.now.items
    c.put_behind.new.out.items c.put_behind.result c.new-head.ensures.items c.in_ok-put_first.ensures
    c.as_slice.ensures.value names c.as_slice-2.ensures.value c.put_behind.ensures
