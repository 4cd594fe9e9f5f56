use Rattle.std.proofs.Common.{Some, ap, arith, length, subst}
use Rattle.buckfleet_trial_owned.specs.Owned.{AreLosses, IsOwnRun}
use Rattle.buckfleet_trial.proofs.Each.{zip_length}
use Rattle.buckfleet_trial_owned.proofs.owned.tail_of.Goals as goal

pub cells_of-requires : goal.cells_of-requires
cells_of-requires c =
    let long = zip_length (λ start o. IsOwnRun c.args.own.now c.args.input.now.instruction
    c.args.input.now.lists.items c.args.combination.now (Some start) o) c.args.starts.now c.in_ok-drawn.drawn.items
    c.in_ok-drawn.ensures.ok in
    omega (arith, long, ap length c.as_slice.ensures.value, c.requires.draws)

pub returns-clause-ok : goal.returns-clause-ok
returns-clause-ok c =
    let told = c.in_ok-cells_of.ensures in
    record {
      run = c.in_ok-whole.whole;
      drawn = c.in_ok-drawn.drawn.items;
      losses = told.0;
      is_run = c.in_ok-whole.ensures.ok;
      are_drawn = c.in_ok-drawn.ensures.ok;
      are_losses = subst (λ l. AreLosses l told.0) c.as_slice.ensures.value told.1;
      tail_is = told.2;
    }
