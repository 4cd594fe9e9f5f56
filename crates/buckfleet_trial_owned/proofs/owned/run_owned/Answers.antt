use Rattle.std.proofs.Common.{inl, inr, map}
use Rattle.buckfleet_trial.specs.Inputs.{held_with}
use Rattle.buckfleet_trial_owned.specs.Owned.{AnswersOwned, IsOwnedOver}
use Rattle.buckfleet_trial.specs.Trial.{starts_of}
use Rattle.buckfleet_trial.proofs.Ended.{files_run, not_read}
use Rattle.buckfleet_trial_owned.proofs.Opening.{own_refused}
use Rattle.buckfleet_trial_owned.proofs.owned.run_owned.Goals as goal

pub returns-in_err-input : goal.returns-in_err-input
returns-in_err-input g c =
    let files = c.args.files in
    let apt = g.R.Read.remaining files.files.apt in
    let stms = map g.R.Read.remaining files.files.stms.items in
    let targets = held_with g.R.Read.remaining files.files.targets in
    let task = c.args.task.now in
    not_read (AnswersOwned task.combinations.items task.draws apt stms targets
    (g.R.Read.remaining files.own.0, files.own.1)) apt stms targets
    (g.W.Write.contents c.args.out.now) _ c.from_residual.result c.from_residual.ensures.1
    c.in_err-input.ensures.refused (λ e is. inl is)

pub returns-in_err-owner : goal.returns-in_err-owner
returns-in_err-owner g c =
    let files = c.args.files in
    let apt = g.R.Read.remaining files.files.apt in
    let stms = map g.R.Read.remaining files.files.stms.items in
    let targets = held_with g.R.Read.remaining files.files.targets in
    let task = c.args.task.now in
    own_refused (AnswersOwned task.combinations.items task.draws apt stms targets
    (g.R.Read.remaining files.own.0, files.own.1)) files.own.1 c.in_ok-input.input.instruction
    (g.R.Read.remaining files.own.0) (g.W.Write.contents c.args.out.now) _ c.from_residual-in_err-owner.result
    c.from_residual-in_err-owner.ensures.1 c.in_err-owner.ensures.refused
    (λ e is. inr (record {
      instruction = c.in_ok-input.input.instruction;
      lists = c.in_ok-input.input.lists.items;
      says = c.in_ok-input.ensures.says;
      few = c.in_ok-input.ensures.room;
      is_fault = is;
    }))

pub returns : goal.returns
returns g c =
    let files = c.args.files in
    let apt = g.R.Read.remaining files.files.apt in
    let stms = map g.R.Read.remaining files.files.stms.items in
    let targets = held_with g.R.Read.remaining files.files.targets in
    let task = c.args.task.now in
    let input = c.in_ok-input.input in
    files_run (AnswersOwned task.combinations.items task.draws apt stms targets
    (g.R.Read.remaining files.own.0, files.own.1))
    (IsOwnedOver c.in_ok-owner.owner input.instruction input.lists.items task.combinations.items
    (starts_of task.draws input.lists.items)) apt stms targets input.instruction input.lists.items
    (g.W.Write.contents c.args.out.now) _ c.write_owned.result _ c.of_run.ensures c.in_ok-input.ensures.says
    (λ text over. record {
      instruction = input.instruction;
      lists = input.lists.items;
      owner = c.in_ok-owner.owner;
      says = c.in_ok-input.ensures.says;
      own_says = c.in_ok-owner.ensures.ok;
      shape = c.in_ok-owner.ensures.shape;
      is_owned = over;
    }) (λ e is. inl is) c.write_owned.ensures
