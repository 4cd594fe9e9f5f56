use Rattle.std.proofs.Common.{map}
use Rattle.buckfleet_trial.specs.Inputs.{held_with}
use Rattle.buckfleet_trial.specs.Trial.{AnswersTrial, IsTrialOver, starts_of}
use Rattle.buckfleet_trial.proofs.Ended.{files_run, not_read}
use Rattle.buckfleet_trial.proofs.trial.run_trial_in_parts.Goals as goal

pub returns-in_err-input : goal.returns-in_err-input
returns-in_err-input g c =
    let apt = g.R.Read.remaining c.args.files.apt in
    let stms = map g.R.Read.remaining c.args.files.stms.items in
    let targets = held_with g.R.Read.remaining c.args.files.targets in
    not_read (AnswersTrial c.args.task.now.combinations.items c.args.task.now.draws apt stms targets) apt stms targets
    (g.W.Write.contents c.args.out.now) _ c.from_residual.result c.from_residual.ensures.1
    c.in_err-input.ensures.refused (λ e is. is)

pub returns : goal.returns
returns g c =
    let apt = g.R.Read.remaining c.args.files.apt in
    let stms = map g.R.Read.remaining c.args.files.stms.items in
    let targets = held_with g.R.Read.remaining c.args.files.targets in
    let input = c.in_ok-input.input in
    files_run (AnswersTrial c.args.task.now.combinations.items c.args.task.now.draws apt stms targets)
    (IsTrialOver input.instruction input.lists.items c.args.task.now.combinations.items
    (starts_of c.args.task.now.draws input.lists.items)) apt stms targets input.instruction input.lists.items
    (g.W.Write.contents c.args.out.now) _ c.write_trial.result _ c.of_run.ensures c.in_ok-input.ensures.says
    (λ text over. record {
      instruction = input.instruction;
      lists = input.lists.items;
      says = c.in_ok-input.ensures.says;
      is_trial = over;
    }) (λ e is. is) c.write_trial.ensures
