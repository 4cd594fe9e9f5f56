use Rattle.std.proofs.Common.{map}
use Rattle.buck_apt_instruction.specs.Settings.{with_settings}
use Rattle.buckfleet_trial.specs.Inputs.{held_with}
use Rattle.buckfleet_trial.specs.Trial.{starts_of}
use Rattle.buckfleet_trial_wishes.specs.Wishes.{AnswersWishes, AreWishes}
use Rattle.buckfleet_trial.proofs.Ended.{files_run, not_read}
use Rattle.buckfleet_trial_wishes.proofs.wishes.run_wishes.Goals as goal

pub returns-in_err-input : goal.returns-in_err-input
returns-in_err-input g c =
    let apt = g.R.Read.remaining c.args.files.apt in
    let stms = map g.R.Read.remaining c.args.files.stms.items in
    let targets = held_with g.R.Read.remaining c.args.files.targets in
    let task = c.args.task.now in
    not_read (AnswersWishes task.rule task.settings task.draws apt stms targets) apt stms targets
    (g.W.Write.contents c.args.out.now) _ c.from_residual.result c.from_residual.ensures.1
    c.in_err-input.ensures.refused (λ e is. is)

pub returns : goal.returns
returns g c =
    let apt = g.R.Read.remaining c.args.files.apt in
    let stms = map g.R.Read.remaining c.args.files.stms.items in
    let targets = held_with g.R.Read.remaining c.args.files.targets in
    let task = c.args.task.now in
    let input = c.in_ok-input.input in
    files_run (AnswersWishes task.rule task.settings task.draws apt stms targets)
    (AreWishes task.rule (with_settings task.settings input.instruction) input.lists.items
    (starts_of task.draws input.lists.items)) apt stms targets input.instruction input.lists.items
    (g.W.Write.contents c.args.out.now) _ c.write_one_by_one.result _ c.of_run.ensures c.in_ok-input.ensures.says
    (λ text are. record {
      own = input.instruction;
      lists = input.lists.items;
      says = c.in_ok-input.ensures.says;
      are_wishes = are;
    }) (λ e is. is) c.write_one_by_one.ensures
