use Rattle.std.proofs.Common.{rules, Some, List, map, Bor}
use Rattle.buckfleet_tasks.specs.declared.combination.Combination.{Combination}
use Rattle.buckfleet_trial.specs.Inputs.{held_with}
use Rattle.buckfleet_trial_tune.specs.Tune.{AnswersTune}
use Rattle.buck_c_calls.specs.Asked.{IsCombination}
use Rattle.buck_c_calls.specs.Trials.{wanted_in}
use Rattle.buck_c_calls.proofs.Ran.{opened_as, ran, unasked, unhanded}
use Rattle.buck_c_calls.proofs.trials.tuned.Goals as goal

pub returns-in_default : goal.returns-in_default
returns-in_default c =
    let none : (k : Combination) → IsCombination c.args.run.now k → ⊥ = search rules in
    unasked _ _ c.args.lengths.now c.args.files.now (λ k apt other more handed asked. none k asked)

pub returns-in_err-files : goal.returns-in_err-files
returns-in_err-files c =
    unhanded _ _ c.args.lengths.now c.args.files.now _ c.from_residual.result
    c.from_residual.ensures.1 c.in_err-files.ensures.refused

pub returns : goal.returns
returns c =
    let files = c.in_ok-files.files in
    let more = map (λ (f : Bor (List _)). Some f.now) files.more.items in
    let k = c.in-Some.combination in
    let asked : IsCombination c.args.run.now c.in-Some.combination = search rules in
    ran _ _ c.args.lengths.now c.args.files.now k files.apt.now files.other.now more
    c.new-text.result.items c.run_tune-outcome.new.out.items c.run_tune-outcome.result _ asked
    c.in_ok-files.ensures.files c.new-text.ensures.items
    (opened_as (λ apt stms targets answer. AnswersTune k.rule k.settings apt stms targets answer)
    c.opened.result.apt files.apt c.opened.result.stms files.more
    (held_with (λ (f : Bor (List _)). Some f.now) c.opened.result.targets) (wanted_in files.other.now more)
    (Some c.new-text.result.items) (Some c.run_tune-outcome.new.out.items) c.run_tune-outcome.result
    c.opened.ensures.apt c.opened.ensures.stms c.opened.ensures.targets c.run_tune-outcome.ensures)
    c.ended.ensures
