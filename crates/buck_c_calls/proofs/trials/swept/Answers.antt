use Rattle.std.proofs.Common.{rules, Some, List, map, Bor, subst}
use Rattle.std.specs.List.{AllZip}
use Rattle.buckfleet_terms_files.specs.Telling.{WritesTerms}
use Rattle.buckfleet_trial.specs.Inputs.{held_with}
use Rattle.buckfleet_trial.specs.Trial.{AnswersTrial}
use Rattle.buck_c_calls.specs.Asked.{IsCombination}
use Rattle.buck_c_calls.specs.Trials.{wanted_in}
use Rattle.buck_c_calls.proofs.Ran.{opened_as, ran, uncombined, unhanded}
use Rattle.buck_c_calls.proofs.trials.swept.Goals as goal

pub returns-in_err-combinations : goal.returns-in_err-combinations
returns-in_err-combinations c =
    uncombined _ c.args.asked.now.runs.now c.args.lengths.now c.args.files.now _ c.from_residual.result
    c.from_residual.ensures.1 c.in_err-combinations.ensures.refused

pub returns-in_err-files : goal.returns-in_err-files
returns-in_err-files c =
    unhanded _ _ c.args.lengths.now c.args.files.now _ c.from_residual-in_err-files.result
    c.from_residual-in_err-files.ensures.1 c.in_err-files.ensures.refused

pub returns : goal.returns
returns c =
    let files = c.in_ok-files.files in
    let more = map (λ (f : Bor (List _)). Some f.now) files.more.items in
    let k = c.in_ok-combinations.combinations.items in
    let asked : AllZip IsCombination c.args.asked.now.runs.now k = search rules in
    ran _ _ c.args.lengths.now c.args.files.now k files.apt.now files.other.now more
    c.new-text.result.items c.run_trial-outcome.new.out.items c.run_trial-outcome.result _ asked
    c.in_ok-files.ensures.files c.new-text.ensures.items
    (subst (λ d. WritesTerms (AnswersTrial k d (Some files.apt.now) more
    (wanted_in files.other.now more)) (Some c.new-text.result.items) (Some c.run_trial-outcome.new.out.items)
    c.run_trial-outcome.result) c.draws_of.ensures
    (opened_as (λ apt stms targets answer. AnswersTrial k c.draws_of.result apt stms targets answer)
    c.opened.result.apt files.apt c.opened.result.stms files.more
    (held_with (λ (f : Bor (List _)). Some f.now) c.opened.result.targets) (wanted_in files.other.now more)
    (Some c.new-text.result.items) (Some c.run_trial-outcome.new.out.items) c.run_trial-outcome.result
    c.opened.ensures.apt c.opened.ensures.stms c.opened.ensures.targets c.run_trial-outcome.ensures))
    c.ended.ensures
