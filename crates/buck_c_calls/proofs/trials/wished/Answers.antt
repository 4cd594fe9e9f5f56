use Rattle.std.proofs.Common.{rules, Some, List, map, Bor, subst}
use Rattle.buckfleet_tasks.specs.declared.combination.Combination.{Combination}
use Rattle.buckfleet_terms_files.specs.Telling.{WritesTerms}
use Rattle.buckfleet_trial.specs.Inputs.{held_with}
use Rattle.buckfleet_trial_wishes.specs.Wishes.{AnswersWishes}
use Rattle.buck_c_calls.specs.Asked.{IsCombination}
use Rattle.buck_c_calls.specs.Trials.{wanted_in}
use Rattle.buck_c_calls.proofs.Ran.{opened_as, ran, unasked, unhanded}
use Rattle.buck_c_calls.proofs.trials.wished.Goals as goal

pub returns-in_default : goal.returns-in_default
returns-in_default c =
    let none : (k : Combination) → IsCombination c.args.asked.now.run k → ⊥ = search rules in
    unasked _ _ c.args.lengths.now c.args.files.now (λ k apt other more handed asked. none k asked)

pub returns-in_err-files : goal.returns-in_err-files
returns-in_err-files c =
    unhanded _ _ c.args.lengths.now c.args.files.now _ c.from_residual.result
    c.from_residual.ensures.1 c.in_err-files.ensures.refused

pub returns : goal.returns
returns c =
    let files = c.in_ok-files.files in
    let more = map (λ (f : Bor (List _)). Some f.now) files.more.items in
    let k = c.in-Some.combination in
    let asked : IsCombination c.args.asked.now.run c.in-Some.combination = search rules in
    ran _ _ c.args.lengths.now c.args.files.now k files.apt.now files.other.now more
    c.new-text.result.items c.run_wishes-outcome.new.out.items c.run_wishes-outcome.result _ asked
    c.in_ok-files.ensures.files c.new-text.ensures.items
    (subst (λ d. WritesTerms (AnswersWishes k.rule k.settings d (Some files.apt.now) more
    (wanted_in files.other.now more)) (Some c.new-text.result.items) (Some c.run_wishes-outcome.new.out.items)
    c.run_wishes-outcome.result) c.draws_of.ensures
    (opened_as (λ apt stms targets answer. AnswersWishes k.rule k.settings c.draws_of.result apt stms targets answer)
    c.opened.result.apt files.apt c.opened.result.stms files.more
    (held_with (λ (f : Bor (List _)). Some f.now) c.opened.result.targets) (wanted_in files.other.now more)
    (Some c.new-text.result.items) (Some c.run_wishes-outcome.new.out.items) c.run_wishes-outcome.result
    c.opened.ensures.apt c.opened.ensures.stms c.opened.ensures.targets c.run_wishes-outcome.ensures))
    c.ended.ensures
