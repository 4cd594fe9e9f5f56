use Rattle.std.proofs.Common.{rules, Some, List, map, Bor, subst}
use Rattle.buckfleet_engine_files.specs.Reading.{apt_with}
use Rattle.buckfleet_engine_files.specs.Written.{WritesText}
use Rattle.buckfleet_engine_cross_check.specs.Answers.{AnswersCheckWith}
use Rattle.buck_c_calls.specs.Asked.{IsCrossCheck}
use Rattle.buck_c_calls.proofs.Ran.{in_terms_ran, ran, unhanded}
use Rattle.buck_c_calls.proofs.ledger.checked_with.Goals as goal

pub returns-in_err-apt : goal.returns-in_err-apt
returns-in_err-apt c =
    unhanded _ _ c.args.lengths.now c.args.files.now _ c.from_residual.result c.from_residual.ensures.1
    c.in_err-apt.ensures.refused

pub returns : goal.returns
returns c =
    let by = c.in-Some.by in
    let apt = c.in_ok-apt.field-0.apt.now in
    let journal = c.in_ok-apt.field-0.other.now in
    let more = map (λ (f : Bor (List _)). Some f.now) c.in_ok-apt.field-0.more.items in
    let asked : IsCrossCheck c.args.run.now c.in-Some.by = search rules in
    ran _ _ c.args.lengths.now c.args.files.now by apt journal more
    c.new-text.result.items c.run_check_with-outcome.new.writer.items c.in_terms.result _ asked
    c.in_ok-apt.ensures.files c.new-text.ensures.items
    (in_terms_ran (AnswersCheckWith (apt_with by.settings) by.rule (Some apt) (Some journal) more)
    (Some c.new-text.result.items) (Some c.run_check_with-outcome.new.writer.items)
    c.run_check_with-outcome.result c.in_terms.result c.in_terms.ensures
    (subst (λ (xs : List (Bor (List _))). WritesText (AnswersCheckWith (apt_with by.settings) by.rule (Some apt)
    (Some journal) (map (λ (f : Bor (List _)). Some f.now) xs)) (Some c.new-text.result.items)
    (Some c.run_check_with-outcome.new.writer.items) c.run_check_with-outcome.result)
    c.as_mut_slice-stms.ensures.value c.run_check_with-outcome.ensures.run))
    c.ended.ensures
