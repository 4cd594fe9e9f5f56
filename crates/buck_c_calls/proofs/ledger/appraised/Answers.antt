use Rattle.std.proofs.Common.{◌≡◌, ◌+◌, Some, List, length, map, Bor, subst, arith}
use Rattle.std.proofs.lemmas.List.{length-map}
use Rattle.buckfleet_terms_files.specs.Telling.{WritesTerms}
use Rattle.buckfleet_proceeds.specs.Serving.{AnswersAppraise}
use Rattle.buck_c_calls.proofs.Ran.{ran, unhanded}
use Rattle.buck_c_calls.proofs.ledger.appraised.Goals as goal

pub returns-in_err-apt : goal.returns-in_err-apt
returns-in_err-apt c =
    unhanded _ _ c.args.lengths.now c.args.files.now _ c.from_residual.result c.from_residual.ensures.1
    c.in_err-apt.ensures.refused

pub returns : goal.returns
returns c =
    let files = c.in_ok-apt.field-0.more.items in
    let more = map (λ (f : Bor (List _)). Some f.now) files in
    let number = length-map files (λ (f : Bor (List _)). Some f.now) in
    let settings = c.in-Some.settings in
    let behind : c.len-number.result + 1 ≡ length more + 1 = omega (arith, c.len-number.ensures, number) in
    ran _ _ c.args.lengths.now c.args.files.now settings c.in_ok-apt.field-0.apt.now c.in_ok-apt.field-0.other.now more
    c.new-text.result.items c.run_appraise-outcome.new.out.items c.run_appraise-outcome.result _ (
      c.in-Some.ensures.some,
      omega (arith, c.if-number-eq0.false, c.len-number.ensures, number),
      omega (arith, c.if-number-gt64.false, c.len-number.ensures, number),
    )
    c.in_ok-apt.ensures.files c.new-text.ensures.items
    (subst (λ n. WritesTerms
    (AnswersAppraise settings (Some c.in_ok-apt.field-0.apt.now) more (Some c.in_ok-apt.field-0.other.now, n))
    (Some c.new-text.result.items) (Some c.run_appraise-outcome.new.out.items) c.run_appraise-outcome.result) behind
    c.run_appraise-outcome.ensures)
    c.ended.ensures
