use Rattle.std.proofs.Common.{rules, ◌≡◌, [], ◌∷◌, None, Some, List, length, map, Bor, sym, ap, ◌∙◌, subst}
use Rattle.std.proofs.lemmas.List.{length-map}
use Rattle.buckfleet_engine_files.specs.Written.{WritesText}
use Rattle.buckfleet_tasks.specs.declared.journals.CompareTask.{CompareTask}
use Rattle.buckfleet_proceeds.specs.Serving.{AnswersCompare}
use Rattle.buck_c_calls.proofs.Asking.{one_only}
use Rattle.buck_c_calls.proofs.Ran.{in_terms_ran, ran, unhanded}
use Rattle.buck_c_calls.proofs.ledger.compared.Goals as goal

pub returns-in_err-apt : goal.returns-in_err-apt
returns-in_err-apt c =
    unhanded _ _ c.args.lengths.now c.args.files.now _ c.from_residual.result c.from_residual.ensures.1
    c.in_err-apt.ensures.refused

pub returns : goal.returns
returns c =
    let files = c.in_ok-apt.field-0.more.items in
    let other = c.in_ok-apt.field-0.other in
    let more = map (λ (f : Bor (List _)). Some f.now) files in
    let task : CompareTask = record {
      first = c.in-Some.first;
      second = c.in-Some-settings_of.second;
      apt = c.args.files;
      journals = c.args.files ∷ c.args.files ∷ [];
      threads = None;
    } in
    let one : length c.in_ok-apt.field-0.more.items ≡ 1 = search rules in
    let all : map (λ (f : Bor (List _)). Some f.now) c.as_mut_slice-journals.result.now ≡ Some other.now ∷ more =
    ap (λ (xs : List (Bor (List _))). map (λ (f : Bor (List _)). Some f.now) xs) c.as_mut_slice-journals.ensures.value
    ∙ ap (λ (xs : List (Bor (List _))). map (λ (f : Bor (List _)). Some f.now) (other ∷ xs))
    (sym (one_only files c.index.result.now one c.index.ensures)) in
    ran _ _ c.args.lengths.now c.args.files.now task c.in_ok-apt.field-0.apt.now other.now more
    c.new-text.result.items c.run_compare-outcome.new.out.items c.in_terms.result _ (
      c.in-Some.ensures.some,
      c.in-Some-settings_of.ensures.some,
      length-map files (λ (f : Bor (List _)). Some f.now) ∙ one,
    )
    c.in_ok-apt.ensures.files c.new-text.ensures.items
    (in_terms_ran (AnswersCompare task (Some c.in_ok-apt.field-0.apt.now) (Some other.now ∷ more))
    (Some c.new-text.result.items) (Some c.run_compare-outcome.new.out.items)
    c.run_compare-outcome.result c.in_terms.result c.in_terms.ensures
    (subst (λ xs. WritesText (AnswersCompare task (Some c.in_ok-apt.field-0.apt.now) xs) (Some c.new-text.result.items)
    (Some c.run_compare-outcome.new.out.items) c.run_compare-outcome.result) all c.run_compare-outcome.ensures))
    c.ended.ensures
