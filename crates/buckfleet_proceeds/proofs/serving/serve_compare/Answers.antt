use Rattle.std.proofs.Common.{◌≡◌, length, map, arith, rules, Ok, subst}
use Rattle.std.proofs.lemmas.List.{length-map}
use Rattle.buckfleet_engine_files.specs.Written.{WritesText}
use Rattle.buckfleet_engine_files.proofs.OpenLemmas.{as_many}
use Rattle.buckfleet_proceeds.specs.Serving.{AnswersCompare}
use Rattle.buckfleet_proceeds.proofs.serving.serve_compare.Goals as goal

pub run_compare-requires-clause-two : goal.run_compare-requires-clause-two
run_compare-requires-clause-two g c =
    let many = as_many g.O.Open.opens _ _ _ _ c.in_ok-apt.ensures.others in
    let named = length-map c.args.task.now.journals (λ s. s.now) in
    let two : length c.args.task.now.journals ≡ 2 = search rules in
    omega (arith, many, named, two, c.as_mut_slice.ensures.len)

pub returns : goal.returns
returns g c =
    let held = g.O.File.Read.remaining in
    let written = g.W.Write.contents in
    record {
      opened = Ok (c.in_ok-apt.apt, c.in_ok-apt.journals.items);
      answers = c.in_ok-apt.ensures;
      runs = subst (λ (l : _). WritesText (AnswersCompare c.args.task.now (held c.in_ok-apt.apt) (map held l))
          (written c.args.out.now) (written c.run_compare.new.out) c.run_compare.result)
          c.as_mut_slice.ensures.value c.run_compare.ensures;
    }
