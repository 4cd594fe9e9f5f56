use Rattle.std.proofs.Common.{◌≡◌, ℕ, List, map, subst, arith, rules, Bor}
use Rattle.std.proofs.lemmas.List.{length-map}
use Rattle.buckfleet_engine_files.proofs.OpenLemmas.{as_many}
use Rattle.buckfleet_proceeds.specs.Serving.{AnswersFiles}
use Rattle.buckfleet_proceeds.proofs.Stopped.{stops_before}
use Rattle.buckfleet_proceeds.proofs.serving.open_files.Goals as goal

pub invariant_of-result : goal.invariant_of-result
invariant_of-result g c =
    let many = as_many g.O.Open.opens _ _ _ _ c.in_ok-apt.ensures.others in
    let named = length-map c.as_slice-names.result.now (λ s. s.now) in
    let number = c.args.task.now.number in
    record {
      number = (
        omega (arith, many, named, number, c.as_slice-names.ensures.len),
        omega (arith, many, named, number, c.as_slice-names.ensures.len),
      );
    }

pub returns-in_err-own : goal.returns-in_err-own
returns-in_err-own g c =
    let opens = g.O.Open.opens in
    let task = c.args.task.now in
    let names = c.as_slice-names.result.now in
    let same : names ≡ task.journals.items = search rules in
    let named = length-map names (λ s. s.now) in
    subst (λ (l : List (Bor (List ℕ))). AnswersFiles opens c.args.opener.now c.open_last.new.opener task.apt.now
    (map (λ s. s.now) l) task.own.now c.from_residual-in_err-own.result) same
    (stops_before opens _ _ _ _ _ task.own.now _ _ _ c.from_residual-in_err-own.result
    c.from_residual-in_err-own.ensures.1 c.in_ok-apt.ensures
    (omega (arith, named, task.number, c.as_slice-names.ensures.len)) c.in_err-own.ensures)
