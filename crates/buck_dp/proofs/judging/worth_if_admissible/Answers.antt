use Rattle.buck_dp.proofs.Words.{◌≡◌, ◌+◌, ◌∷◌, drop, get_or, drop-cons, add-one, sym, arith, rules, sum_by_more, Log, worth_of, worth_low}
use Rattle.buck_dp.proofs.judging.worth_if_admissible.Goals as goal

pub loop-log-preserved : goal.loop-log-preserved
loop-log-preserved c =
    let logs = c.as_slice-log-items.result.now in
    let i = c.loop-log.log-index in
    let log : Log = get_or logs i (record { start = 0; length = 0; assortment = 0 }) in
    let here : drop i logs ≡ log ∷ drop (i + 1) logs = rw add-one (drop-cons logs i _ c.loop-log-test.true) in
    let was = rw here at c.loop-log.invariant.cut in
    record {
      cut = rw c.end_of-from.ensures.value (
        (λ all. (was.0 all).2),
        (λ rest. was.1 (omega (arith, c.if-log-from.false), c.in_ok-worth.ensures.allowed, rest)),
      );
      total = rw (c.loop-log.invariant.total, c.in_ok-worth.ensures.worth)
          (sym (sum_by_more (worth_of c.args.sheet.now c.args.stem.now) logs i _ c.loop-log-test.true));
      few = search (rules, worth_low);
    }
