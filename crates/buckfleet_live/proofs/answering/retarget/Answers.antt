use Rattle.buckfleet_live.proofs.Words.{◌≡◌, rules, arith, inl, inr, AnyPrices}
use Rattle.buck_book_cutter.proofs.Adding.{less_retargeted}
use Rattle.buckfleet_live.proofs.answering.retarget.Goals as goal

pub returns-in-Ok-clause-taken : goal.returns-in-Ok-clause-taken
returns-in-Ok-clause-taken g c =
    let targets : c.in_ok-targets.targets.value.items ≡ c.args.targets = search rules in
    let taken = less_retargeted _ AnyPrices _ _ _ _ _ (λ i ps prices known. tt) (rw targets at c.in-Ok.ensures.retargeted) in
    inl (inr (
      omega (arith, c.in-Ok.ensures.below, c.requires.capacity),
      inl (record {
        demand = _;
        taken = taken;
        text_is = rw taken.demand_is ((rw c.book.ensures at c.in_ok-text.ensures) c.args.targets);
      }),
    ))
