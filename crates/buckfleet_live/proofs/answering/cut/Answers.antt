use Rattle.buckfleet_live.proofs.Words.{◌≡◌, rules, arith, inl, inr, AnyPrices}
use Rattle.buck_book_cutter.proofs.Adding.{less_cut}
use Rattle.buckfleet_live.proofs.answering.cut.Goals as goal

pub returns-in-Ok-clause-cut : goal.returns-in-Ok-clause-cut
returns-in-Ok-clause-cut g c =
    let same = c.preview.ensures.same in
    let stem : c.in_ok-plan.plan.stem ≡ c.args.stem = search rules in
    let entry = (rw same at c.in-Ok.ensures.entry) in
    inl (inr (
      omega (arith, rw same at c.in-Ok.ensures.below, c.requires.capacity),
      record {
        entry = _;
        cut = less_cut _ AnyPrices _ _ _ _ _ (λ i ps prices known. tt) (rw (same, stem) at c.in-Ok.ensures.cut);
        text_is = rw entry (rw (stem, c.in_ok-plan.ensures.sheet) at c.in_ok-text.ensures);
      },
    ))

pub returns-in-Ok-clause-given : goal.returns-in-Ok-clause-given
returns-in-Ok-clause-given g c = (rw c.preview.ensures.same at c.commit.ensures.given)
