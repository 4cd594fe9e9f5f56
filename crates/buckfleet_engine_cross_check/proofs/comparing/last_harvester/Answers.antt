use Rattle.std.proofs.Common.{◌≡◌, get_or, inl, inr, sym, ap, ◌∙◌, arith}
use Rattle.std.proofs.lemmas.Bool.{cases_lt}
use Rattle.std.proofs.lemmas.List.{get_or_read}
use Rattle.buck_book_postings.specs.Posting.{harvester_of}
use Rattle.buckfleet_engine_cross_check.proofs.comparing.last_harvester.Goals as goal

pub loop-posting-preserved : goal.loop-posting-preserved
loop-posting-preserved c = record {
  all = λ k d lt. elim (cases_lt k c.loop-posting.posting-index) [
    | inl old ↦ omega (arith, c.loop-posting.invariant.all k d old, c.max-last.ensures)
    | inr new ↦
        let same : k ≡ c.loop-posting.posting-index = omega (arith, lt, new) in
        let item =
        get_or_read c.args.postings.now c.loop-posting.posting-index c.posting-item.result c.loop-posting-test.true
        c.posting-item.is d in
        let here : harvester_of (get_or c.args.postings.now k d) ≡ c.harvester.result =
        ap (λ n. harvester_of (get_or c.args.postings.now n d)) same ∙ ap harvester_of (sym item)
        ∙ sym c.harvester.ensures in
        omega (arith, here, c.max-last.ensures)
  ];
  least = omega (arith, c.loop-posting.invariant.least, c.max-last.ensures);
}

pub returns-clause-all : goal.returns-clause-all
returns-clause-all c = λ k d lt. c.loop-posting.invariant.all k d (omega (arith, lt, c.loop-posting-test.false))
