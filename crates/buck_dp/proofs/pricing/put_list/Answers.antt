use Rattle.std.proofs.Common.{true≢false}
use Rattle.buck_dp.proofs.Words.{arith, sym}
use Rattle.buck_dp.proofs.CandidateLemmas.{pruned_on, pruned_past, list_right}
use Rattle.buck_dp.proofs.pricing.put_list.Goals.{then-term-eq1+in_ok-put_candidate, else-term-eq1+in_ok-put_candidate-2}
use Rattle.buck_dp.proofs.pricing.put_list.Goals as goal

pub loop-term-preserved : goal.loop-term-preserved
loop-term-preserved c =
    let was = c.loop-term.invariant in
    let taker = rw c.from.ensures at (c.contains.ensures.0 c.if-not-contains.false) in
    elim c.if-term-eq1.branch [
      | then-term-eq1+in_ok-put_candidate w ↦
          let done = w.in_ok-put_candidate.ensures in
          rw (w.candidates-is, w.cubic-is, w.piece-is) (record {
            pruned = pruned_on _ c.loop-term-test.true was.pruned taker done.next;
            cubic = done.leads;
            piece = λ x led. done.next.met x (was.piece x led);
          })
      | else-term-eq1+in_ok-put_candidate-2 w ↦
          let done = w.in_ok-put_candidate-2.ensures in
          rw (w.candidates-is, w.cubic-is, w.piece-is) (record {
            pruned = pruned_on _ c.loop-term-test.true was.pruned taker done.next;
            cubic = λ x led. done.next.met x (was.cubic x led);
            piece = done.leads;
          })
    ]

pub loop-term-preserved-then-not-contains : goal.loop-term-preserved-then-not-contains
loop-term-preserved-then-not-contains c =
    let was = c.loop-term.invariant in
    record {
      pruned = pruned_past _ c.loop-term-test.true was.pruned
          (λ taker. true≢false (sym (c.if-not-contains.ensures.1 (rw c.from.ensures taker))));
      cubic = was.cubic;
      piece = was.piece;
    }

pub returns : goal.returns
returns c types are =
    list_right c.requires.valid are (rw c.prices-prices.ensures.prices at c.loop-term.invariant.pruned)
    (omega (arith, c.loop-term-test.false))
