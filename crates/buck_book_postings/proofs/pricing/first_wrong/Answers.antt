use Rattle.buck_book_postings.proofs.Words.{◌≡◌, ◌+◌, ◌∙◌, refl, sym, ap, arith, length, sum_by, take_all, classes, classes_of, Meets}
use Rattle.buck_book_postings.proofs.Ends.{true_false}
use Rattle.buck_book_postings.proofs.Standings.{before_next, section_below, one_more_below}
use Rattle.buck_book_postings.proofs.pricing.first_wrong.Goals as goal

pub returns-then-not-meets-clause-found : goal.returns-then-not-meets-clause-found
returns-then-not-meets-clause-found c = record {
  within = section_below _ c.args.running.now _ _ c.section-section.ensures.section (omega arith);
  standing = c.standing-standing.result;
  stands = c.standing-standing.ensures;
  wrong = λ m. true_false (sym (c.if-not-meets.ensures.1 (rw c.from.ensures m)));
  least = c.loop-inner.invariant;
}

pub loop-inner-preserved : goal.loop-inner-preserved
loop-inner-preserved c =
    one_more_below Meets _ _ _ _ _ c.standing-standing.ensures (rw c.from.ensures at (c.if-not-meets.ensures.0 refl))
    c.loop-inner.invariant

pub loop-inner-init : goal.loop-inner-init
loop-inner-init c =
    let before = rw c.section-section.ensures.at at c.section-section.ensures.section.before_is in
    let here : c.loop-at.before ≡ c.section-section.result.before + 0 = omega arith in
    rw here at c.loop-at.invariant.met

pub loop-at-preserved : goal.loop-at-preserved
loop-at-preserved c =
    let section = c.section-section.result in
    let is = c.section-section.ensures.section in
    let before = rw c.section-section.ensures.at at is.before_is in
    let next = rw c.section-section.ensures.at at
    (before_next c.args.instruction.now section.assortment.now section.at is.exists) in
    let here : c.section-section.result.before + c.loop-inner.inner ≡ c.loop-at.before + c.classes-before.result =
    omega arith in
    record { before = omega arith; met = rw here at c.loop-inner.invariant }

pub returns-clause-none : goal.returns-clause-none
returns-clause-none c =
    let past = take_all c.loop-at.at c.args.instruction.now.assortments
    (omega (arith, ap length c.assortments-at-end.ensures.items)) in
    let all : c.loop-at.before ≡ classes c.args.instruction.now =
    c.loop-at.invariant.before ∙ ap (λ xs. sum_by classes_of xs) past in
    rw all at c.loop-at.invariant.met

pub bounds-prices-place : goal.bounds-prices-place
bounds-prices-place c =
    rw c.requires.one_each (section_below _ c.args.running.now _ _ c.section-section.ensures.section (omega arith))
