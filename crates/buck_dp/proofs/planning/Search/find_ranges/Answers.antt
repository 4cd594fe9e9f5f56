use Rattle.buck_dp.proofs.Words.{IsRangeTo, IsMaskBetween, ◌-◌, ◌+◌, ◌<◌, ◌≤◌, arith, rules, cases_lt, ◌≡◌, inl, inr, subst, points_of}
use Rattle.buck_dp.proofs.GridLemmas.{none_found, one_found, empty_found, far_found}
use Rattle.buck_dp.proofs.planning.Search.find_ranges.Goals.{In_ok-next}
use Rattle.buck_dp.proofs.planning.Search.find_ranges.Goals as goal

-- the next range ends where the last one begins, and no grade is forgotten
next : (g : _) (c : In_ok-next g)
    → IsRangeTo g.p (c.args.past - 1) c.loop-range.range.first c.in_ok-next.next
    × IsMaskBetween c.args.grid.profile.now c.in_ok-next.next.first (c.args.past - 1) c.grades_from-grades.result
next g c =
    let l = c.loop-range.invariant in
    let within : c.args.past - 1 < points_of g.p = omega (arith, c.requires.0.search.within) in
    let e : c.loop-range.range.first ≡ c.loop-range.range.first - 1 + 1 = omega (arith, c.loop-range-test.true) in
    let from : c.loop-range.range.first ≤ c.args.past - 1 =
    omega (arith, l.found.2.first, l.found.1.within, c.in_ok-range.ensures.first) in
    c.in_ok-next.ensures.range (c.args.past - 1) from within
    (c.grades_from-grades.ensures (c.args.past - 1) (omega (arith, e)) (rw c.requires.0.grid.profile within)
    (subst (λ n. IsMaskBetween c.args.grid.profile.now n (c.args.past - 1) c.loop-range.grades) e l.mask))

pub loop-range-init : goal.loop-range-init
loop-range-init g c =
    let within : c.args.past - 1 < points_of g.p = omega (arith, c.requires.0.search.within) in
    let got = c.in_ok-range.ensures.range (c.args.past - 1) (omega arith) within c.grades-grades.ensures in
    record {
      cache = c.in_ok-range.ensures.cache;
      found = (
        c.in_ok-range.range.first + 1,
        rw c.clear.ensures.items (none_found c.requires.0.grid c.in_ok-range.ensures.even),
        record { first = omega arith; takers = λ i low high. got.0.takers i low (omega (arith, high, got.0.first)) },
      );
      mask = got.1;
    }

pub returns-then-is_empty-clause-ranges : goal.returns-then-is_empty-clause-ranges
returns-then-is_empty-clause-ranges g c =
    let l = c.loop-range.invariant in
    empty_found c.requires.0.grid c.in_ok-range.ensures.even l.found.1 l.found.2
    (c.is_empty.ensures c.if-is_empty.true)

pub loop-range-preserved-then-eq : goal.loop-range-preserved-then-eq
loop-range-preserved-then-eq g c =
    let l = c.loop-range.invariant.found in
    let got = next g (goal.at.loop-range-preserved-then-eq g c).In_ok-next in
    let same : c.in_ok-next.next.set.takers.marks ≡ c.loop-range.range.set.takers.marks =
    search (rules, c.if-eq.ensures) in
    let on : IsRangeTo g.p (c.args.past - 1) l.0 (record c.loop-range.range { first = c.in_ok-next.next.first }) =
    record {
      first = omega (arith, got.0.first, l.2.first);
      takers = λ i low high. elim (cases_lt i c.loop-range.range.first) [
        | inr after ↦ l.2.takers i after high
        | inl before ↦ rw same at (got.0.takers i low before)
      ];
    } in
    record { cache = c.in_ok-next.ensures.cache; found = (l.0, l.1, on); mask = got.1 }

pub loop-range-preserved : goal.loop-range-preserved
loop-range-preserved g c =
    let l = c.loop-range.invariant.found in
    let got = next g (goal.at.loop-range-preserved g c).In_ok-next in
    let more = one_found c.requires.0.grid c.in_ok-range.ensures.even l.1 l.2 in
    record {
      cache = c.in_ok-next.ensures.cache;
      found = (_, rw c.in_ok-push.ensures.items more, got.0);
      mask = got.1;
    }

pub returns-clause-ranges : goal.returns-clause-ranges
returns-clause-ranges g c =
    let l = c.loop-range.invariant.found in
    let even = c.in_ok-range.ensures.even in
    let low = rw (c.types.ensures, c.in_ok-range.ensures.cache.1) at c.saturating_sub-low.ensures in
    rw c.in_ok-push-2.ensures.items (far_found c.requires.0.grid even (one_found c.requires.0.grid even l.1 l.2)
    (omega (arith, low, c.loop-range-test.false)))
