use Rattle.std.proofs.Common.{rules, ◌≡◌, ◌-◌, [], ap, sym, ◌∙◌, arith}
use Rattle.std.proofs.lemmas.List.Sums.{sum_by-le}
use Rattle.std.proofs.lemmas.Result.{err_from_is_err_and}
use Rattle.buck_book_postings.specs.History.{HistoryParts}
use Rattle.buck_book_postings.proofs.Given.{none_given}
use Rattle.buck_fleet_round_robin.proofs.Rounds.{all_cut, left_with, nothing_cut, passed, round_done, size, taken}
use Rattle.buck_fleet_round_robin.proofs.turns.cut_in_turn.Goals as goal

pub loop-round-init : goal.loop-round-init
loop-round-init g c =
    let none : c.in_ok-cutter.cutter.history.postings ≡ [] =
    ap (λ (h : HistoryParts). h.postings) c.in_ok-cutter.ensures.history in
    record {
      book = record {
        rule = search rules;
        instruction = search rules;
        capacity = search rules;
        given = none_given g.F.Fn _ _ none;
      };
      cut = rw none (nothing_cut c.args.lists.now);
    }

pub loop-place-preserved-then-round-len : goal.loop-place-preserved-then-round-len
loop-place-preserved-then-round-len g c = record {
  book = c.loop-place.invariant.book;
  cut = passed c.loop-round.round c.loop-place.place c.args.lists.now _ c.index-lists-place.result
      c.loop-place-test.true c.index-lists-place.is (search rules) c.loop-place.invariant.cut;
}

pub loop-place-preserved : goal.loop-place-preserved
loop-place-preserved g c = record {
  book = record {
    rule = search rules;
    instruction = search rules;
    capacity = search rules;
    given = c.cut.ensures.given c.loop-place.invariant.book.given;
  };
  cut = taken c.loop-round.round c.loop-place.place c.args.lists.now c.index-lists-place.result c.index.result.now
      c.in_ok-cut.ensures.cut (search rules) c.loop-place-test.true c.index-lists-place.is (search rules)
      (search rules) c.loop-place.invariant.cut;
}

pub returns-in_err-cut-clause-full : goal.returns-in_err-cut-clause-full
returns-in_err-cut-clause-full g c =
    let stop = err_from_is_err_and c.from_residual-in_err-cut.result c.from_residual-in_err-cut.ensures.1 in
    let so_far = c.loop-place.invariant in
    let left = left_with c.loop-round.round c.loop-place.place c.args.lists.now c.index-lists-place.result
    c.loop-place-test.true c.index-lists-place.is in
    rw stop.1 (λ e.
    let full = c.in_err-cut.ensures.full (sym stop.2 ∙ e) in
    omega (arith, full, so_far.book.capacity, so_far.cut.left, left, c.if-round-len.false))

pub loop-round-preserved : goal.loop-round-preserved
loop-round-preserved g c = record {
  book = c.loop-place.invariant.book;
  cut = round_done c.loop-round.round _ c.args.lists.now _ (search rules) c.loop-place.invariant.cut;
}

pub returns-clause-cut : goal.returns-clause-cut
returns-clause-cut g c =
    rw c.into_book.ensures
    (all_cut c.loop-round.round c.args.lists.now c.loop-round.cutter.history (search rules)
    c.loop-round.invariant.cut)

pub returns-clause-number : goal.returns-clause-number
returns-clause-number g c =
    let none = sum_by-le (λ list. size list - c.loop-round.round) 0 c.args.lists.now
    (λ k d lt. omega (arith, c.longest-round-end.ensures k d lt)) in
    rw c.into_book.ensures (omega (arith, c.loop-round.invariant.cut.left, none))
