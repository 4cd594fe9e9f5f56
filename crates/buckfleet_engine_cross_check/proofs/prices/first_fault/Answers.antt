use Rattle.std.proofs.Common.{sym, ap, subst}
use Rattle.buck_apt_instruction.specs.Instruction.{InstructionParts}
use Rattle.buck_book_postings.specs.History.{HistoryParts}
use Rattle.buck_book_postings.specs.Walk.{IsCountable, WalkParts}
use Rattle.buckfleet_engine_files.specs.Ruled.{ArePricesAt}
use Rattle.buckfleet_engine_cross_check.specs.Ties.{IsPriceFaultAt}
use Rattle.buckfleet_engine_cross_check.proofs.PriceLemmas.{history_there, next_countable, next_within, passed_all, passed_more, same_more}
use Rattle.buckfleet_engine_cross_check.proofs.prices.first_fault.Goals as goal

pub returns-in-Some-clause-found : goal.returns-in-Some-clause-found
returns-in-Some-clause-found g c = λ named gives.
    let w = c.loop-walk.walk in
    let inv = c.loop-walk.invariant in
    record {
      at = w.at;
      within = inv.within;
      before = inv.before named gives;
      there = subst (λ (h : HistoryParts). IsPriceFaultAt named h w.at c.in-Some.fault)
          (history_there c.args.instruction.now.value c.args.journal.now w inv.same)
          ((rw c.in-Some.is at c.in_ok-fault.ensures.found) named gives);
    }

pub returns-in_default-clause-none : goal.returns-in_default-clause-none
returns-in_default-clause-none g c = λ named gives.
    let i = c.args.instruction.now.value in
    let j = c.args.journal.now in
    let w = c.loop-walk.walk in
    let inv = c.loop-walk.invariant in
    passed_all i j w inv.same named (inv.before named gives)
    (subst (λ (h : HistoryParts). ArePricesAt named h w.at) (history_there i j w inv.same)
    ((rw c.in-None.is at c.in_ok-fault.ensures.none) named gives)) c.in_default.ensures.next

pub pass-requires-clause-countable : goal.pass-requires-clause-countable
pass-requires-clause-countable g c =
    let inv = c.loop-walk.invariant in
    subst (λ (k : InstructionParts). IsCountable k c.in-Some-next.posting.now)
    (sym (ap (λ (v : WalkParts). v.instruction) inv.same))
    (next_countable c.args.instruction.now.value c.args.journal.now c.loop-walk.walk inv.same
    c.in-Some-next.posting.now c.requires.lawful c.in-Some-next.ensures.next)

pub loop-walk-preserved : goal.loop-walk-preserved
loop-walk-preserved g c =
    let i = c.args.instruction.now.value in
    let j = c.args.journal.now in
    let w = c.loop-walk.walk in
    let v = c.in_ok-walk-2.walk in
    let inv = c.loop-walk.invariant in
    let next = c.in_ok-walk-2.ensures in
    record {
      same = same_more i j w inv.same v next;
      within = next_within i j w inv.same v next c.in-Some-next.posting.now c.in-Some-next.ensures.next;
      before = λ named gives.
          passed_more i j w inv.same named v next (inv.before named gives)
          (subst (λ (h : HistoryParts). ArePricesAt named h w.at) (history_there i j w inv.same)
          ((rw c.in-None.is at c.in_ok-fault.ensures.none) named gives));
    }
