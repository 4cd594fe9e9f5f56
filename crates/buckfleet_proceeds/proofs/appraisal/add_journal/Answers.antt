use Rattle.std.proofs.Common.{◌≡◌, ◌<◌, ◌++◌, [], ◌∷◌, take, length, get_or, sym, ap, subst, ◌∙◌, arith, rules}
use Rattle.std.proofs.lemmas.List.{take_all}
use Rattle.buck_value.specs.Sheet.{SheetParts}
use Rattle.buck_page_figures.proofs.GradeLemmas.{posting_next}
use Rattle.buckfleet_proceeds.specs.inner.Passed.{ArePassed, HasRoom, IsPassable}
use Rattle.buckfleet_proceeds.proofs.Passed.{room_next}
use Rattle.buckfleet_proceeds.proofs.appraisal.add_journal.Goals as goal

pub add_posting-requires-clause-passable : goal.add_posting-requires-clause-passable
add_posting-requires-clause-passable c =
    let entries = c.args.journal.now.entries in
    let k = c.loop-posting.posting-index in
    let x = c.posting-item.result in
    let items : c.as_slice-posting-items.result.now ≡ entries = search rules in
    let lt : k < length entries = omega (arith, c.loop-posting-test.true, ap length items) in
    let is : x ≡ get_or entries k x = c.posting-item.is ∙ ap (λ l. get_or l k x) items in
    subst (λ (s : SheetParts). IsPassable s.instruction x) (sym c.loop-posting.invariant.same)
    (subst (IsPassable c.args.planner.now.instruction) (sym is) (c.requires.passable k x lt))

pub add_posting-requires-clause-room : goal.add_posting-requires-clause-room
add_posting-requires-clause-room c =
    let entries = c.args.journal.now.entries in
    let items : c.as_slice-posting-items.result.now ≡ entries = search rules in
    let lt : c.loop-posting.posting-index < length entries = omega (arith, c.loop-posting-test.true, ap length items) in
    subst (λ (s : SheetParts). HasRoom s.instruction (c.posting-item.result ∷ []) c.loop-posting.appraisal)
    (sym c.loop-posting.invariant.same)
    (room_next c.args.planner.now.instruction entries c.loop-posting.posting-index c.posting-item.result
    c.args.appraisal.now c.loop-posting.appraisal (omega (arith, lt)) c.requires.room c.loop-posting.invariant.passed)

pub loop-posting-preserved : goal.loop-posting-preserved
loop-posting-preserved c =
    let entries = c.args.journal.now.entries in
    let k = c.loop-posting.posting-index in
    let x = c.posting-item.result in
    let items : c.as_slice-posting-items.result.now ≡ entries = search rules in
    let lt : k < length entries = omega (arith, c.loop-posting-test.true, ap length items) in
    let is : x ≡ get_or entries k x = c.posting-item.is ∙ ap (λ l. get_or l k x) items in
    record {
      same = c.in_ok-add_posting.ensures.same ∙ c.loop-posting.invariant.same;
      passed = λ ps passed.
          subst (λ l. ArePassed c.args.planner.now.instruction l c.add_posting.new.appraisal)
          (posting_next ps entries k x lt is)
          (subst (λ (s : SheetParts). ArePassed s.instruction (ps ++ take k entries) c.loop-posting.appraisal
          → ArePassed s.instruction ((ps ++ take k entries) ++ x ∷ []) c.add_posting.new.appraisal)
          c.loop-posting.invariant.same
          (c.in_ok-add_posting.ensures.passed (ps ++ take k entries))
          (c.loop-posting.invariant.passed ps passed));
    }

pub returns-clause-passed : goal.returns-clause-passed
returns-clause-passed c = λ ps passed.
    let entries = c.args.journal.now.entries in
    let items : c.as_slice-posting-items.result.now ≡ entries = search rules in
    let all : take c.loop-posting.posting-index entries ≡ entries =
    take_all c.loop-posting.posting-index entries (omega (arith, c.loop-posting-test.false, ap length items)) in
    subst (λ l. ArePassed c.args.planner.now.instruction (ps ++ l) c.loop-posting.appraisal) all
    (c.loop-posting.invariant.passed ps passed)
