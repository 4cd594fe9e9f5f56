use Rattle.std.proofs.Common.{◌≡◌, List, subst, rules}
use Rattle.buck_value.specs.declared.log.Log.{Log}
use Rattle.buck_value.specs.Sheet.{SheetParts}
use Rattle.buck_page_figures.specs.inner.Counted.{AreCountsOn}
use Rattle.buck_page_figures.specs.inner.Adding.{logs_of, logs_in_some}
use Rattle.buck_page_figures.proofs.TallyLemmas.{tally_more}
use Rattle.buck_page_figures.proofs.tally.add_posting.Goals as goal

pub returns-clause-added : goal.returns-clause-added
returns-clause-added c = λ ps us number tally.
    let x = c.args.posting.now in
    let before = c.args.tally.now in
    let logs = logs_in_some c.in_ok-sums.unsteered in
    let shown : c.deref.result.now ≡ c.args.planner.now = search rules in
    let shown' : c.deref-2.result.now ≡ c.args.planner.now = search rules in
    let counts : AreCountsOn c.args.planner.now.instruction x (logs_of x)
    before.counts.items c.count_posting.new.counts.items =
    subst (λ (s : SheetParts). AreCountsOn s.instruction x (logs_of x)
    before.counts.items c.count_posting.new.counts.items) shown
    (subst (λ
    (l : List Log). AreCountsOn c.deref.result.now.instruction x l before.counts.items
    c.count_posting.new.counts.items) c.logs_of.ensures c.count_posting.ensures) in
    let unsteered : AreCountsOn c.args.planner.now.instruction x logs before.unsteered.items
    c.count_posting-2.new.counts.items =
    subst (λ (s : SheetParts). AreCountsOn s.instruction x logs before.unsteered.items
    c.count_posting-2.new.counts.items) shown'
    (subst (λ
    (l : List Log). AreCountsOn c.deref-2.result.now.instruction x l before.unsteered.items
    c.count_posting-2.new.counts.items) c.logs_in.ensures c.count_posting-2.ensures) in
    tally_more c.args.planner.now.instruction ps us x c.args.at c.harvester.result c.in_ok-sums.sums logs
    c.cut_place-cut.result
    before (record {
      total = c.plus-tally.result;
      owns = c.add_own.new.owns;
      counts =
          c.count_posting.new.counts;
      unsteered = c.count_posting-2.new.counts;
    })
    number c.cut_place-cut.ensures c.harvester.ensures tally c.in_ok-sums.ensures.passed c.plus-tally.ensures
    c.in_ok-add_own.ensures.own c.in_ok-add_own.ensures.others counts unsteered
