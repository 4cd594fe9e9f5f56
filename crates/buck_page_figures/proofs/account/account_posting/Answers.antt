use Rattle.std.proofs.Common.{◌≡◌, ◌+◌, ◌*◌, List, [], ◌∷◌, ◌++◌, length, subst, arith, rules}
use Rattle.buck_value.specs.declared.log.Log.{Log}
use Rattle.buck_value.specs.Sheet.{SheetParts}
use Rattle.buck_page_figures.specs.inner.Adding.{logs_of, logs_in_some}
use Rattle.buck_page_figures.specs.inner.Assorted.{ArePartsOn}
use Rattle.buck_page_figures.specs.inner.Greatest.{IsGreatest}
use Rattle.buck_page_figures.proofs.TallyLemmas.{below_total, below_owns}
use Rattle.buck_page_figures.proofs.AccountLemmas.{account_more}
use Rattle.buck_page_figures.proofs.account.account_posting.Goals as goal

pub add_posting-requires-clause-total : goal.add_posting-requires-clause-total
add_posting-requires-clause-total c =
    let b = c.requires.before in
    below_total c.args.planner.now.instruction b.postings b.unsteered c.args.account.now.tally
    (omega (arith, b.few, b.at_is)) b.account.tally

pub add_posting-requires-clause-owns : goal.add_posting-requires-clause-owns
add_posting-requires-clause-owns c =
    let b = c.requires.before in
    below_owns c.args.planner.now.instruction b.postings b.unsteered c.args.account.now.tally
    (omega (arith, b.few, b.at_is)) b.account.tally

pub returns-clause-passed : goal.returns-clause-passed
returns-clause-passed c = λ ps us is account.
    let i = c.args.planner.now.instruction in
    let x = c.args.posting.now in
    let before = c.args.account.now in
    let logs = logs_in_some c.in_ok-sums.unsteered in
    let shown : c.deref.result.now ≡ c.args.planner.now = search rules in
    let shown' : c.deref-2.result.now ≡ c.args.planner.now = search rules in
    let parts : ArePartsOn c.args.planner.now x (logs_of x) before.parts.items c.add_parts.new.parts.items =
    subst (λ (s : SheetParts). ArePartsOn s x (logs_of x) before.parts.items c.add_parts.new.parts.items) shown
    (subst (λ (l : List Log). ArePartsOn c.deref.result.now x l before.parts.items c.add_parts.new.parts.items)
    c.logs_of.ensures c.add_parts.ensures) in
    let unsteered : ArePartsOn c.args.planner.now x logs before.unsteered_parts.items
    c.add_parts-2.new.parts.items =
    subst (λ (s : SheetParts). ArePartsOn s x logs before.unsteered_parts.items
    c.add_parts-2.new.parts.items) shown'
    (subst (λ (l : List Log). ArePartsOn c.deref-2.result.now x l before.unsteered_parts.items
    c.add_parts-2.new.parts.items) c.logs_in.ensures c.add_parts-2.ensures) in
    let low = c.in_ok-sums.ensures.low (80 * length ps) account.counts_low account.unsteered_low in
    account_more i c.args.planner.now ps us x c.args.at c.cost.result c.in_ok-sums.sums logs before
    (record {
      tally = c.add_posting.new.tally;
      parts = c.add_parts.new.parts;
      unsteered_parts = c.add_parts-2.new.parts;
      longest = c.with-account.result;
      dearest = c.with-account-2.result;
    })
    c.requires.base is account (c.in_ok-sums.ensures.added ps us is account.tally)
    low.0 low.1 c.in_ok-sums.ensures.own parts c.in_ok-sums.ensures.unsteered unsteered
    (λ ns number old. subst (λ n. IsGreatest (ns ++ (n + c.in_ok-sums.sums.length) ∷ []) c.with-account.result)
    c.from.ensures (c.with-account.ensures ns number old)) c.cost.ensures
    (λ ns number old. c.with-account-2.ensures ns number old)
