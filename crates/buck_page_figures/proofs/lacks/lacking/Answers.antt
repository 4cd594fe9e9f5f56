use Rattle.std.proofs.Common.{◌∙◌, ◌<◌, cond, inl, ap, length, arith, rules}
use Rattle.std.proofs.lemmas.List.Sorted.{sum_by-IsPermutation}
use Rattle.std.proofs.lemmas.Option.{slice_get_within}
use Rattle.buck_page_figures.specs.Lacking.{names}
use Rattle.buck_page_figures.specs.declared.lack.Lack.{Lack}
use Rattle.buck_page_figures.proofs.OrderLemmas.{sorted_most_first}
use Rattle.buck_page_figures.proofs.lacks.lacking.Goals as goal

pub returns-clause-each_once : goal.returns-clause-each_once
returns-clause-each_once c = λ at class a there within short.
    let before : at < c.loop-at.at =
    omega (
      arith,
      slice_get_within c.args.figures.now.instruction.now.assortments at a there,
      c.loop-at-test.false,
      ap length c.assortments-at-end.ensures.items,
    ) in
    sum_by-IsPermutation (λ (l : Lack). cond (names at class l) 1 0) c.loop-at.found.items c.sort_by.new.self.items
    c.in_ok-sort_by.ensures.permutation
    ∙ c.loop-at.invariant.once at class a there within (inl before) short

pub returns-clause-most_first : goal.returns-clause-most_first
returns-clause-most_first c =
    sorted_most_first c.args.figures.now.instruction.now c.loop-at.found.items c.sort_by.new.self.items
    c.in_ok-sort_by.ensures.sorted c.in_ok-sort_by.ensures.stable (λ a r f called. search rules) c.loop-at.invariant.rising
