-- What some postings add up to, one posting on.
use Rattle.buck_book_postings.proofs.Words.{◌≡◌, ℕ, ◌+◌, ◌<◌, ◌≤◌, ◌==◌, cond, List, [], ◌∷◌, ◌++◌, length, arith, rules, common_steps, length_push, sum_by_push, count_by-le-length, slice_get_within, slice_get, Some, length-take-le}
use Rattle.buck_book_postings.proofs.Words.{harvester_of, WalkParts, walk_of, passed, IsAfter, IsWalk, InstructionParts, IsInstruction, IsStem, IsAllowed, end_of, IsCutFrom, Posting, Cut, Demand, EntryParts, DemandParts, opening_targets}
use Rattle.buck_book_postings.proofs.Words.{AreTargets, Running, Tells, standings_of, AreCounts, AreAtMost, AreGrownAt, AreGrownBy, class_place, CanPrice}
use Rattle.buck_book_postings.proofs.Cuts.{few_logs, tallied}
use Rattle.buck_book_postings.proofs.Counting.{count_of-le}
use Rattle.buck_book_postings.proofs.Ends.{take_one_more, ends-append, cuts-append, targets-append, ends-le, cuts_low}

module _ (i : InstructionParts) (ps : List Posting) (n : Running) (t : Tells i ps n) where
  pub version_low : n.version ≤ 1000000
  version_low = omega (arith, t.version_is, ends-le i.period 0 ps, t.few)

  pub cuts_few : n.cuts < 1000
  cuts_few = grind (arith, cuts_low)

  pub counts_fit : AreAtMost 80000000 n.by_class.items n.by_assortment.items
  counts_fit = grind (arith, common_steps)

  pub prices_can : CanPrice (standings_of i n)
  prices_can = grind (arith, slice_get_within, count_of-le, counts_fit)

  pub tells_cut : (n' : Running) (e : EntryParts)
      → length ps < 1000000 → IsStem e.stem → IsCutFrom (IsAllowed i e.stem) (end_of i) 0 e.logs
      → n'.targets ≡ n.targets
      → AreGrownAt (class_place i e.stem) n.by_class.items e.logs n'.by_class.items
      → AreGrownBy n.by_assortment.items e.logs n'.by_assortment.items
      → n'.cuts ≡ cond (n.cuts + 1 == i.period) 0 (n.cuts + 1)
      → n'.version ≡ n.version + cond (n.cuts + 1 == i.period) 1 0
      → Tells i (ps ++ Cut e ∷ []) n'
  tells_cut n' e few s cut same classes_grown assortments_grown cut_is ended =
      search (
        rules,
        few_logs,
        length_push,
        targets-append,
        cuts-append,
        ends-append,
        tallied,
        sum_by_push,
        count_by-le-length,
      )

  pub tells_demand : (n' : Running) (d : DemandParts)
      → length ps < 1000000 → AreTargets i d.targets → d.targets ≡ n'.targets.value.items → n'.cuts ≡ 0
      → n'.version ≡ n.version + 1 → n'.by_class ≡ n.by_class → n'.by_assortment ≡ n.by_assortment
      → Tells i (ps ++ Demand d ∷ []) n'
  tells_demand n' d few valid same none ended classes assortments =
      grind (arith, length_push, targets-append, cuts-append, ends-append, sum_by_push)

-- before the first posting
pub tells_opening : (i : InstructionParts) (n : Running)
    → IsInstruction i → n.targets.value.items ≡ opening_targets i → AreTargets i n.targets.value.items
    → AreCounts i [] n.by_class.items n.by_assortment.items → AreAtMost 0 n.by_class.items n.by_assortment.items
    → n.cuts ≡ 0 → n.version ≡ 0 → Tells i [] n
tells_opening i n v wanted valid counts low cuts version = grind (arith, common_steps)

-- what is kept along a way, one posting on: d is the place as callers see it
module _ (w d : WalkParts) (n : Running) (calls : ℕ → ℕ) (x : Posting) (i : InstructionParts) (view : w ≡ d)
    (k : IsWalk w n calls) (there : slice_get d.postings d.at ≡ Some x) (same : i ≡ d.instruction) where
  few : length (passed w) < 1000000
  few = grind (arith, slice_get_within, length-take-le)

  pub walk_more : (n' : Running) (calls' : ℕ → ℕ) → IsAfter i n x n'
      → ((h : ℕ) → calls' h ≡ calls h + cond (harvester_of x == h) 1 0)
      → IsWalk (walk_of w.instruction w.postings (w.at + 1)) n' calls'
  walk_more n' calls' told called = grind (arith, take_one_more, few, slice_get_within, sum_by_push)
