use Rattle.buck_fleet.proofs.Words.{arith, refl, sym, ◌∙◌}
use Rattle.buck_fleet.proofs.Replies.{more_kept, other_kept, goes_on, passes}
use Rattle.buck_fleet.proofs.close.first_difference.Goals.{then-harvester+else-not-is_kept_at, else-harvester}
use Rattle.buck_fleet.proofs.close.first_difference.Goals as goal

pub loop-i-preserved : goal.loop-i-preserved
loop-i-preserved c = elim c.if-harvester.branch [
  | then-harvester+else-not-is_kept_at w ↦
      goes_on _ _ _ _ _ c.loop-i.invariant _ c.loop-i-test.true c.index-entries-i.is _ w.k-is
      (sym c.harvester.ensures ∙ w.if-harvester.true) (w.if-not-is_kept_at.ensures.0 refl)
  | else-harvester w ↦
      passes _ _ _ _ _ c.loop-i.invariant _ c.loop-i-test.true c.index-entries-i.is _ w.k-is
      (λ e. w.if-harvester.false (c.harvester.ensures ∙ e))
]

pub returns-then-not-is_kept_at-clause-some : goal.returns-then-not-is_kept_at-clause-some
returns-then-not-is_kept_at-clause-some c =
    other_kept _ _ _ _ _ c.loop-i.invariant _ c.loop-i-test.true c.index-entries-i.is
    (sym c.harvester.ensures ∙ c.if-harvester.true)
    (λ e. grind (arith, c.is_kept_at.ensures, c.if-not-is_kept_at.true, e))

pub returns-then-k-kept-clause-some : goal.returns-then-k-kept-clause-some
returns-then-k-kept-clause-some c = more_kept _ _ _ _ _ c.loop-i.invariant c.if-k-kept.true c.loop-i-test.false
