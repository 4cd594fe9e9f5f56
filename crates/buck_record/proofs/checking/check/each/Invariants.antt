use Rattle.buck_record.proofs.CheckLemmas.{GoesOn}
use Rattle.buck_record.proofs.checking.check.each.Given as goal

abbrev pub invariant-loop-x : goal.invariant-loop-x
invariant-loop-x g l = GoesOn (λ x. g.F.Fn.post l.f (x, tt)) l.xs l.x-index
