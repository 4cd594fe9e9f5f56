use Rattle.buck_record.proofs.CheckLemmas.{MakesSoFar}
use Rattle.buck_record.proofs.checking.check.make_each.Given as goal

abbrev pub invariant-loop-x : goal.invariant-loop-x
invariant-loop-x g l = MakesSoFar g.E.From.from_gives (λ x. g.F.Fn.post l.f (x, tt)) l.xs l.made.items l.x-index
