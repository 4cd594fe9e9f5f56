use Rattle.buck_dp.proofs.Words.{AreTerms}
use Rattle.buck_dp.proofs.pricing.terms_of.Given as goal

abbrev pub invariant-loop-place : goal.invariant-loop-place
invariant-loop-place l = AreTerms l.instruction l.types l.band l.place l.terms.items
