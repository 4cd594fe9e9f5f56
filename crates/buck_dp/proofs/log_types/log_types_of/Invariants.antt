use Rattle.buck_dp.proofs.PricingLemmas.{HasTypesTo}
use Rattle.buck_dp.proofs.log_types.log_types_of.Given as goal

abbrev pub invariant-loop-assortment : goal.invariant-loop-assortment
invariant-loop-assortment l = HasTypesTo l.instruction l.assortment 0 l.types.items

abbrev pub invariant-loop-length : goal.invariant-loop-length
invariant-loop-length l = HasTypesTo l.instruction l.assortment l.length-index l.types.items
