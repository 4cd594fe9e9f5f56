use Rattle.buck_dp.proofs.PricingLemmas.{none_put, term_put}
use Rattle.buck_dp.proofs.pricing.terms_of.Goals as goal

pub class_at-requires-clause-band : goal.class_at-requires-clause-band
class_at-requires-clause-band c = c.requires.band.each _ _ c.assortment_of-assortment.ensures.own

pub loop-place-preserved-in_default : goal.loop-place-preserved-in_default
loop-place-preserved-in_default c =
    none_put c.requires.types c.loop-place-test.true c.loop-place.invariant _ c.assortment_of-assortment.ensures.own
    c.in_default.ensures.none

pub loop-place-preserved : goal.loop-place-preserved
loop-place-preserved c =
    rw (c.in_ok-push.ensures.items, c.point_from.ensures, c.price_kind.ensures)
    (rw (c.module-module.ensures.module, c.trim-trim.ensures.trim)
    (term_put c.requires.types c.loop-place-test.true c.loop-place.invariant _ c.assortment_of-assortment.ensures.own
    c.assortment_of-assortment.ensures.few _ c.in-Some.ensures.class))
