use Rattle.buck_dp.proofs.Words.{stands, arith, slice_get_within, IsBand}
use Rattle.buck_dp.proofs.ListLemmas.{more_at}
use Rattle.buck_dp.proofs.pricing.band_around.Goals as goal

pub loop-assortment-preserved : goal.loop-assortment-preserved
loop-assortment-preserved c =
    let was = c.loop-assortment.invariant in
    let cut = c.cut_by.ensures in
    record {
      within = cut.inside;
      high = omega (arith, cut.narrower, was.high);
      before = more_at (λ _ x. IsBand x c.cut_by.new.self.thinnest c.cut_by.new.self.past) _ _
          c.assortment-item.result (grind (arith, stands))
          (λ a x lt at. (let band = was.before a x lt at in
          record { rows = λ d has. grind (arith, band.rows d has); upper = grind (arith, band.upper) })) cut.band;
    }

pub returns-clause-band : goal.returns-clause-band
returns-clause-band c = record {
  order = grind arith;
  high = grind arith;
  each = λ a x at. c.loop-assortment.invariant.before a x (grind (arith, slice_get_within)) at;
}
