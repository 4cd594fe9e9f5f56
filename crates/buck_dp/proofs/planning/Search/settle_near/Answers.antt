use Rattle.buck_dp.proofs.Words.{◌-◌, ◌∙◌, arith, rules, with_items_is, IsSearch, AreOffered, AllFit, HasNoneOf}
use Rattle.buck_dp.proofs.OfferLemmas.{closed}
use Rattle.buck_dp.proofs.GridLemmas.{at_top, near_open}
use Rattle.buck_dp.proofs.planning.Search.settle_near.Goals.{After-settle}
use Rattle.buck_dp.proofs.planning.Search.settle_near.Goals as goal

-- the cells of the row at the diameter of the top can be offered
opened : (g : _) (c : After-settle g)
    → AreOffered g.p c.settle.new.choices (c.loop-top-2.top - 1) c.args.near.first (c.loop-top-2.top - 1)
    c.cells-cells.result.now 0 c.settle.new.values
    × AllFit g.p c.types.result.now.most_steps (c.loop-top-2.top - 1) c.cells-cells.result.now
    × HasNoneOf g.p c.args.near.first (c.loop-top-2.top - 1)
opened g c =
    let l = c.loop-top-2 in
    let same = c.in_ok-row.ensures.same in
    let was = c.loop-top.invariant.cache in
    rw (c.types.ensures, c.requires.0.cache.1) (near_open c.requires.0.grid _
    c.diameters-diameters.ensures.right (omega (arith, l.invariant.search.within)) _ c.row.new.self
    (same.0 ∙ was.0, same.1 ∙ was.1) c.settle.ensures
    (c.requires.1.1 (l.top - 1) (omega arith) (omega (arith, l.invariant.high, c.loop-top.invariant.high)))
    (rw (← l.invariant.here) (c.cells-cells.ensures _ _ c.in_ok-row.ensures.row)))

pub offer_all-requires : goal.offer_all-requires
offer_all-requires g c =
    let o = opened g (goal.at.offer_all-requires g c).After-settle in
    record { «open» = (g.p, c.settle.new.choices, o.0, o.1) }

pub loop-top-2-preserved : goal.loop-top-2-preserved
loop-top-2-preserved g c =
    let o = opened g (goal.at.loop-top-2-preserved g c).After-settle in
    record {
      low = omega arith;
      high = omega (arith, c.loop-top-2.invariant.high);
      here = search rules;
      search = closed (c.offer_all.ensures g.p c.settle.new.choices o.0 o.1) o.2;
    }

pub loop-top-preserved : goal.loop-top-preserved
loop-top-preserved g c =
    let o = opened g (goal.at.loop-top-preserved g c).After-settle in
    record {
      low = omega (arith, c.loop-top-2.invariant.low);
      high = omega (arith, c.loop-top-2.invariant.high, c.loop-top.invariant.high);
      search = closed (c.offer_all.ensures g.p c.settle.new.choices o.0 o.1) o.2;
      cache = search rules;
    }

pub returns-clause-plan : goal.returns-clause-plan
returns-clause-plan g c =
    let l = c.loop-top in
    let found : IsSearch g.p l.values l.choices c.args.last 0 =
    at_top (omega (arith, c.loop-top-test.false, l.invariant.low)) l.invariant.search in search (rules, with_items_is)
