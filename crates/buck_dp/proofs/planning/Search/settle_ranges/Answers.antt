use Rattle.buck_dp.proofs.Words.{◌≡◌, ◌-◌, ◌+◌, ◌*◌, ◌≤◌, ◌∷◌, ◌∙◌, get_or, drop, drop-cons, drop_all, add-one, arith, rules, with_items_is, AreRanges, IsRangeTo, StartRange, IsCacheOf, IsSearch, stem_length}
use Rattle.buck_dp.proofs.OfferLemmas.{closed, searched_to, range_chosen}
use Rattle.buck_dp.proofs.GridLemmas.{at_top, range_open, none_near, point_reached}
use Rattle.buck_dp.proofs.planning.Search.settle_ranges.Goals.{After-settle, In-loop-range, then-top-range+in_ok-row, else-top-range}
use Rattle.buck_dp.proofs.planning.Search.settle_ranges.Goals as goal

abbrev nothing : StartRange
nothing = record { first = 0; set = record { takers = record { marks = 0 }; number = 0 } }

abbrev range_of : (g : _) → In-loop-range g → StartRange
range_of g c = get_or c.as_slice-ranges.result.now c.loop-range.range-index nothing

-- it is the next range, and those behind it are left
next : (g : _) (c : In-loop-range g)
    → IsRangeTo g.p (c.loop-top.top - 1) c.loop-range.stop (range_of g c)
    × AreRanges g.p (c.loop-top.top - 1) (range_of g c).first
    (drop (c.loop-range.range-index + 1) c.as_slice-ranges.result.now)
next g c =
    let ranges = c.as_slice-ranges.result.now in
    let i = c.loop-range.range-index in
    let here : drop i ranges ≡ range_of g c ∷ drop (i + 1) ranges =
    rw add-one (drop-cons ranges i nothing c.loop-range-test.true) in
    rw here at c.loop-range.invariant.left

-- the top lies within the stem, and the room is what lies behind it
room : (g : _) (c : After-settle g)
    → ((c.loop-top.top - 1) * c.module-module.result ≤ c.length-length.result)
    × (c.length-length.result - (c.loop-top.top - 1) * c.module-module.result
    + (c.loop-top.top - 1) * g.p.sheet.instruction.«module» ≡ stem_length g.p.stem.samples)
    × (c.loop-top.top - 1 ≤ 4000) × (c.length-length.result ≤ 40000)
room g c =
    let step = rw (
      c.deref-2.ensures,
      c.instruction.ensures.instruction,
      c.deref.ensures,
      c.sheet.ensures.sheet,
      c.requires.0.cache.0,
    ) at c.module-module.ensures.module in
    let length = rw c.requires.0.grid.stem at c.length-length.ensures.length in
    let reached = point_reached c.requires.0.grid (c.loop-top.top - 1)
    (omega (arith, c.loop-top.invariant.search.within)) in
    rw (step, length) (
      reached.0,
      omega (arith, reached.0),
      reached.1,
      omega (arith, c.requires.0.grid.sound),
    )

pub overflow_cast-room : goal.overflow_cast-room
overflow_cast-room g c = omega (arith, (room g (goal.at.overflow_cast-room g c).After-settle).2)

pub overflow_mul-room : goal.overflow_mul-room
overflow_mul-room g c =
    let r = room g (goal.at.overflow_mul-room g c).After-settle in omega (arith, r.0, r.3)

pub overflow_sub-room : goal.overflow_sub-room
overflow_sub-room g c = (room g (goal.at.overflow_sub-room g c).After-settle).0

pub loop-top-init : goal.loop-top-init
loop-top-init g c = record {
  low = c.requires.1.0;
  high = omega arith;
  search = rw (c.as_mut_slice-values.ensures.value, c.as_mut_slice-choices.ensures.value) c.requires.0.search;
  cache = c.requires.0.cache;
}

pub loop-range-init : goal.loop-range-init
loop-range-init g c = record {
  search = c.settle.ensures;
  cache = c.loop-top.invariant.cache;
  left = rw c.as_slice-ranges.ensures.value (c.requires.1.1 (c.loop-top.top - 1) (omega (arith, c.loop-top-test.true))
      (omega (arith, c.loop-top-test.true, c.loop-top.invariant.high)));
}

pub offer_some-requires : goal.offer_some-requires
offer_some-requires g c =
    let n = next g (goal.at.offer_some-requires g c).In-loop-range in
    let same = c.in_ok-row.ensures.same in
    let was = c.loop-range.invariant.cache in
    let o = range_open c.requires.0.grid _ c.diameters-diameters.ensures.right
    (omega (arith, c.loop-top.invariant.search.within)) c.cells.result.now c.row.new.self
    (same.0 ∙ was.0, same.1 ∙ was.1) c.loop-range.invariant.search n.0 (c.cells.ensures _ _ c.in_ok-row.ensures.row) in
    let chosen = range_chosen o (room g (goal.at.offer_some-requires g c).After-settle).1 in
    record { «open» = (g.p, c.settle.new.choices, _, c.loop-range.stop, o, chosen) }

pub loop-range-preserved : goal.loop-range-preserved
loop-range-preserved g c =
    let n = next g (goal.at.loop-range-preserved g c).In-loop-range in
    let was = c.loop-range.invariant.search in
    let cached = c.loop-range.invariant.cache in
    elim c.if-top-range.branch [
      | then-top-range+in_ok-row w ↦
          let same = w.in_ok-row.ensures.same in
          let kept : IsCacheOf g.p w.row.new.self = (same.0 ∙ cached.0, same.1 ∙ cached.1) in
          let o = range_open c.requires.0.grid _ c.diameters-diameters.ensures.right
          (omega (arith, c.loop-top.invariant.search.within)) w.cells.result.now w.row.new.self
          kept was n.0 (w.cells.ensures _ _ w.in_ok-row.ensures.row) in
          let all = w.offer_some.ensures g.p c.settle.new.choices _ c.loop-range.stop o
          (range_chosen o (room g (goal.at.loop-range-preserved g c).After-settle).1) in
          record { search = rw w.values-is all; cache = rw w.cache-is kept; left = n.1 }
      | else-top-range w ↦
          let near = rw (c.types.ensures, c.requires.0.cache.1) at w.if-top-range.false in
          record {
            search = rw w.values-is (searched_to was (omega (arith, n.0.first))
                (λ i e bid low lt log. absurd (none_near c.requires.0.grid (omega (arith, near)) log)));
            cache = rw w.cache-is cached;
            left = n.1;
          }
    ]

pub loop-top-preserved : goal.loop-top-preserved
loop-top-preserved g c =
    let l = c.loop-range in
    record {
      low = omega arith;
      high = omega (arith, c.loop-top.invariant.high);
      search = closed l.invariant.search
          (rw (drop_all l.range-index c.as_slice-ranges.result.now c.loop-range-test.false) at l.invariant.left);
      cache = l.invariant.cache;
    }

pub returns-clause-plan : goal.returns-clause-plan
returns-clause-plan g c =
    let l = c.loop-top in
    let found : IsSearch g.p l.values l.choices c.args.last 0 =
    at_top (omega (arith, c.loop-top-test.false, l.invariant.low)) l.invariant.search in
    record { grid = c.requires.0.grid; cache = l.invariant.cache; search = search (rules, with_items_is) }

pub overflow_sub-top-in-loop-range : goal.overflow_sub-top-in-loop-range
overflow_sub-top-in-loop-range g c =
    let n = next g (goal.at.overflow_sub-top-in-loop-range g c).In-loop-range in
    omega (arith, n.0.first, c.loop-range.invariant.search.below)

pub overflow_sub-lengths-then-top-range : goal.overflow_sub-lengths-then-top-range
overflow_sub-lengths-then-top-range g c =
    let n = next g (goal.at.overflow_sub-lengths-then-top-range g c).In-loop-range in
    omega (arith, n.0.first, c.loop-range.invariant.search.below)
