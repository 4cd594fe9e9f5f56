use Rattle.std.proofs.Common.{◌≡◌, ◌*◌, ◌/◌, ◌≤◌, ap, ◌∙◌, arith}
use Rattle.std.specs.Prelude.{sum, take, Some}
use Rattle.std.proofs.Math.Nat.{mul-le-mul}
use Rattle.buck_page_figures.specs.Degrees.{diameter_degree_of}
use Rattle.buck_page_figures.proofs.RowLemmas.{row_more, diameters_more, diameters_end, diameter_none, diameter_some}
use Rattle.buck_page_figures.proofs.degrees.diameter_degree.Goals as goal
use Rattle.buck_page_figures.proofs.degrees.diameter_degree.Goals.{After-loop}

-- what is given behind the last row
is_degree : (c : After-loop)
    → (Some (c.loop.all * 10000 / (c.wanted-wanted.result * c.cut-cut.result))
    ≡ diameter_degree_of c.args.rows c.args.columns c.args.wish.targets.now c.args.wish.counts.now)
    × (c.loop.all * 10000 / (c.wanted-wanted.result * c.cut-cut.result) ≤ 10000)
is_degree c =
    let w = c.args.wish in
    diameter_some c.args.rows c.args.columns c.wanted-wanted.result c.cut-cut.result c.loop.all w.targets.now w.counts.now
    c.requires.long (w.one_each ∙ c.requires.long) c.wanted-wanted.ensures.wanted c.cut-cut.ensures.cut
    c.if-wanted-cut-eq0.false
    (diameters_end c.wanted-wanted.result c.cut-cut.result c.args.rows c.loop.counter c.args.columns c.loop.all _
    c.loop.rest.targets.now c.loop.rest.counts.now c.loop-test.false c.loop.invariant.all)

pub returns-then-wanted-cut-eq0 : goal.returns-then-wanted-cut-eq0
returns-then-wanted-cut-eq0 c =
    let w = c.args.wish in
    diameter_none c.args.rows c.args.columns c.wanted-wanted.result c.cut-cut.result w.targets.now w.counts.now
    c.requires.long (w.one_each ∙ c.requires.long) c.wanted-wanted.ensures.wanted c.cut-cut.ensures.cut
    c.if-wanted-cut-eq0.true

pub loop-preserved : goal.loop-preserved
loop-preserved c =
    let ts = c.loop.rest.targets.now in
    let ns = c.loop.rest.counts.now in
    let row = c.split.ensures in
    let before = c.loop.invariant in
    let targets : c.wanted.result ≡ sum (take c.args.columns ts) = c.wanted.ensures.wanted ∙ ap sum row.row_targets in
    let logs : c.cut.result ≡ sum (take c.args.columns ns) = c.cut.ensures.cut ∙ ap sum row.row_counts in
    let one : c.min-all.result ≤ c.wanted.result * c.cut-cut.result =
    omega (arith, c.min-all.ensures) in
    record {
      long = row_more c.args.rows c.loop.counter c.args.columns ts c.split.result.1.targets.now c.loop-test.true before.long
          row.rest_targets;
      all = diameters_more c.wanted-wanted.result c.cut-cut.result c.args.rows c.loop.counter c.args.columns c.loop.all
          c.min-all.result _ ts ns c.split.result.1.targets.now c.split.result.1.counts.now c.loop-test.true
          row.rest_targets row.rest_counts
          (rw (← targets, ← logs) c.min-all.ensures) before.all;
      low = omega (arith, before.low, one, mul-le-mul c.wanted.ensures.low c.cut-cut.ensures.low);
    }

pub overflow_cast-result : goal.overflow_cast-result
overflow_cast-result c = omega (arith, (is_degree c).1)

pub returns : goal.returns
returns c = (is_degree c).0
