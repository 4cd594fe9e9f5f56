use Rattle.std.proofs.Common.{◌≡◌, ◌+◌, ◌*◌, ◌≤◌, List, ℕ, ap, arith}
use Rattle.std.specs.Prelude.{sum, take}
use Rattle.buck_book_postings.specs.Degree.{degree_of}
use Rattle.buck_page_figures.specs.Degrees.{weighed, counted}
use Rattle.buck_page_figures.proofs.RowLemmas.{row_more, lengths_more, row_counts, row_is_left_out}
use Rattle.buck_page_figures.proofs.degrees.length_degree.Goals as goal
use Rattle.buck_page_figures.proofs.degrees.length_degree.Goals.{in-Some, in_default}

pub loop-preserved : goal.loop-preserved
loop-preserved c =
    let ts = c.loop.rest.targets.now in
    let ns = c.loop.rest.counts.now in
    let row = c.split.ensures in
    let before = c.loop.invariant in
    let n = sum (take c.args.columns ns) in
    let degree : c.degree.result ≡ degree_of (take c.args.columns ts) (take c.args.columns ns) =
    rw (← row.row_targets, ← row.row_counts) c.degree.ensures.degree in
    let few : sum c.split.result.0.counts.now ≡ n = ap sum row.row_counts in
    let one : (c.match-degree.all ≡ c.loop.all + weighed c.degree.result n)
    × (c.match-degree.logs ≡ c.loop.logs + counted c.degree.result n)
    × (c.match-degree.all ≤ 10000 * c.match-degree.logs) =
    elim c.match-degree.branch [
      | in-Some w ↦
          row_counts c.degree.result w.in-Some.degree n c.loop.all c.loop.logs c.match-degree.all c.match-degree.logs
          w.in-Some.is w.in-Some.ensures.low
          (rw (← few, ← w.cut.ensures.cut, ← w.from.ensures) w.all-is)
          (rw (← few, ← w.cut-logs.ensures.cut) w.logs-is) before.low
      | in_default w ↦
          row_is_left_out c.degree.result n c.loop.all c.loop.logs c.match-degree.all c.match-degree.logs
          w.in_default.is w.all-is w.logs-is before.low
    ] in
    let at_most : c.match-degree.logs ≤ c.loop.logs + 4398046511104 =
    elim c.match-degree.branch [
      | in-Some w ↦ omega (arith, w.logs-is, w.cut-logs.ensures.low)
      | in_default w ↦ omega (arith, w.logs-is)
    ] in
    record {
      long = row_more c.args.rows c.loop.counter c.args.columns ts c.split.result.1.targets.now c.loop-test.true before.long
          row.rest_targets;
      all = lengths_more (λ (r : List ℕ × List ℕ). weighed (degree_of r.0 r.1) (sum r.1)) c.args.rows c.loop.counter
          c.args.columns c.loop.all c.match-degree.all _ ts ns c.split.result.1.targets.now
          c.split.result.1.counts.now c.loop-test.true row.rest_targets row.rest_counts
          (rw (← degree) one.0)
          before.all;
      logs = lengths_more (λ (r : List ℕ × List ℕ). counted (degree_of r.0 r.1) (sum r.1)) c.args.rows c.loop.counter
          c.args.columns c.loop.logs c.match-degree.logs _ ts ns c.split.result.1.targets.now
          c.split.result.1.counts.now c.loop-test.true row.rest_targets row.rest_counts
          (rw (← degree) one.1)
          before.logs;
      low = one.2;
      few = omega (arith, before.few, at_most);
    }
