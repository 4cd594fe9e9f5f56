use Rattle.std.proofs.Common.{◌≡◌, ◌+◌, ◌-◌, ◌*◌, ◌≤◌, length}
use Rattle.buck_page_figures.specs.Degrees.{rows_of, weighed_in, counted_in}
use Rattle.buck_page_figures.proofs.degrees.length_degree.Given as goal

abbrev pub invariant-loop : goal.invariant-loop
invariant-loop l = record {
  long : length l.rest.targets.now + l.counter * l.columns ≡ l.rows * l.columns;
  all : l.all + weighed_in (rows_of (l.rows - l.counter) l.columns l.rest.targets.now)
      (rows_of (l.rows - l.counter) l.columns l.rest.counts.now)
      ≡ weighed_in (rows_of l.rows l.columns l.fn.wish.targets.now) (rows_of l.rows l.columns l.fn.wish.counts.now);
  logs : l.logs + counted_in (rows_of (l.rows - l.counter) l.columns l.rest.targets.now)
      (rows_of (l.rows - l.counter) l.columns l.rest.counts.now)
      ≡ counted_in (rows_of l.rows l.columns l.fn.wish.targets.now) (rows_of l.rows l.columns l.fn.wish.counts.now);
  low : l.all ≤ 10000 * l.logs;
  few : l.logs ≤ l.counter * 4398046511104;
}
