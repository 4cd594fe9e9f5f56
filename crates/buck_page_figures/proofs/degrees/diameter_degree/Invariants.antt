use Rattle.std.proofs.Common.{◌≡◌, ◌+◌, ◌-◌, ◌*◌, ◌≤◌, length, map}
use Rattle.std.specs.Prelude.{sum}
use Rattle.buck_book_postings.specs.Degree.{shared_of}
use Rattle.buck_page_figures.specs.Degrees.{rows_of}
use Rattle.buck_page_figures.proofs.degrees.diameter_degree.Given as goal

abbrev pub invariant-loop : goal.invariant-loop
invariant-loop l = record {
  long : length l.rest.targets.now + l.counter * l.columns ≡ l.rows * l.columns;
  all : l.all + shared_of l.wanted l.cut (map sum (rows_of (l.rows - l.counter) l.columns l.rest.targets.now))
      (map sum (rows_of (l.rows - l.counter) l.columns l.rest.counts.now))
      ≡ shared_of l.wanted l.cut (map sum (rows_of l.rows l.columns l.fn.wish.targets.now))
      (map sum (rows_of l.rows l.columns l.fn.wish.counts.now));
  low : l.all ≤ l.counter * (4398046511104 * 4398046511104);
}
