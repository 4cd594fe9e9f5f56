use Rattle.buck_page_cells.proofs.spread.spread_of.Goals as goal

pub returns : goal.returns
returns c = record {
  least = c.in-Some.least;
  greatest = c.in-Some-greatest_of.greatest;
  is_least = c.in-Some.ensures;
  is_greatest = c.in-Some-greatest_of.ensures;
  least_is = c.difference.ensures;
  greatest_is = c.difference-2.ensures;
  mean_is = rw (← c.sum_of-sum.ensures.from, ← c.sum_of-sum.ensures.to, ← c.sum_of-sum.ensures.number) c.mean.ensures;
}
