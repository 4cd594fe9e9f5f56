use Rattle.buck_dp.proofs.Words.{sym, ◌∙◌, column_some, column_is}
use Rattle.buck_dp.proofs.PricingLemmas.{row_still, bought_still}
use Rattle.buck_dp.proofs.pricing.class_at.Goals as goal

pub returns-in_err-row-clause-none : goal.returns-in_err-row-clause-none
returns-in_err-row-clause-none c = rw c.from_residual-in_err-row.ensures (λ d in_band p.
    (rw c.in_err-row.was at c.bought_row.ensures.none)
    ((bought_still c.bought_row.ensures.valid c.requires.band d in_band.0 in_band.1).0
    (rw (column_is c.args.assortment.now _ _ (sym c.column_of.ensures ∙ c.in_ok-column.was)) at p.1)))

pub returns-clause-class : goal.returns-clause-class
returns-clause-class c =
    let found = sym c.column_of.ensures ∙ c.in_ok-column.was in
    let column = column_is c.args.assortment.now _ _ found in
    let row = c.in_ok-row.ensures in
    record {
      within = c.index.ensures.within;
      index = λ d in_band.
          rw (row_still c.requires.band row.row d in_band.0 in_band.1, column) (sym c.index.ensures.place);
      priced = λ d in_band. (
        (column_some _ _ _ found).1,
        rw column ((bought_still row.valid c.requires.band d in_band.0 in_band.1).1 row.bought),
      );
    }
