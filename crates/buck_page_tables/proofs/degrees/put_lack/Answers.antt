use Rattle.std.proofs.Common.{length, ap}
use Rattle.buck_page_tables.proofs.Lacks.{class_there, row_there}
use Rattle.buck_page_tables.proofs.degrees.put_lack.Goals as goal

pub row_of-limits-requires : goal.row_of-limits-requires
row_of-limits-requires c =
    row_there c.index-assortments-lack.result c.args.lack.now.class _ c.lengths-columns.ensures.valid
    (class_there c.args.figures.now.instruction.now.assortments c.assortments.result.now c.args.lack.now.assortment
    c.args.lack.now.class c.requires.assortment c.index-assortments-lack.result c.assortments.ensures.items
    c.requires.there c.index-assortments-lack.is c.requires.within)
    (ap length c.lengths-columns.ensures.lengths)

pub bounds-prices-lack : goal.bounds-prices-lack
bounds-prices-lack c =
    let within =
    class_there c.args.figures.now.instruction.now.assortments c.assortments.result.now c.args.lack.now.assortment
    c.args.lack.now.class c.requires.assortment c.index-assortments-lack.result c.assortments.ensures.items
    c.requires.there c.index-assortments-lack.is c.requires.within in
    rw (c.prices.ensures, c.lengths-columns.ensures.valid.prices_number) within
