use Rattle.std.proofs.Common.{[], ◌∷◌, arith}
use Rattle.buck_book_postings.specs.declared.posting.Posting.TheVariants.{Cut}
use Rattle.buck_book_postings.specs.Counts.{assortment_logs_in}
use Rattle.buck_page_figures.specs.Figures.{logs_in}
use Rattle.wrong_page.proofs.Postings.{found_there, one, told}
use Rattle.wrong_page.proofs.figures.logs_of_all_for_each_assortment.Goals as goal

pub prove-unreachable-requires : goal.prove-unreachable-requires
prove-unreachable-requires c =
    let i = c.args.instruction.now in
    let j = c.args.journal.now in
    let e = c.args.entry.now in
    let f = c.in-Ok.figures in
    let p = c.in-Some.part.now in
    let there =
    found_there f.assortments.items c.deref.result.now 0 p c.deref.ensures.value c.in-Some.ensures.lookup.0
    c.in-Some.ensures.lookup.1 in
    let is = told i j c.from_ref.result.now (Cut e ∷ []) f c.from_ref.ensures.value c.requires.only c.in-Ok.ensures.figures in
    omega (
      arith,
      (is.assortments.each 0 p there).logs,
      is.total.logs,
      one (assortment_logs_in 0) (Cut e),
      one logs_in (Cut e),
      c.requires.others,
      c.from-right.ensures,
      c.if-prove.true,
    )
