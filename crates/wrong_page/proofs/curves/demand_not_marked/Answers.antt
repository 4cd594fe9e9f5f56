use Rattle.std.proofs.Common.{[], ◌∷◌, refl, arith}
use Rattle.buck_book_postings.specs.declared.posting.Posting.TheVariants.{Demand}
use Rattle.buck_page_figures.specs.Figures.{demands_in}
use Rattle.wrong_page.proofs.Postings.{one, told, told_true, point_is, found_there}
use Rattle.wrong_page.proofs.curves.demand_not_marked.Goals as goal

pub prove-unreachable-requires : goal.prove-unreachable-requires
prove-unreachable-requires c =
    let f = c.in-Ok.figures in
    let p = c.in-Some.point.now in
    let there =
    found_there f.points.items c.deref.result.now 0 p c.deref.ensures.value c.in-Some.ensures.lookup.0
    c.in-Some.ensures.lookup.1 in
    let i = c.args.instruction.now in
    let j = c.args.journal.now in
    let ps = Demand c.args.demand.now ∷ [] in
    let is = point_is i j ps f 0 0 1 p (told i j c.from_ref.result.now ps f c.from_ref.ensures.value c.requires.only c.in-Ok.ensures.figures) there refl refl in
    told_true p.demand (is.demand.1 (omega (arith, one demands_in (Demand c.args.demand.now)))) c.if-prove.true
