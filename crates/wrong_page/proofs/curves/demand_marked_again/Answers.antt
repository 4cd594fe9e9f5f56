use Rattle.std.proofs.Common.{[], ◌∷◌, refl, arith}
use Rattle.buck_book_postings.specs.declared.posting.Posting.TheVariants.{Cut, Demand}
use Rattle.buck_page_figures.specs.Figures.{demands_in}
use Rattle.wrong_page.proofs.Postings.{one, two, told, told_false, point_is, found_there}
use Rattle.wrong_page.proofs.curves.demand_marked_again.Goals as goal

pub prove-unreachable-requires : goal.prove-unreachable-requires
prove-unreachable-requires c =
    let f = c.in-Ok.figures in
    let p = c.in-Some.point.now in
    let there =
    found_there f.points.items c.deref.result.now 1 p c.deref.ensures.value c.in-Some.ensures.lookup.0
    c.in-Some.ensures.lookup.1 in
    let i = c.args.instruction.now in
    let j = c.args.journal.now in
    let d = c.requires.after_a_demand.0 in
    let ps = Demand d ∷ Cut c.args.entry.now ∷ [] in
    let is = point_is i j ps f 1 1 2 p (told i j c.from_ref.result.now ps f c.from_ref.ensures.value c.requires.after_a_demand.1 c.in-Ok.ensures.figures)
    there refl refl in
    let first = one demands_in (Demand d) in
    let both = two demands_in (Demand d) (Cut c.args.entry.now) in
    told_false p.demand (λ so. omega (arith, is.demand.0 so, first, both)) c.if-prove.true
