use Rattle.std.proofs.Common.{◌≡◌, [], ◌∷◌, refl, arith}
use Rattle.buck_book_postings.specs.declared.posting.Posting.TheVariants.{Demand}
use Rattle.wrong_page.proofs.Postings.{journal_with, told, point_is, version_is, found_there}
use Rattle.wrong_page.proofs.curves.version_before_the_point.Goals as goal

pub prove-unreachable-requires : goal.prove-unreachable-requires
prove-unreachable-requires c =
    let f = c.in-Ok.figures in
    let p = c.in-Some.point.now in
    let there =
    found_there f.points.items c.deref.result.now 0 p c.deref.ensures.value c.in-Some.ensures.lookup.0
    c.in-Some.ensures.lookup.1 in
    let i = c.args.instruction.now in
    let j = c.args.journal.now in
    let ps = Demand c.args.demand.now ∷ [] in
    let is = point_is i j ps f 0 0 1 p (told i j c.from_ref.result.now ps f c.from_ref.ensures.value c.requires.only c.in-Ok.ensures.figures) there refl refl in
    let version : p.version ≡ 1 = version_is i (journal_with j ps) _ _ 1 p is in omega (arith, version, c.if-prove.true)
