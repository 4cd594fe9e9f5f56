use Rattle.std.proofs.Common.{◌≡◌, List, get_or, [], ◌∷◌, None, refl, sym, ap, ◌∙◌}
use Rattle.std.specs.Option.{is_some}
use Rattle.buck_book_postings.specs.declared.posting.Posting.TheVariants.{Cut, Demand}
use Rattle.buck_book_postings.proofs.Ends.{true_false}
use Rattle.buck_page_figures.specs.declared.degrees.Degrees.{Degrees}
use Rattle.wrong_page.proofs.Postings.{whole_of, no_degree, none_first, told, told_false, point_is, found_there}
use Rattle.wrong_page.proofs.curves.degree_of_the_wrong_point.Goals as goal

pub prove-unreachable-requires : goal.prove-unreachable-requires
prove-unreachable-requires c =
    let f = c.in-Ok.figures in
    let p = c.in-Some.point.now in
    let there =
    found_there f.points.items c.deref.result.now 0 p c.deref.ensures.value c.in-Some.ensures.lookup.0
    c.in-Some.ensures.lookup.1 in
    let i = c.args.instruction.now in
    let j = c.args.journal.now in
    let d = c.requires.after_a_demand.0 in
    let ps = Demand d ∷ Cut c.args.entry.now ∷ [] in
    let is = point_is i j ps f 0 0 1 p (told i j c.from_ref.result.now ps f c.from_ref.ensures.value c.requires.after_a_demand.1 c.in-Ok.ensures.figures)
    there refl refl in
    let nothing : Degrees = record { whole = None; diameter = None; length = None } in
    let none : c.degrees_in.result.whole ≡ None =
    ap (λ (d : Degrees). d.whole) c.degrees_in.ensures
    ∙ ap (λ (gs : List Degrees). whole_of (get_or gs 0 nothing)) c.as_slice.ensures.value
    ∙ none_first p.degrees.items
    (λ g at. no_degree i d _ is.degrees.counts 0 g is.degrees.are_counts (is.degrees.each 0 g at)) in
    told_false c.is_some-right.result (λ so. true_false (sym so ∙ c.is_some-right.ensures ∙ ap is_some none))
    c.if-prove.true
