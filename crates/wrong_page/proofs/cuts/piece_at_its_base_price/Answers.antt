use Rattle.std.proofs.Common.{◌≡◌, subst, List, [], ◌∷◌, Option, Some}
use Rattle.buck_value.specs.Sheet.{SheetParts}
use Rattle.buck_book_postings.specs.Entry.{EntryParts}
use Rattle.buck_book_postings.specs.History.{prices_at}
use Rattle.buck_book_journal.specs.Journal.{JournalParts}
use Rattle.buck_page_figures.specs.Figures.{base_sheet}
use Rattle.buck_page_figures.specs.Pieces.{IsCut, IsToldAt}
use Rattle.buck_page_figures.specs.declared.figures.Cut.{Cut as Told}
use Rattle.buck_page_figures.specs.declared.figures.Place.{Place}
use Rattle.wrong_page.proofs.Postings.{found_there, is_entry, off_base}
use Rattle.wrong_page.proofs.cuts.piece_at_its_base_price.Goals as goal

pub prove-unreachable-requires : goal.prove-unreachable-requires
prove-unreachable-requires c =
    let i = c.args.figures.now.instruction.now in
    let j = c.args.journal.now in
    let e = c.args.entry.now in
    let place : Place = record { journal = 0; at = 1 } in
    let cut = c.in-Ok-Some.cut in
    let p = c.in-Some.piece.now in
    let told : IsToldAt c.args.planner.now c.args.figures.now.journals.now place (Some cut) =
    subst (λ (o : Option Told). IsToldAt c.args.planner.now c.args.figures.now.journals.now place o)
    c.in-Ok-Some.field-0-is c.in-Ok-Some.ensures.told in
    let told_of : IsToldAt c.args.planner.now (j ∷ []) place (Some cut) =
    subst (λ (js : List JournalParts). IsToldAt c.args.planner.now js place (Some cut)) c.requires.of told in
    let there =
    found_there cut.pieces.items c.deref.result.now 0 p c.deref.ensures.value c.in-Some.ensures.lookup.0
    c.in-Some.ensures.lookup.1 in
    let same : cut.entry.now ≡ e =
    is_entry j.entries c.requires.after_a_demand.0 e cut.entry.now c.requires.after_a_demand.1 told_of.1 in
    let is : IsCut (base_sheet i) (prices_at j.sheets e.version) e cut =
    subst (λ (x : EntryParts). IsCut (base_sheet i) (prices_at j.sheets x.version) x cut) same
    (subst (λ (b : SheetParts). IsCut b (prices_at j.sheets cut.entry.now.version) cut.entry.now cut)
    c.requires.shown.base_is told_of.2) in
    off_base i j.sheets e cut p c.requires.off is there c.if-prove.true
