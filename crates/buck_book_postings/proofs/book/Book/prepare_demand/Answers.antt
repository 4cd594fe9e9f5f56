use Rattle.buck_book_postings.proofs.Words.{rules, refl, Some, sym, ap, arith, Demand, demand_of}
use Rattle.buck_book_postings.proofs.Told.{version_low}
use Rattle.buck_book_postings.proofs.Books.{ready_to_add, passed_demand, is_next_sheet}
use Rattle.buck_book_postings.proofs.book.Book.prepare_demand.Goals as goal

pub after_demand-requires : goal.after_demand-requires
after_demand-requires g c = grind (arith, version_low)

pub sheet-requires-clause-told : goal.sheet-requires-clause-told
sheet-requires-clause-told g c = (
  _,
  passed_demand _ _ _ _ _ c.self.view_is c.self.invariant (c.if-is_full.ensures.below refl)
      c.args.targets.now.value.items _ _ (rw (c.deref.ensures, c.as_slice.ensures.value, c.deref-2.ensures) at c.in-Ok.ensures.valid) c.in_ok-after.ensures
      (rw (ap (λ x. x.items) c.in_ok-clone.ensures.cases) at c.after_demand.ensures) 0,
)

pub returns-clause-ready : goal.returns-clause-ready
returns-clause-ready g c =
    let same = ap (λ x. x.items) c.in_ok-clone-2.ensures.cases in
    let room = c.in_ok-reserve.ensures in
    let passed =
    passed_demand _ _ _ _ _ c.self.view_is c.self.invariant (c.if-is_full.ensures.below refl)
    c.args.targets.now.value.items _ _ (rw (c.deref.ensures, c.as_slice.ensures.value, c.deref-2.ensures) at c.in-Ok.ensures.valid) c.in_ok-after.ensures
    (rw (ap (λ x. x.items) c.in_ok-clone.ensures.cases) at c.after_demand.ensures) in
    record {
      to_add = rw same
          (ready_to_add _ _ (λ h harvester. Demand (demand_of h harvester c.args.targets.now.value.items))
          (Some c.in_ok-sheet.field-0.value) c.reserve.ensures.content (search rules)
          (rw (sym c.self.view_is) (λ harvester.
          (refl, is_next_sheet g.F.Fn _ _ _ _ (c.in_ok-sheet.ensures _ (passed harvester)) refl)))
          room.posting room.sheet);
      valid = search rules;
    }

pub returns-clause-given : goal.returns-clause-given
returns-clause-given g c =
    let passed =
    passed_demand _ _ _ _ _ c.self.view_is c.self.invariant (c.if-is_full.ensures.below refl)
    c.args.targets.now.value.items _ _ (rw (c.deref.ensures, c.as_slice.ensures.value, c.deref-2.ensures) at c.in-Ok.ensures.valid) c.in_ok-after.ensures
    (rw (ap (λ x. x.items) c.in_ok-clone.ensures.cases) at c.after_demand.ensures) in
    rw (sym c.self.view_is) (λ harvester. (c.in_ok-sheet.ensures _ (passed harvester)).answers)
