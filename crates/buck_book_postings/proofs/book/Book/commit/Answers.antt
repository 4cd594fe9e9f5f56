use Rattle.buck_book_postings.proofs.Words.{◌+◌, sym, ap, Cut, PlanParts, plan_of, ReadyParts, entry_of}
use Rattle.buck_book_postings.proofs.Books.{keeps_more, entry_follows, entry_after}
use Rattle.buck_book_postings.proofs.book.Book.commit.Goals as goal

pub invariant_of-self : goal.invariant_of-self
invariant_of-self g c =
    let x = c.plan.inside in
    let p : PlanParts = plan_of x.stem.value x.sheet.value x.cutting.value.logs.items x.worth in
    let ready = rw (sym c.self.view_is, sym c.plan.view_is) at c.requires.ready in
    let number = ap (λ n. n + 1) (rw (sym c.self.view_is) at c.calls-number.ensures) in
    let version = rw (sym c.self.view_is) at c.version-version.ensures.version in
    rw (
      c.add.ensures.postings,
      c.add.ensures.sheets,
      c.add.ensures.prices,
      c.sharing.ensures,
      number,
      version,
      ap (λ (x : ReadyParts). x.next) c.ready.view_is,
    )
    (keeps_more _ _ _ _ _ (λ h. Cut (entry_of h c.args.harvester p)) _ _ _ c.self.invariant ready.to_add.below
    c.requires.harvester (entry_follows _ c.args.harvester p c.plan.invariant.0 ready.sheet_in_force)
    (ready.to_add.next_is c.args.harvester)
    (entry_after _ c.args.harvester p _ _ ready.sheet_in_force (rw (sym c.plan.view_is) at c.after_plan.ensures)))
