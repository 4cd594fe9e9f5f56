use Rattle.buck_book_postings.proofs.Words.{◌+◌, Some, refl, sym, ◌∙◌, ap, Demand, ReadyDemandParts, demand_of}
use Rattle.buck_book_postings.proofs.Books.{keeps_more}
use Rattle.buck_book_postings.proofs.book.Book.commit_demand.Goals as goal

pub invariant_of-self : goal.invariant_of-self
invariant_of-self g c =
    let ready = rw (sym c.self.view_is) at c.requires.ready in
    let targets = ap (λ (x : ReadyDemandParts). x.targets) c.ready.view_is in
    let number = ap (λ n. n + 1) (rw (sym c.self.view_is) at c.calls-number.ensures) in
    let version = rw (sym c.self.view_is) at c.version-version.ensures.version in
    rw (
      c.add.ensures.postings,
      c.add.ensures.sheets,
      c.add.ensures.prices,
      c.sharing.ensures,
      number,
      version,
      c.ready.invariant.1 ∙ targets,
      ap (λ (x : ReadyDemandParts). x.next) c.ready.view_is,
    )
    (keeps_more _ _ _ _ _ (λ h. Demand (demand_of h c.args.harvester c.args.ready.targets)) (Some c.args.ready.next) _ _
    c.self.invariant ready.to_add.below c.requires.harvester
    (record { number_is_next = refl; version_in_force = refl; holds = ready.valid }, tt)
    (ready.to_add.next_is c.args.harvester)
    (c.after_demand.ensures _ _ (sym (c.ready.invariant.0 ∙ targets)) ready.valid))
