use Rattle.buck_book_postings.proofs.Words.{sym, ◌∙◌, ap, DemandParts}
use Rattle.buck_book_postings.proofs.running.Running.after.Goals as goal

pub returns-in_ok-clone-in-Demand : goal.returns-in_ok-clone-in-Demand
returns-in_ok-clone-in-Demand c =
    let targets = ap (λ x. x.items) c.in_ok-clone-in-Demand.ensures.cases
    ∙ ap (λ (d : DemandParts). d.targets) c.demand.view_is in
    rw c.in-Demand.is
    (c.after_demand.ensures c.args.sheet.now.instruction c.in-Demand.demand (sym targets)
    (rw c.in-Demand.is at c.requires.countable))
