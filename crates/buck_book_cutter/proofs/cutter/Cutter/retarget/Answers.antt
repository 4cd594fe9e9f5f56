use Rattle.std.proofs.Common.{rules, sym, Some}
use Rattle.buck_book_postings.specs.declared.posting.Posting.TheVariants.{Demand}
use Rattle.buck_book_cutter.proofs.Adding.{added, still_by_rule}
use Rattle.buck_book_cutter.proofs.cutter.Cutter.retarget.Goals as goal

pub returns-clause-retargeted : goal.returns-clause-retargeted
returns-clause-retargeted g c =
    let ready = c.in_ok-ready.ensures in
    let same = ready.content.history in
    let demand = (rw (same, ready.targets) at c.commit_demand.ensures.demand) in
    rw (sym c.self.view_is) (record {
      who = c.requires.harvester;
      valid = (rw (same, ready.targets) at ready.ready.valid);
      demand_is = demand;
      added = added _ _ _ _ _ (Some c.in_ok-ready.ready.next) (cc demand)
          (rw (same, ready.targets) at ready.ready.to_add.next_is c.args.harvester) (ready.given c.args.harvester)
          (rw same at c.commit_demand.ensures.instruction) (rw same at c.commit_demand.ensures.sheets)
          (rw same at c.commit_demand.ensures.postings);
    })

pub returns-clause-given : goal.returns-clause-given
returns-clause-given g c =
    still_by_rule g.F.Fn c.args.self.now c.commit_demand.new.self (Demand c.commit_demand.result)
    (rw c.self.view_is at c.entries-lawful.ensures.lawful) (search rules) (returns-clause-retargeted g c).added
