use Rattle.std.proofs.Common.{rules, sym, refl}
use Rattle.std.proofs.lemmas.Option.{IfSome_then}
use Rattle.buck_book_postings.specs.declared.posting.Posting.TheVariants.{Cut}
use Rattle.buck_book_cutter.proofs.Adding.{added, still_by_rule}
use Rattle.buck_book_cutter.proofs.cutter.Cutter.commit.Goals as goal

pub returns-clause-cut : goal.returns-clause-cut
returns-clause-cut g c =
    let ready = c.in_ok-ready.ready in
    let same = c.in_ok-ready.ensures.content.history in
    let done = c.commit.ensures in
    let entry = (rw same at done.entry) in
    rw (sym c.self.view_is) (record {
      who = c.requires.harvester;
      plan = c.args.plan;
      is_plan = c.worth-best.ensures.best;
      same_stem = refl;
      sheet_in_force = rw (sym c.self.view_is) at c.requires.in_force;
      entry_is = entry;
      added = added _ _ _ _ _ ready.next (cc entry)
          (rw same at c.in_ok-ready.ensures.ready.to_add.next_is c.args.harvester)
          (IfSome_then ready.next c.in_ok-ready.ensures.given (λ s answers. answers c.args.harvester))
          (rw same at done.instruction) (rw same at done.sheets) (rw same at done.postings);
    })

pub returns-clause-given : goal.returns-clause-given
returns-clause-given g c =
    still_by_rule g.F.Fn c.args.self.now c.commit.new.self (Cut c.commit.result)
    (rw c.self.view_is at c.entries-lawful.ensures.lawful) (search rules) (returns-clause-cut g c).added
