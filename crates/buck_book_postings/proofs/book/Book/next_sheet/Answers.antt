use Rattle.buck_book_postings.proofs.Words.{◌+◌, eq-eqb, sym, rules, arith, cuts_since_end}
use Rattle.buck_book_postings.proofs.Books.{passed_cut, is_next_sheet}
use Rattle.buck_book_postings.proofs.book.Book.next_sheet.Goals as goal

pub sheet-requires-clause-told : goal.sheet-requires-clause-told
sheet-requires-clause-told g c = (
  _,
  passed_cut _ _ _ _ _ c.self.view_is c.self.invariant c.requires.below c.args.plan.now _ _ c.requires.in_force
      c.in_ok-after.ensures c.after_plan.ensures 0,
)

pub returns-clause-next : goal.returns-clause-next
returns-clause-next g c =
    let i = c.self.inside.instruction.value in
    let last = eq-eqb (cuts_since_end i c.self.inside.postings.items + 1) i.period (grind arith) in
    rw (sym c.self.view_is) (λ harvester. (
      last,
      is_next_sheet g.F.Fn _ _ _ _ (c.in_ok-sheet.ensures _
          (passed_cut _ _ _ _ _ c.self.view_is c.self.invariant c.requires.below c.args.plan.now _ _ c.requires.in_force
          c.in_ok-after.ensures c.after_plan.ensures harvester)) last,
    ))

pub returns-clause-given : goal.returns-clause-given
returns-clause-given g c = rw (sym c.self.view_is) (search (rules, passed_cut))
