use Rattle.buck_fleet_world.proofs.Words.{subst, arith, IsInstruction, BookParts}
use Rattle.buck_fleet_world.proofs.Kept.{keeps_opening}
use Rattle.buck_fleet_world.proofs.world.World.open.Goals as goal

pub invariant_of-result : goal.invariant_of-result
invariant_of-result g c =
    let b = c.in_ok-book.book in
    let e = c.in_ok-book.ensures in
    let capacity = c.in_ok-book.ensures.capacity in
    let valid =
    subst (λ (x : BookParts g.row.F.Denot). IsInstruction x.history.instruction)
    c.book.view_is c.book.invariant.is_book.valid in
    keeps_opening b.rule b.capacity b.history c.in_ok-harvesters.harvesters.items c.args.instruction.value
    c.args.harvesters
    e.instruction e.sheets e.postings c.in_ok-harvesters.ensures valid (omega arith) c.requires.harvesters.1
