use Rattle.std.proofs.Common.{arith}
use Rattle.wrong_page.proofs.Held.{worth_more}
use Rattle.wrong_page.proofs.grades.worth_with_grades.Goals as goal

pub prove-unreachable-requires : goal.prove-unreachable-requires
prove-unreachable-requires c =
    let less =
    worth_more c.args.instruction.now c.args.journal.now c.from_ref.result.now c.args.entry.now c.in-Ok.figures
    c.in-Ok-grade_free_of.free c.from_ref.ensures.value c.requires.only c.requires.held c.in-Ok.ensures.figures
    c.in-Ok-grade_free_of.ensures in
    omega (arith, less, c.if-prove.true)
