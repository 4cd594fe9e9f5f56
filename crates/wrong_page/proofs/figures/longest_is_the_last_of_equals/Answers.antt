use Rattle.wrong_page.proofs.Postings.{not_last}
use Rattle.wrong_page.proofs.figures.longest_is_the_last_of_equals.Goals as goal

pub prove-unreachable-requires : goal.prove-unreachable-requires
prove-unreachable-requires c =
    not_last c.args.instruction.now c.args.journal.now c.from_ref.result.now c.in-Ok.figures c.requires.two c.in-Some.right
    c.from_ref.ensures.value c.in-Ok.ensures.figures c.in-Some.is c.if-prove.true
