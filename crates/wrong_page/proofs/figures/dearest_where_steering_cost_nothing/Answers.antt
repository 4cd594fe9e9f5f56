use Rattle.std.proofs.Common.{sym, ◌∙◌}
use Rattle.wrong_page.proofs.Postings.{no_dearest, told_false}
use Rattle.wrong_page.proofs.figures.dearest_where_steering_cost_nothing.Goals as goal

pub prove-unreachable-requires : goal.prove-unreachable-requires
prove-unreachable-requires c =
    told_false c.is_some-right.result
    (λ so. no_dearest c.args.instruction.now c.args.journal.now c.from_ref.result.now c.args.demand.now c.in-Ok.figures
    c.from_ref.ensures.value c.requires.only c.in-Ok.ensures.figures
    (sym c.is_some-right.ensures ∙ so)) c.if-prove.true
