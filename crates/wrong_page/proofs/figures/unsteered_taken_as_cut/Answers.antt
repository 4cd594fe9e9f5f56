use Rattle.std.proofs.Common.{arith}
use Rattle.wrong_page.proofs.Postings.{outvalued, told}
use Rattle.wrong_page.proofs.figures.unsteered_taken_as_cut.Goals as goal

pub prove-unreachable-requires : goal.prove-unreachable-requires
prove-unreachable-requires c =
    let i = c.args.instruction.now in
    let j = c.args.journal.now in
    let d = c.requires.after_a_demand.0 in
    let e = c.args.entry.now in
    let f = c.in-Ok.figures in
    let less =
    outvalued i j d e f c.requires.outvalued (told i j c.from_ref.result.now _ f c.from_ref.ensures.value c.requires.after_a_demand.1 c.in-Ok.ensures.figures) in
    omega (arith, less, c.if-prove.true)
