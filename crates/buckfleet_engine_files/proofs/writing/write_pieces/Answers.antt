use Rattle.std.proofs.Common.{ℕ, List, Err, ◌∙◌, ap, subst}
use Rattle.buckfleet_engine_files.specs.Written.{IsWritten}
use Rattle.buckfleet_engine_files.proofs.WrittenLemmas.{part_stopped}
use Rattle.buckfleet_engine_files.proofs.writing.write_pieces.Goals as goal

pub returns-in_err-write_text : goal.returns-in_err-write_text
returns-in_err-write_text g c =
    let contents = g.W.Write.contents in
    part_stopped _ _ _ (λ piece. piece.items) c.args.pieces.now c.loop-piece.piece-index c.piece-item.result _ _
    c.loop-piece-test.true c.from_residual.ensures.1 c.loop-piece.invariant
    (subst (λ (text : List ℕ). IsWritten (contents c.loop-piece.writer) (contents c.write_text.new.writer) text
    (Err c.in_err-write_text.field-0.0))
    (c.as_slice.ensures.value ∙ ap (λ piece. piece.items) c.piece-item.is) c.in_err-write_text.ensures)
