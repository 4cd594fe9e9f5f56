use Rattle.std.proofs.Common.{take}
use Rattle.std.specs.Io.KnownBytes.{Appends}
use Rattle.buckfleet_engine_text.specs.Text.{joined}
use Rattle.buckfleet_engine_files.proofs.writing.write_pieces.Given as goal

abbrev pub invariant-loop-piece : goal.invariant-loop-piece
invariant-loop-piece g l =
    Appends (g.W.Write.contents l.initial.writer) (g.W.Write.contents l.writer) (joined (take l.piece-index l.pieces))
