use Rattle.std.proofs.Common.{take}
use Rattle.buck_page_figures.specs.Pieces.{ArePieces}
use Rattle.buck_page_figures.proofs.cuts.pieces_of.Given as goal

abbrev pub invariant-loop-log : goal.invariant-loop-log
invariant-loop-log l = ArePieces l.base l.prices l.stem (take l.log-index l.logs) l.pieces.items
