use Rattle.std.proofs.Common.{◌≡◌, take}
use Rattle.buck_record.proofs.bytes.reading.to_items.Given as goal

abbrev pub invariant-loop-piece : goal.invariant-loop-piece
invariant-loop-piece l = l.held.items ≡ take l.piece-index l.pieces
