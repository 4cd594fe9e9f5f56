use Rattle.std.proofs.Common.{◌≡◌, ◌+◌, ◌≤◌, length}
use Rattle.buck_record.specs.bytes.Record.{pieces, items_of}
use Rattle.buck_record.specs.inner.Front.{kept}
use Rattle.buck_record.proofs.EachLemmas.{reads_at}
use Rattle.buck_record.proofs.bytes.reading.pieces_kept.Given as goal

-- what is held and the pieces that are left give the items, and each piece that was read took a byte
abbrev pub invariant-loop-piece : goal.invariant-loop-piece
invariant-loop-piece l = record {
  given : reads_at l.every l.slots l.held.items l.read (pieces l.rest) ≡ kept l.every l.slots (items_of l.fn.bytes);
  within : l.read + length l.rest ≤ length l.fn.bytes;
}

abbrev pub decreases-loop-piece : goal.decreases-loop-piece
decreases-loop-piece l = length l.rest
