use Rattle.std.proofs.Common.{◌≡◌, ◌≤◌, length}
use Rattle.buck_record.specs.bytes.Record.{pieces}
use Rattle.buck_record.proofs.pass.cursor.cut_piece.Given as goal

-- only parts that are left out were passed over
abbrev pub invariant-loop-rest : goal.invariant-loop-rest
invariant-loop-rest l = record {
  same : pieces l.fn.text ≡ pieces l.rest;
  within : length l.rest ≤ length l.fn.text;
}

abbrev pub decreases-loop-rest : goal.decreases-loop-rest
decreases-loop-rest l = length l.rest
