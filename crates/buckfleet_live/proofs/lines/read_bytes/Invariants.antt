use Rattle.buckfleet_live.proofs.Words.{◌≡◌, vec_capacity, HasRead}
use Rattle.buckfleet_live.proofs.lines.read_bytes.Given as goal

abbrev pub invariant-bytes : goal.invariant-bytes
invariant-bytes g l = record {
  capacity : vec_capacity l.line ≡ vec_capacity l.fn.line;
  read : HasRead (g.R.Read.remaining l.fn.input) (g.R.Read.remaining l.input) l.line.items;
}
