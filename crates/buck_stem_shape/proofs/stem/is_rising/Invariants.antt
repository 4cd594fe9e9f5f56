use Rattle.std.proofs.Common.{drop, ◌↔◌, ◌≤◌, ◌^◌}
use Rattle.buck_stem_shape.specs.Stem.{IsRisingFrom}
use Rattle.buck_stem_shape.proofs.stem.is_rising.Given as goal

abbrev pub invariant-loop-zone : goal.invariant-loop-zone
invariant-loop-zone l = record {
  small : l.low ≤ 2 ^ 32;
  rest : IsRisingFrom 0 l.zones ↔ IsRisingFrom l.low (drop l.zone-index l.zones);
}
