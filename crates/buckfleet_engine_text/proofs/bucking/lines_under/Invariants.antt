use Rattle.std.proofs.Common.{◌≡◌, take}
use Rattle.buckfleet_engine_text.specs.inner.Text.{AreLines}
use Rattle.buckfleet_engine_text.proofs.bucking.lines_under.Given as goal

abbrev pub invariant-loop-stem : goal.invariant-loop-stem
invariant-loop-stem l = record {
  text : AreLines l.fn.sheet.value (take l.stem-index l.stems) l.text.items l.logs l.worth;
  planner : l.planner ≡ l.fn.sheet.value;
}
