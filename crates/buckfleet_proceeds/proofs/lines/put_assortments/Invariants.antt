use Rattle.std.proofs.Common.{◌≡◌, ◌++◌, drop}
use Rattle.buckfleet_proceeds.specs.Text.{assortment_lines}
use Rattle.buckfleet_proceeds.proofs.lines.put_assortments.Given as goal

abbrev pub invariant-loop-at : goal.invariant-loop-at
invariant-loop-at l =
    l.out.items ++ assortment_lines l.at (drop l.at l.assortments) (drop l.at l.cut) (drop l.at l.best)
    ≡ l.initial.out.items ++ assortment_lines 0 l.assortments l.cut l.best
