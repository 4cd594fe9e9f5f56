use Rattle.std.proofs.Common.{◌≡◌, ◌++◌, take}
use Rattle.std.specs.List.{flat_map}
use Rattle.buck_apt.specs.Text.{assortment_text}
use Rattle.buck_apt.proofs.text.put_assortments.Given as goal

abbrev pub invariant-loop-assortment : goal.invariant-loop-assortment
invariant-loop-assortment l =
    l.out.items ≡ l.initial.out.items ++ flat_map assortment_text (take l.assortment-index l.assortments)
