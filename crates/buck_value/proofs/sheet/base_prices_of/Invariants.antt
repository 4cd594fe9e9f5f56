use Rattle.std.proofs.Common.{◌≡◌, take}
use Rattle.std.specs.List.{flat_map}
use Rattle.buck_value.proofs.sheet.base_prices_of.Given as goal

abbrev pub invariant-loop-assortment : goal.invariant-loop-assortment
invariant-loop-assortment l = l.prices.items ≡ flat_map (λ a. a.prices) (take l.assortment-index l.assortment-items)
