-- The numbers of four items.
use Rattle.std.specs.Prelude.{ℕ, List, Result, Ok}
use Rattle.buck_record.specs.Item.{ItemParts}
use Rattle.buck_record.specs.declared.slot.Slot.{Slot}
use Rattle.buck_record.specs.checking.Check.{◌>>=◌}
use Rattle.buck_record.specs.checking.Rules.{numbers_in}
use Rattle.buck_apt.specs.declared.fault.AptFault.{AptFault}
use Rattle.buck_apt.specs.declared.fault.AptFault.TheVariants.{Digits}

unfoldable pub four_in : Slot → Slot → Slot → Slot → List ItemParts
    → Result (List ℕ × List ℕ × List ℕ × List ℕ) AptFault
four_in a b c d items = do
  first ← numbers_in Digits a items
  second ← numbers_in Digits b items
  third ← numbers_in Digits c items
  fourth ← numbers_in Digits d items
  Ok (first, second, third, fourth)
