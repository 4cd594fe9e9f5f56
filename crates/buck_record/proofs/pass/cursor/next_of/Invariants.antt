use Rattle.std.proofs.Common.{List}
use Rattle.buck_record.specs.Item.{ItemParts}
use Rattle.buck_record.specs.pass.Cursor.{HasItemsIn}
use Rattle.buck_record.proofs.pass.cursor.next_of.Given as goal

-- only items in none of the slots were passed over
abbrev pub invariant-loop : goal.invariant-loop
invariant-loop l = (items : List ItemParts) → HasItemsIn l.slots l.rest items → HasItemsIn l.slots l.fn.text items
