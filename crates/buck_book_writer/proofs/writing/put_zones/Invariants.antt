use Rattle.buck_book_writer.proofs.Words.{◌≡◌, ◌++◌, take, spelled, zone_numbers}
use Rattle.buck_book_writer.proofs.writing.put_zones.Given as goal

abbrev pub invariant-loop-zone : goal.invariant-loop-zone
invariant-loop-zone l = l.out.items ≡ l.initial.out.items ++ spelled (zone_numbers (take l.zone-index l.zones))
