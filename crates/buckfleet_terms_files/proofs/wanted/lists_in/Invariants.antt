use Rattle.std.proofs.Common.{◌≡◌, drop}
use Rattle.buck_record.specs.Reading.{with_front}
use Rattle.buckfleet_terms_files.specs.Targets.{lists_from}
use Rattle.buckfleet_terms_files.proofs.wanted.lists_in.Given as goal

-- what is held and the items that are left give the lists
abbrev pub invariant-loop-list : goal.invariant-loop-list
invariant-loop-list l =
    with_front l.lists.items (lists_from l.list (drop l.list l.items.items)) ≡ lists_from 0 l.items.items
