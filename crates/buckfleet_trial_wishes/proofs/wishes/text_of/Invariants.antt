use Rattle.std.proofs.Common.{◌≡◌, ◌++◌, take}
use Rattle.std.specs.List.{flat_map}
use Rattle.buckfleet_trial_wishes.specs.WishLine.{whole_line, wishes_head}
use Rattle.buckfleet_trial_wishes.proofs.wishes.text_of.Given as goal

abbrev pub invariant-loop-one : goal.invariant-loop-one
invariant-loop-one l = l.out.items
    ≡ wishes_head l.starts ++ (whole_line l.starts l.whole ++ flat_map (λ t. t.line.items) (take l.one-index l.told))
