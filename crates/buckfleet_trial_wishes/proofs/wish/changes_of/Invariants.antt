use Rattle.std.proofs.Common.{take}
use Rattle.std.specs.List.{AllZip}
use Rattle.buckfleet_trial_wishes.specs.WishLine.{IsChangeOf, changes_in}
use Rattle.buckfleet_trial_wishes.proofs.wish.changes_of.Given as goal

abbrev pub invariant-loop-k : goal.invariant-loop-k
invariant-loop-k l = AllZip IsChangeOf (changes_in l.at (take l.k l.wholes) (take l.k l.runs)) l.changes.items
