use Rattle.std.proofs.Common.{◌≡◌, take, map}
use Rattle.buckfleet_trial_owned.proofs.owned.prices_of.Given as goal

abbrev pub invariant-loop-sheet : goal.invariant-loop-sheet
invariant-loop-sheet l = map (λ w. w.items) l.made.items ≡ map (λ a. a.value.prices) (take l.sheet-index l.sheets)
