use Rattle.buckfleet_live.proofs.Words.{◌≡◌, drop, are_low, in_turn}
use Rattle.buckfleet_live.proofs.request.are_low.Given as goal

abbrev pub invariant-loop-number : goal.invariant-loop-number
invariant-loop-number l = in_turn l.first l.second l.third (drop l.number-index l.numbers) ≡ are_low l.numbers
