use Rattle.std.proofs.Common.{◌≡◌, ◌+◌, ◌-◌, IsPermutation, length}
use Rattle.buckfleet_trial_draws.specs.Draws.{shuffled_from, state_after}
use Rattle.buckfleet_trial_draws.proofs.drawn.shuffle.Given as goal

abbrev pub invariant-loop-after : goal.invariant-loop-after
invariant-loop-after g l = record {
  long : length l.list ≡ length l.initial.list;
  list : shuffled_from (length l.list + 1 - l.after) l.random l.list
      ≡ shuffled_from (length l.initial.list) l.initial.random l.initial.list;
  state : state_after (length l.list + 1 - l.after) l.random ≡ state_after (length l.initial.list) l.initial.random;
  permutation : IsPermutation l.initial.list l.list;
}
