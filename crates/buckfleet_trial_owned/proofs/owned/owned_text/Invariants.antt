use Rattle.std.proofs.Common.{drop}
use Rattle.buckfleet_trial.specs.Lines.{AreDrawnFor}
use Rattle.buckfleet_trial_owned.proofs.Owning.{AreOwnedPut}
use Rattle.buckfleet_trial_owned.proofs.owned.owned_text.Given as goal

abbrev pub invariant-loop-k : goal.invariant-loop-k
invariant-loop-k l = record {
  put : AreOwnedPut l.own l.input.instruction l.input.lists.items l.combinations l.starts l.owned.best
      l.initial.out.items l.k l.out.items;
  rest : AreDrawnFor l.input.instruction l.input.lists.items (drop l.k l.combinations) l.starts l.rest;
}
