use Rattle.std.proofs.Common.{drop}
use Rattle.buckfleet_trial.specs.Lines.{AreDrawnFor}
use Rattle.buckfleet_trial.proofs.Lined.{ArePut}
use Rattle.buckfleet_trial.proofs.trial.text_of.Given as goal

abbrev pub invariant-loop-k : goal.invariant-loop-k
invariant-loop-k l = record {
  put : ArePut l.input.instruction l.input.lists.items l.combinations l.starts l.made.best l.initial.out.items l.k
      l.out.items;
  rest : AreDrawnFor l.input.instruction l.input.lists.items (drop l.k l.combinations) l.starts l.rest;
}
