use Rattle.buckfleet_trial_sweep.proofs.Words.{rules, history_of}
use Rattle.buckfleet_trial_sweep.proofs.cutting.run_line.Goals as goal

pub returns-clause-ok : goal.returns-clause-ok
returns-clause-ok c = record {
  history = history_of c.in_ok-instruction.instruction.value c.in_ok-journal.journal;
  instruction = search rules;
  has_cut = (rw c.as_slice-lists.ensures.value at c.in_ok-journal.ensures.ok);
  is_line = search rules;
}
