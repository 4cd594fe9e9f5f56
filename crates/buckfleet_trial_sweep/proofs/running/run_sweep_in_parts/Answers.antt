use Rattle.buckfleet_trial_sweep.proofs.Sweeps.{not_swept, swept}
use Rattle.buckfleet_trial_sweep.proofs.running.run_sweep_in_parts.Goals as goal

pub returns-in_err-input-clause-run : goal.returns-in_err-input-clause-run
returns-in_err-input-clause-run g c =
    let fault = c.in_err-input.ensures in
    not_swept g.R.Read.remaining c.args.stms.now c.args.task.now.combinations.items _ _ _ _ fault.seats
    c.from_residual.ensures.1 fault.refused fault.not_full

pub returns-clause-run : goal.returns-clause-run
returns-clause-run g c =
    let read = c.in_ok-input.ensures in
    swept g.R.Read.remaining c.args.stms.now c.args.task.now.combinations.items _ c.in_ok-input.input.instruction _ _ _ _
    read.seats read.instruction read.number read.lists
    (rw c.as_slice-combinations.ensures.value at c.write_table.ensures.run)
