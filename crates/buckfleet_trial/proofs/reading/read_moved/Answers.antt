use Rattle.buckfleet_trial.proofs.ReadLemmas.{valid_wanted}
use Rattle.buckfleet_trial.proofs.reading.read_moved.Goals as goal

pub with_targets-requires : goal.with_targets-requires
with_targets-requires g c =
    valid_wanted c.args.input.instruction c.in_ok-targets.targets.items c.as_slice.result.now c.as_slice.ensures.value
    c.in_ok-targets.ensures.valid
