use Rattle.std.proofs.Common.{refl}
use Rattle.buckfleet_trial.proofs.RunLemmas.{all_drawn}
use Rattle.buckfleet_trial.proofs.trial.made_in_parts.Goals as goal

pub returns-clause-drawn : goal.returns-clause-drawn
returns-clause-drawn g c =
    all_drawn c.args.input.now.instruction c.args.input.now.lists.items c.args.combinations.now c.args.starts.now
    c.in_ok-planned.planned.items c.as_slice.result.now c.in_ok-drawn.drawn.items c.in_ok-drawn.drawn.items
    c.as_slice.ensures.value refl c.in_ok-planned.ensures c.in_ok-drawn.ensures.ok
