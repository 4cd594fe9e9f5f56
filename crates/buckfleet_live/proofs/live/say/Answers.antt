use Rattle.std.proofs.Common.{refl}
use Rattle.buckfleet_live.proofs.RunLemmas.{all_said}
use Rattle.buckfleet_live.proofs.live.say.Goals as goal

pub returns-in-Err : goal.returns-in-Err
returns-in-Err g c = (refl, all_said _ _ _ _ (rw c.hear.ensures at c.in_ok-put.ensures) c.in-Err.ensures.bytes)
