use Rattle.std.proofs.Common.{ap}
use Rattle.buckfleet_trial_draws.proofs.drawn.below.Goals as goal

pub returns-clause-state : goal.returns-clause-state
returns-clause-state c = ap (λ p. p.1) c.next_word-word.ensures
