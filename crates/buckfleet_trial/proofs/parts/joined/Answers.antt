use Rattle.std.proofs.Common.{Ok, [], ◌∷◌, ◌++◌, sym, subst}
use Rattle.buckfleet_trial.specs.Parts.{AreJoined}
use Rattle.buckfleet_trial.proofs.Each.{joined_more}
use Rattle.buckfleet_trial.proofs.parts.joined.Goals as goal

pub loop-part-preserved : goal.loop-part-preserved
loop-part-preserved g c =
    subst (λ r. AreJoined (c.loop-part.yielded ++ r ∷ []) c.append.new.self.items) (sym c.in_ok-part.was)
    (subst (λ l. AreJoined (c.loop-part.yielded ++ Ok c.in_ok-part.part ∷ []) l) (sym c.in_ok-append.ensures.items)
    (joined_more c.loop-part.yielded c.in_ok-part.part c.loop-part.all.items c.loop-part.invariant))
