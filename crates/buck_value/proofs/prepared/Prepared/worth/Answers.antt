use Rattle.std.proofs.Common.{◌∙◌}
use Rattle.buck_value.proofs.Classes.{class_is_class, allowed_low, worth_by_class}
use Rattle.buck_value.proofs.prepared.Prepared.worth.Goals as goal

pub worth_in_class-requires-clause-class : goal.worth_in_class-requires-clause-class
worth_in_class-requires-clause-class c =
    let found = c.in_ok-found.ensures in rw found.class (class_is_class _ _ _ found.valid.valid found.allowed)

pub worth_in_class-requires-clause-top : goal.worth_in_class-requires-clause-top
worth_in_class-requires-clause-top c =
    let found = c.in_ok-found.ensures in rw found.top (allowed_low _ _ _ found.valid.valid found.allowed).2

pub worth_in_class-requires-clause-length : goal.worth_in_class-requires-clause-length
worth_in_class-requires-clause-length c =
    let found = c.in_ok-found.ensures in (allowed_low _ _ _ found.valid.valid found.allowed).1

pub returns-clause-worth : goal.returns-clause-worth
returns-clause-worth c =
    rw (← c.log-log.ensures, ← c.self.view_is)
    (c.worth_in_class.ensures ∙ worth_by_class _ _ _ _ _ c.in_ok-found.ensures.class c.in_ok-found.ensures.top)
