use Rattle.buck_fleet_world.proofs.Words.{rules, sym, on_err_weaker, Allowed}
use Rattle.buck_fleet_world.proofs.Kept.{keeps_act}
use Rattle.buck_fleet_world.proofs.world.World.step.Goals as goal

pub invariant_of-self : goal.invariant_of-self
invariant_of-self g c =
    let allowed : Allowed c.args.self.now.world c.args.event = search rules in
    let left =
    on_err_weaker c.act.result (λ l. (λ j. record { history = l.0 j; front = l.1 j; harvesters = l.2 j }))
    c.act.ensures.left in
    keeps_act _ c.args.event c.act.new.book.rule c.act.new.book.capacity _ c.act.result c.self.invariant
    (rw (sym c.self.view_is) at allowed)
    c.act.ensures.capacity c.act.ensures.ok c.act.ensures.room left
