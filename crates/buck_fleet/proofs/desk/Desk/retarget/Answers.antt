use Rattle.buck_fleet.proofs.Words.{arith, refl, ap, ◌∙◌, Demand, demand_of, rules, Some}
use Rattle.buck_fleet.proofs.Answered.{is_kept, next, reply_to}
use Rattle.buck_fleet.proofs.desk.Desk.retarget.Goals as goal

pub prepare_demand-requires : goal.prepare_demand-requires
prepare_demand-requires g c = record { answers = c.requires.answers _ }

pub returns-clause-reply : goal.returns-clause-reply
returns-clause-reply g c =
    let h = c.prepare_demand.new.self.history in
    let added = c.commit_demand-demand.ensures in
    let position = c.len-position.result in
    reply_to h _ _ _ _ _ c.seat.view_is
    (added.demand ∙ ap (λ ts. demand_of h c.seat.inside.harvester ts) c.in_ok-ready.ensures.targets)
    (omega (arith, next h c.commit_demand-demand.new.self.history _ added.postings added.instruction))
    (is_kept _ _ _ c.reserve.new.self.items _ (record { position = position; entry = Demand c.sharing.result })
    c.seat.view_is c.reserve.ensures.items (λ t. record { position = position; entry = Demand (c.sharing.ensures t) })
    record {
      same_harvester = refl;
      kept_are = c.keep.ensures.kept;
      same_parts = c.keep.ensures.parts;
      seen_rises = c.keep.ensures.rises;
    })

pub returns-clause-shown : goal.returns-clause-shown
returns-clause-shown g c =
    let next = c.in_ok-ready.ready.next in
    (Some next, search rules, search rules)
