use Rattle.buck_fleet_world.proofs.Words.{rules, ◌≡◌, inl, Some, List, ℕ, sym, ap, ◌∙◌, subst, PlanParts, HistoryParts, AreTargets, Cut, Demand, IsNext, IsReadyFor, IsPlanUnder, entry_of, demand_of, Planned, is_at}
use Rattle.buck_fleet_world.proofs.Committed.{posting_added, version_is, tried_stale}
use Rattle.buck_fleet_world.proofs.acts.act.Goals as goal

pub returns-in-Ok-clause-ok : goal.returns-in-Ok-clause-ok
returns-in-Ok-clause-ok g c =
    let h = c.in-Try.h in
    let xs = c.args.harvesters.now.items in
    let plan = c.in-Planned-answer.plan in
    let allowed = rw c.in-Try.is at c.requires.allowed in
    let holds = (c.requires.kept.sound.world.fits h allowed.0).plan in
    let same = c.in-Ok.ensures.content.history in
    let was : (is_at xs h).stage ≡ Planned c.in-Planned.plan = search rules in
    let is : (is_at xs h).stage ≡ Planned plan = sym c.in-Planned-answer.ensures.was in
    let both : Planned c.in-Planned.plan ≡ Planned plan = sym was ∙ is in
    let one_plan : c.in-Planned.plan ≡ plan = cc both in
    let made =
    subst (λ (p : PlanParts). IsReadyFor c.prepare.new.self c.in-Ok.ready p) one_plan c.in-Ok.ensures.ready in
    let added = c.commit-entry.ensures in
    rw c.in-Try.is (
      plan,
      is,
      inl (
        version_is c.args.book.now.history c.prepare.new.self.history (is_at xs h).seen plan (holds plan is) same
            made.sheet_in_force,
        posting_added c.args.book.now.history c.prepare.new.self.history _ xs _ c.args.front.now h
            (λ t. Cut (entry_of t h plan)) (Cut c.commit-entry.result) c.in-Ok.ready.next same
            (made.to_add.next_is h) (ap Cut added.entry) added.postings added.sheets added.instruction
            c.in-Planned-answer.ensures.now,
      ),
    )

pub returns-in-Err-Stale-clause-ok : goal.returns-in-Err-Stale-clause-ok
returns-in-Err-Stale-clause-ok g c =
    let h = c.in-Try.h in
    let xs = c.args.harvesters.now.items in
    let plan = c.in-Planned.plan in
    let allowed = rw c.in-Try.is at c.requires.allowed in
    let holds = (c.requires.kept.sound.world.fits h allowed.0).plan in
    let refused = rw c.in-Err-Stale.field-0-is at c.in-Err-Stale.ensures.refused in
    let is : (is_at xs h).stage ≡ Planned plan = search rules in
    rw c.in-Try.is (
      plan,
      is,
      tried_stale c.args.book.now.history _ xs _ c.args.front.now h plan
          (search rules) (holds plan is) refused.2 (search rules),
    )

pub returns-in-Ok-prepare_in_force-clause-ok : goal.returns-in-Ok-prepare_in_force-clause-ok
returns-in-Ok-prepare_in_force-clause-ok g c =
    let h = c.in-Locked.h in
    let plan = c.in_ok-plan-in-Locked.plan in
    let made = c.in-Ok-prepare_in_force.ensures in
    let added = c.commit-entry-in-Ok-prepare_in_force.ensures in
    rw c.in-Locked.is (
      plan,
      c.in_ok-plan-in-Locked.ensures.stem,
      subst (λ (v : ℕ). IsPlanUnder c.args.book.now.history v plan)
          c.version.ensures.version c.in_ok-plan-in-Locked.ensures.under,
      posting_added c.args.book.now.history c.prepare_in_force.new.self.history _ c.args.harvesters.now.items _
          c.args.front.now h (λ t. Cut (entry_of t h plan)) (Cut c.commit-entry-in-Ok-prepare_in_force.result)
          c.in-Ok-prepare_in_force.ready.next made.content.history (made.ready.to_add.next_is h) (ap Cut added.entry)
          added.postings added.sheets added.instruction c.answer-stage.ensures.now,
    )

pub returns-in-Ok-prepare_demand-clause-ok : goal.returns-in-Ok-prepare_demand-clause-ok
returns-in-Ok-prepare_demand-clause-ok g c =
    let h = c.in-Retarget.h in
    let targets = c.in-Retarget.targets.value.items in
    let m = c.prepare_demand.new.self.history in
    let made = c.in-Ok-prepare_demand.ensures in
    let next = c.in-Ok-prepare_demand.ready.next in
    let same = made.content.history in
    let added = c.commit_demand-demand.ensures in
    rw c.in-Retarget.is (
      subst (λ (s : HistoryParts). AreTargets s.instruction targets) same
          (subst (λ (ts : List ℕ). AreTargets m.instruction ts) made.targets made.ready.valid),
      posting_added c.args.book.now.history m _ c.args.harvesters.now.items _ c.args.front.now h
          (λ t. Demand (demand_of t h targets)) (Demand c.commit_demand-demand.result) (Some next) same
          (subst (λ (ts : List ℕ). IsNext m (Demand (demand_of m h ts)) (Some next)) made.targets
          (made.ready.to_add.next_is h))
          (ap Demand added.demand ∙ ap (λ (ts : List ℕ). Demand (demand_of m h ts)) made.targets)
          added.postings added.sheets added.instruction c.answer-stage-in-Ok-prepare_demand.ensures.now,
    )
