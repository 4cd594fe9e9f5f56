use Rattle.buck_fleet_world.proofs.Words.{◌≡◌, ◌+◌, ◌-◌, ◌≤◌, ℕ, get_or, subst, sym, ap, ◌∙◌, arith, refl, get_or_read, Answered, newcomer}
use Rattle.buck_fleet_world.proofs.turns.is_nobody_answered.Goals as goal

pub returns-then-is_answered : goal.returns-then-is_answered
returns-then-is_answered c = (
  grind arith,
  λ none.
      let low : 1 ≤ c.loop-x.x-index + 1 = omega arith in
      let high = c.loop-x-test.true in
      let same : c.loop-x.x-index + 1 - 1 ≡ c.loop-x.x-index = omega arith in
      let is = get_or_read c.args.harvesters.now c.loop-x.x-index c.x-item.result high c.x-item.is newcomer in
      let answered : (get_or c.args.harvesters.now c.loop-x.x-index newcomer).stage ≡ Answered =
      ap (λ x. x.stage) (sym is) ∙ c.if-is_answered.ensures.0 refl in
      absurd (none (c.loop-x.x-index + 1) (low, omega arith)
      (subst (λ (k : ℕ). (get_or c.args.harvesters.now (k) newcomer).stage ≡ Answered) (sym same) answered)),
)
