use Rattle.std.proofs.Common.{◌+◌, ◌∙◌, refl, sym, ap, get_or, drop, arith}
use Rattle.std.proofs.lemmas.List.{drop_more}
use Rattle.buck_stem_shape.specs.Stem.{grade_from}
use Rattle.buck_stem_shape.proofs.Zones.{rising_at, grade_before, grade_past}
use Rattle.buck_stem_shape.proofs.points.runs.grade_end.Goals as goal

pub loop-zone-init : goal.loop-zone-init
loop-zone-init c = (1, λ y le. refl)

pub returns-then-x-zone : goal.returns-then-x-zone
returns-then-x-zone c = λ y le lt.
    let zones = c.args.zones.now in
    let i = c.loop-zone.zone-index in
    let start = (get_or zones i (0, 0)).0 in
    let so_far = c.loop-zone.invariant in
    let r = rising_at 0 i zones c.requires c.loop-zone-test.true in
    so_far.1 y le ∙ grade_before start so_far.0 y (drop i zones) r lt
    ∙ sym (so_far.1 c.args.x (omega arith) ∙ grade_before start so_far.0 c.args.x (drop i zones) r c.if-x-zone.true)

pub loop-zone-preserved : goal.loop-zone-preserved
loop-zone-preserved c =
    let zones = c.args.zones.now in
    let i = c.loop-zone.zone-index in
    let so_far = c.loop-zone.invariant in (
      (get_or zones i (0, 0)).1,
      λ y le.
          so_far.1 y le ∙ ap (λ zs. grade_from so_far.0 zs y) (drop_more zones i (0, 0) c.loop-zone-test.true)
          ∙ grade_past so_far.0 y (get_or zones i (0, 0)) (drop (i + 1) zones) (omega (arith, le, c.if-x-zone.false)),
    )
