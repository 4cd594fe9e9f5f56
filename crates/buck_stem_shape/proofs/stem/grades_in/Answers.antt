use Rattle.std.proofs.Common.{◌≡◌, ◌+◌, [], ◌∷◌, ℕ, List, get_or, drop, arith}
use Rattle.std.proofs.lemmas.List.{drop_more, drop_all}
use Rattle.buck_stem_shape.proofs.Zones.{rising_at, one_grade, next_zone, past_zone, joined, moved, passed}
use Rattle.buck_stem_shape.proofs.stem.grades_in.Goals as goal
use Rattle.buck_stem_shape.proofs.stem.grades_in.Goals.{then-from-zone, else-from-zone}

pub returns-then-b-zone : goal.returns-then-b-zone
returns-then-b-zone c = λ g one.
    let l = c.loop-zone in
    let zones = c.args.zones.now in
    joined (l.invariant.found g one)
    (one_grade l.grade l.from c.args.b g (get_or zones l.zone-index (0, 0)).0 (drop l.zone-index zones)
    (rising_at 0 l.zone-index zones c.requires.rising c.loop-zone-test.true) l.invariant.below c.if-b-zone.true)
    (c.with.ensures g one)

pub loop-zone-preserved : goal.loop-zone-preserved
loop-zone-preserved c =
    let l = c.loop-zone in
    let zones : List (ℕ × ℕ) = c.args.zones.now in
    let z : ℕ × ℕ = get_or zones l.zone-index (0, 0) in
    let after : List (ℕ × ℕ) = drop (l.zone-index + 1) zones in
    let rest : drop l.zone-index zones ≡ z ∷ after = drop_more zones l.zone-index (0, 0) c.loop-zone-test.true in
    let r = rw rest at (rising_at 0 l.zone-index zones c.requires.rising c.loop-zone-test.true) in
    let graded = c.requires.graded l.zone-index (0, 0) c.loop-zone-test.true in
    elim c.if-from-zone.branch [
      | then-from-zone w ↦ record {
        below = omega (arith, w.from-is, c.if-b-zone.false);
        grade = graded;
        found = λ g one. rw (w.from-is, w.grades-is)
            (moved (rw rest at (l.invariant.found g one))
            (next_zone l.grade l.from c.args.b g z after r w.if-from-zone.true c.if-b-zone.false)
            (w.with-grades.ensures g one));
      }
      | else-from-zone w ↦ record {
        below = omega (arith, w.from-is, l.invariant.below);
        grade = graded;
        found = λ g one. rw (w.from-is, w.grades-is)
            (passed (rw rest at (l.invariant.found g one))
            (past_zone l.grade l.from c.args.b g z after w.if-from-zone.false));
      }
    ]

pub returns : goal.returns
returns c = λ g one.
    let l = c.loop-zone in
    joined (l.invariant.found g one)
    (rw (drop_all l.zone-index c.args.zones.now c.loop-zone-test.false)
    (one_grade l.grade l.from c.args.b g c.args.b [] tt l.invariant.below (omega arith)))
    (c.with-2.ensures g one)
