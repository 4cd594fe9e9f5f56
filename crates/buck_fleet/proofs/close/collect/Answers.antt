use Rattle.buck_fleet.proofs.Words.{arith, rules, sym, ◌∙◌, length-set, map-set, length-map}
use Rattle.buck_fleet.proofs.Places.{none_in, one_more_in, in_range}
use Rattle.buck_fleet.proofs.close.collect.Goals as goal

pub loop-seat-init : goal.loop-seat-init
loop-seat-init g c = record {
  taken = none_in _ _ _ _ (rw (sym (length-map c.args.kept.now.items (λ v. v.items))) at c.requires.crew) c.requires.empty
      c.requires.share.0 c.requires.share.1;
  number = search rules;
}

pub index_mut-its_place-requires : goal.index_mut-its_place-requires
index_mut-its_place-requires g c =
    let w = in_range _ _ _ _ _ _ _ c.loop-seat.invariant.taken
    (rw (← c.seat.view_is) at c.in-Some.ensures.items) in
    omega (arith, w, length-map c.loop-seat.kept.items (λ v. v.items))

pub loop-seat-preserved-in-Some : goal.loop-seat-preserved-in-Some
loop-seat-preserved-in-Some g c = record {
  taken = one_more_in _ _ _ _ _ _ _ c.loop-seat.invariant.taken (rw (← c.seat.view_is) at c.in-Some.ensures.items)
      _ _ _ _ (map-set (λ v. v.items) _ _ _) c.merge.ensures.parts c.merge.ensures.amount c.seat.invariant.0;
  number = length-set _ _ _ ∙ c.loop-seat.invariant.number;
}

pub loop-seat-preserved : goal.loop-seat-preserved
loop-seat-preserved g c = record {
  taken = one_more_in _ _ _ _ _ _ _ c.loop-seat.invariant.taken (rw (← c.seat.view_is) at c.in-Some.ensures.items)
      _ _ _ _ (map-set (λ v. v.items) _ _ _) c.merge.ensures.parts c.merge.ensures.amount c.seat.invariant.0;
  number = length-set _ _ _ ∙ c.loop-seat.invariant.number;
}
