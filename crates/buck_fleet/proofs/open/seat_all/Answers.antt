use Rattle.buck_fleet.proofs.Words.{arith, common_steps}
use Rattle.buck_fleet.proofs.Opened.{one_more, opened}
use Rattle.buck_fleet.proofs.open.seat_all.Goals as goal

pub loop-place-preserved : goal.loop-place-preserved
loop-place-preserved g c = let i = c.loop-place.invariant in record {
  seated = one_more _ _ _ _ _ _ _ _ _ _ _ _ _ i.seated c.in-Some.ensures.items c.make.ensures
      c.split_off-own.ensures.parts (omega arith) c.push_reserved.ensures.items c.split_off-own.ensures.parts_left;
  room = omega arith;
  amount = omega arith;
  kept_number = grind (arith, common_steps);
  kept_room = omega arith;
  empty = grind (arith, common_steps);
}

pub returns-clause-seats : goal.returns-clause-seats
returns-clause-seats g c = opened _ _ _ _ _ _ c.loop-place.invariant.seated (grind arith) (omega arith)
