use Rattle.std.proofs.Common.{arith, ◌≡◌, ℕ, sym, subst, ap, ◌∙◌, List, length, take, ◌++◌}
use Rattle.std.proofs.Math.Seq.{take-append_seam}
use Rattle.buck_fleet.specs.Seat.{SeatParts}
use Rattle.buck_fleet.specs.Crew.{IsCrew}
use Rattle.fixture_plays.proofs.play.seats_played.Goals as goal

-- what was written to all seats stands in the list
written : (k : ℕ) (new rest : List SeatParts) → k ≡ length new → take k (new ++ rest) ≡ new
written k new rest e = ap (λ (n : ℕ). take n (new ++ rest)) e ∙ take-append_seam new rest

pub returns-clause-same_crew : goal.returns-clause-same_crew
returns-clause-same_crew g c = λ n crew.
    let same = c.as_mut_slice.ensures.value in
    let long : length c.as_mut_slice.result.now ≡ length c.args.seats.items =
    ap (λ (xs : List SeatParts). length xs) same in
    let e : c.args.seats.len ≡ length c.play_all.new.seats =
    omega (arith, c.args.seats.ok, c.play_all.ensures.number, long) in
    let before : IsCrew n c.as_mut_slice.result.now = subst (λ (xs : List SeatParts). IsCrew n xs) (sym same) crew in
    subst (λ (xs : List SeatParts). IsCrew n xs) (sym (written _ c.play_all.new.seats _ e))
    (c.play_all.ensures.same_crew n before)
