-- the same seats after a run
use Rattle.buck_fleet.proofs.Words.{◌++◌, common_steps, ◌≡◌, ℕ, suc, ◌<◌, ◌==◌, cond, List, [], ◌∷◌, length, get_or, take, refl, ap, ◌∙◌, arith, sum_by, sum_by-cons, SeatParts, parts_of, IsCrew, FleetParts, IsSeatIn, HasRun, HaveRun}
use Rattle.buck_fleet.proofs.Words.{stems_at, Arc, Vec, Global, Stem}

-- sums over seats that are alike
sums_same : (f : SeatParts → ℕ) (xs ys : List SeatParts) → length ys ≡ length xs
    → ((i : ℕ) (d : SeatParts) → i < length xs → f (get_or ys i d) ≡ f (get_or xs i d)) → sum_by f ys ≡ sum_by f xs
sums_same f [] [] len e = refl
sums_same f [] (y ∷ ys) len e = absurd (omega arith)
sums_same f (x ∷ xs) [] len e = absurd (omega arith)
sums_same f (x ∷ xs) (y ∷ ys) len e =
    let h : f y ≡ f x = e 0 x (omega arith) in
    let t = sums_same f xs ys (omega arith) (λ i d lt. e (suc i) d (omega arith)) in
    grind (arith, sum_by-cons)

pub parts_same : (xs ys : List SeatParts) → length ys ≡ length xs
    → ((i : ℕ) (d : SeatParts) → i < length xs → (get_or ys i d).parts ≡ (get_or xs i d).parts)
    → parts_of ys ≡ parts_of xs
parts_same xs ys len e = sums_same (λ s. s.parts) xs ys len e

pub crew_same : (n : ℕ) (xs ys : List SeatParts) → length ys ≡ length xs
    → ((i : ℕ) (d : SeatParts) → i < length xs → (get_or ys i d).harvester ≡ (get_or xs i d).harvester) → IsCrew n xs
    → IsCrew n ys
crew_same n xs ys len e crew = record {
  within = omega arith;
  once = λ h pos le. sums_same (λ s. cond (s.harvester == h) 1 0) xs ys len
      (λ i d lt. ap (λ (n : ℕ). cond (n == h) 1 0) (e i d lt)) ∙ crew.once h pos le;
}

-- each seat has run
pub have_run : (f : FleetParts) (lists : List (Vec (Arc Stem Global) Global)) (xs ys zs : List SeatParts) (n : ℕ)
    → n ≡ length xs → length ys ≡ length xs
    → ((i : ℕ) (d : SeatParts) → i < length xs
    → IsSeatIn f (get_or ys i d) × HasRun (stems_at lists i) (get_or xs i d) (get_or ys i d))
    → HaveRun f lists xs (take n (ys ++ zs))
have_run f lists xs ys zs n all number each = rw is record {
  number = number;
  of_fleet = λ k d lt. (each k d (omega (arith, lt, number))).0;
  same_crew = λ n crew. crew_same n xs ys number (λ i d lt. (each i d lt).1.beginning.1.kept.same_harvester) crew;
  same_parts = parts_same xs ys number (λ i d lt. (each i d lt).1.beginning.1.kept.same_parts);
  runs = λ i d lt. (each i d lt).1;
}
  where
    is : take n (ys ++ zs) ≡ ys
    is = grind (arith, common_steps)
