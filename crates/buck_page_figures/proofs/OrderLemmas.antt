-- Classes that lack logs, in the order of how many logs they lack.
use Rattle.std.proofs.Common.{◌≡◌, ℕ, ◌+◌, ◌*◌, ◌<◌, ◌≤◌, ◌==◌, List, Bool, true, false, cond, get_or, ltb, refl, ap, ◌∙◌, inl, inr, arith, Ordering, Less, Equal, Greater}
use Rattle.std.specs.Cmp.{IsStrictWeakOrder}
use Rattle.std.specs.Fn.{Called, ComparesAs}
use Rattle.std.specs.List.Sorted.{IsNonDecreasingBy, IsSortedBy, IsStableBy, ties}
use Rattle.std.specs.Ordering.{is_lt, nat_cmp}
use Rattle.std.proofs.Math.Nat.{le_of_mul-le-mul_right, mul-le-mul_right}
use Rattle.std.proofs.lemmas.Bool.{cases_lt, le-ltb, ltb-true, ltb-false}
use Rattle.std.proofs.lemmas.Fn.{always_returns_same}
use Rattle.std.proofs.lemmas.List.Sorted.{IsStrictWeakOrder-by_number, ties_stay_sorted}
use Rattle.buck_apt_instruction.specs.Instruction.{InstructionParts}
use Rattle.buck_page_figures.specs.Lacking.{AreMostFirst, gap_of, place_of}
use Rattle.buck_page_figures.specs.declared.lack.Lack.{Lack}
use denote.Param.Members.{Mut}
use denote.Ref.{Bor}

-- a comparison of numbers that says less
less_is : (a b : ℕ) → is_lt (nat_cmp a b) ≡ ltb a b
less_is a b = go (ltb a b) (a == b)
  where
    go : (less same : Bool) → is_lt (cond less Less (cond same Equal Greater)) ≡ less
    go true same = refl
    go false true = refl
    go false false = refl

-- of one class more logs lack than of another
abbrev has_more : Lack → Lack → Bool
has_more l m = ltb (gap_of m * l.targets) (gap_of l * m.targets)

chain : (gx gy gz tx ty tz : ℕ) → 0 < ty → gx * ty ≤ gy * tx → gy * tz ≤ gz * ty → gx * tz ≤ gz * tx
chain gx gy gz tx ty tz some first second =
    le_of_mul-le-mul_right {k = ty} (omega (arith, mul-le-mul_right tz first, mul-le-mul_right tx second)) some

order : IsStrictWeakOrder has_more
order = record {
  one_way = λ l m more. le-ltb (gap_of l * m.targets) (gap_of m * l.targets)
      (omega (arith, ltb-true (gap_of m * l.targets) (gap_of l * m.targets) more));
  chain = λ l m n first second. le-ltb (gap_of n * l.targets) (gap_of l * n.targets)
      (chain (gap_of l) (gap_of m) (gap_of n) l.targets m.targets n.targets m.some.0
      (ltb-false (gap_of m * l.targets) (gap_of l * m.targets) first)
      (ltb-false (gap_of n * m.targets) (gap_of m * n.targets) second));
}

module _ {F : Type 0} {g : Mut F (Bor Lack × (Bor Lack × Unit {0})) Ordering} {f : F} where
  -- a stable sort of those that stand in the order of their classes
  pub sorted_most_first : (i : InstructionParts) (xs ys : List Lack)
      → ((lt : Lack → Lack → Bool) → IsStrictWeakOrder lt → ComparesAs g lt f → IsSortedBy lt ys)
      → ((lt : Lack → Lack → Bool) → IsStrictWeakOrder lt → ComparesAs g lt f → IsStableBy lt xs ys)
      → ((a : Bor Lack × (Bor Lack × Unit {0})) (r : Ordering) (f' : F) → Called g f a r f'
      → (r ≡ nat_cmp (gap_of a.1.0.now * a.0.now.targets) (gap_of a.0.now * a.1.0.now.targets)) × (f' ≡ f))
      → IsNonDecreasingBy (place_of i) xs
      → AreMostFirst i ys
  sorted_most_first i xs ys sorted stable says rising k d lt =
      let compares : ComparesAs g has_more f =
      always_returns_same g (λ a r. is_lt r ≡ has_more a.0.now a.1.0.now) f
      (λ a r f' called.
      (ap is_lt (says a r f' called).0 ∙ less_is (gap_of a.1.0.now * a.0.now.targets) (gap_of a.0.now * a.1.0.now.targets), (says a r f' called).1)) in
      let x = get_or ys k d in
      let y = get_or ys (k + 1) d in
      let up : gap_of y * x.targets ≤ gap_of x * y.targets =
      ltb-false (gap_of x * y.targets) (gap_of y * x.targets) (sorted has_more order compares k d (omega arith) lt) in
      elim (cases_lt (gap_of y * x.targets) (gap_of x * y.targets)) [
        | inl less ↦ inl less
        | inr same ↦ (
            let tie : ties has_more x y ≡ true =
            rw (
              le-ltb (gap_of y * x.targets) (gap_of x * y.targets) same,
              le-ltb (gap_of x * y.targets) (gap_of y * x.targets) up,
            )
            refl in
            let by = λ (l m : Lack). ltb (place_of i l) (place_of i m) in
            let places : by y x ≡ false =
            ties_stay_sorted by has_more (IsStrictWeakOrder-by_number (place_of i)) order xs ys
            (λ n e low high. le-ltb (place_of i (get_or xs (n + 1) e)) (place_of i (get_or xs n e)) (rising n (n + 1) e (omega arith) high))
            (stable has_more order compares) k d lt tie in
            inr (omega (arith, up, same), ltb-false (place_of i y) (place_of i x) places))
      ]
