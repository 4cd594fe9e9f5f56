-- A stable sort of what rises: what is greater comes first, and of equals what came first.
use Rattle.std.proofs.Common.{◌≡◌, ℕ, suc, zero, ◌+◌, ◌<◌, ◌≤◌, ◌⊎◌, inl, inr, List, [], ◌∷◌, length, get_or, refl, sym, subst, arith, add-one, nat_cmp}
use Rattle.std.specs.Prelude.{Bool, true, false, cond, map}
use Rattle.std.specs.List.{AllByRecursion, filter}
use Rattle.std.specs.List.Sorted.{IsSortedBy, IsStableBy, ties}
use Rattle.std.specs.Ordering.{is_lt}
use Rattle.std.specs.Cmp.{IsStrictWeakOrder, nat_cmp_total}
use Rattle.std.proofs.lemmas.Bool.{cases_lt}
use Rattle.std.proofs.lemmas.List.Sorted.{IsStrictWeakOrder-flip, ranks_by}
use Rattle.std.proofs.lemmas.Bool.Decides.{nat_tests}
use Rattle.buckfleet_trial_wishes.specs.inner.Asking.{Rises}

-- what one number says of some items, of what is made of them
pub rises_of : {X Y : Type 0} (n : Y → ℕ) (f : X → Y) (xs : List X) → Rises n (map f xs) → Rises (λ x. n (f x)) xs
rises_of n f [] up = tt
rises_of n f (x ∷ xs) up = (low xs up.0, rises_of n f xs up.1)
  where
    low : (ys : List _) → AllByRecursion (λ y. n (f x) < n y) (map f ys) → AllByRecursion (λ y. n (f x) < n (f y)) ys
    low [] all = tt
    low (y ∷ ys) all = (all.0, low ys all.1)

module _ {X : Type 0} (n : X → ℕ) (t : X → Bool) where
  low_if : (x y : X) (l : List X) (b : Bool) → n x < n y → AllByRecursion (λ z. n x < n z) l
      → AllByRecursion (λ z. n x < n z) (cond b (y ∷ l) l)
  low_if x y l true lt all = (lt, all)
  low_if x y l false lt all = all

  low_kept : (x : X) (xs : List X) → AllByRecursion (λ z. n x < n z) xs
      → AllByRecursion (λ z. n x < n z) (filter t xs)
  low_kept x [] all = tt
  low_kept x (y ∷ xs) all = low_if x y (filter t xs) (t y) all.0 (low_kept x xs all.1)

  up_if : (x : X) (l : List X) (b : Bool) → AllByRecursion (λ z. n x < n z) l → Rises n l → Rises n (cond b (x ∷ l) l)
  up_if x l true all up = (all, up)
  up_if x l false all up = up

  -- those that pass a test rise as well
  up_kept : (xs : List X) → Rises n xs → Rises n (filter t xs)
  up_kept [] up = tt
  up_kept (x ∷ xs) up = up_if x (filter t xs) (t x) (low_kept x xs up.0) (up_kept xs up.1)

  up_rest : (x : X) (l : List X) (b : Bool) → Rises n (cond b (x ∷ l) l) → Rises n l
  up_rest x l true up = up.1
  up_rest x l false up = up

  next_up : (xs : List X) (k : ℕ) (d : X) → suc k < length xs → t (get_or xs k d) ≡ true
      → t (get_or xs (suc k) d) ≡ true → Rises n (filter t xs) → n (get_or xs k d) < n (get_or xs (suc k) d)
  next_up [] k d lt p q up = absurd (omega (arith, lt))
  next_up (a ∷ []) k d lt p q up = absurd (omega (arith, lt))
  next_up (a ∷ b ∷ xs) zero d lt p q up =
      (subst (Rises n) (λ i. cond (p i) (a ∷ cond (q i) (b ∷ filter t xs) (filter t xs))
      (cond (q i) (b ∷ filter t xs) (filter t xs))) up).0.0
  next_up (a ∷ b ∷ xs) (suc k) d lt p q up =
      next_up (b ∷ xs) k d (omega (arith, lt)) p q (up_rest a (filter t (b ∷ xs)) (t a) up)

module _ {X : Type 0} (worth : X → ℕ) where
  -- what goes before another
  abbrev pub above : X → X → Bool
  above x y = is_lt (nat_cmp (worth y) (worth x))

  no_more : (x y : X) → above x y ≡ false → worth x ≤ worth y
  no_more x y h = grind (arith, nat_tests)

  tied : (x y : X) → worth y ≡ worth x → ties above x y ≡ true
  tied x y h = grind (arith, nat_tests)

  pub above_ranks : IsStrictWeakOrder above
  above_ranks = IsStrictWeakOrder-flip (λ x y. is_lt (nat_cmp (worth x) (worth y))) (ranks_by nat_cmp_total worth)

module _ {X : Type 0} (worth place : X → ℕ) where
  pub ranked : (xs ys : List X) → Rises place xs → IsSortedBy (above worth) ys → IsStableBy (above worth) xs ys
      → (k : ℕ) (d : X) → k + 1 < length ys
      → (worth (get_or ys (k + 1) d) < worth (get_or ys k d))
      ⊎ ((worth (get_or ys (k + 1) d) ≡ worth (get_or ys k d)) × (place (get_or ys k d) < place (get_or ys (k + 1) d)))
  ranked xs ys up sorted stable k d lt =
      let x = get_or ys k d in
      let y = get_or ys (k + 1) d in
      let falls : worth y ≤ worth x = no_more worth y x (sorted k d (omega arith) lt) in
      elim (cases_lt (worth y) (worth x)) [
        | inl less ↦ inl less
        | inr not_less ↦ (
            let same : worth y ≡ worth x = omega (arith, falls, not_less) in
            let tie = tied worth x in
            let next : suc k ≡ k + 1 = sym (add-one k) in
            inr (
              same,
              subst (λ m. place x < place (get_or ys m d)) next
                  (next_up place (ties (above worth) x) ys k d (omega (arith, lt)) (tie x refl)
                  (subst (λ m. ties (above worth) x (get_or ys m d) ≡ true) (sym next) (tie y same))
                  (subst (Rises place) (sym (stable x)) (up_kept place (ties (above worth) x) xs up))),
            ))
      ]
