-- Which runs can't be made of what C asks.
use Rattle.std.proofs.Common.{◌≡◌, ℕ, zero, suc, ◌+◌, ◌<◌, List, [], ◌∷◌, ◌++◌, length, take, get_or, sym, ap, subst, arith}
use Rattle.std.specs.List.{AllZip}
use Rattle.std.proofs.lemmas.List.{take_more}
use Rattle.buckfleet_trial.proofs.Each.{zip_more}

-- a list with a place of which nothing is made isn't one of which all are
pub never_at : {X Y : Type 0} (R : X → Y → Type 0) (xs : List X) (ys : List Y) (k : ℕ) (d : X) → k < length xs
    → ((y : Y) → R (get_or xs k d) y → ⊥) → AllZip R xs ys → ⊥
never_at R [] ys k d lt never all = omega (arith, lt)
never_at R (x ∷ xs) [] k d lt never all = all
never_at R (x ∷ xs) (y ∷ ys) zero d lt never all = never y all.0
never_at R (x ∷ xs) (y ∷ ys) (suc k) d lt never all = never_at R xs ys k d (omega (arith, lt)) never all.1

-- the only one of a list
pub one_only : {X : Type 0} (xs : List X) (x : X) → length xs ≡ 1 → x ≡ get_or xs 0 x → xs ≡ x ∷ []
one_only [] x one is = absurd (omega (arith, one))
one_only (y ∷ []) x one is = ap (λ z. z ∷ []) (sym is)
one_only (y ∷ z ∷ zs) x one is = absurd (omega (arith, one))

-- one more is made
pub one_made : {X Y : Type 0} (R : X → Y → Type 0) (xs : List X) (ys new : List Y) (k : ℕ) (d : X) (y : Y)
    → k < length xs → AllZip R (take k xs) ys → R (get_or xs k d) y → new ≡ ys ++ y ∷ []
    → AllZip R (take (k + 1) xs) new
one_made R xs ys new k d y lt so_far one is =
    subst (λ l. AllZip R (take (k + 1) xs) l) (sym is)
    (subst (λ l. AllZip R l (ys ++ y ∷ [])) (sym (take_more xs k d lt))
    (zip_more R (take k xs) ys (get_or xs k d) y so_far one))
