-- What is known of an answer by its status.
use Rattle.std.proofs.Common.{◌≡◌, ◌⊎◌, ◌<◌, ◌≤◌, ℕ, List, length, take, drop, inl, inr, sym, ap, ◌∙◌, arith}
use Rattle.std.proofs.lemmas.List.{take-append-le, take_all}
use Rattle.buck_c_calls.specs.Room.{IsPutAs, IsPut}

-- a text that was put fits
pub done_fits : {X : Type 0} (Answer : List X → ℕ → Type 0) (old new : List X) (written result : ℕ)
    → IsPut Answer old new written result → result ≡ 0 → length old < written → ⊥
done_fits Answer old new written result (items, status, a, put) done lt =
    omega (arith, sym done ∙ (put.too_small (omega (arith, put.number_is, lt))).1)

pub fits_or_not : (a b : ℕ) → (a ≤ b) ⊎ (b < a)
fits_or_not a b = grind arith

-- but for 6, the status is the answer's own
pub but_6 : {X : Type 0} (items : List X) (status : ℕ) (old new : List X) (written result : ℕ) → (result ≡ 6 → ⊥)
    → IsPutAs items status old new written result → status ≡ result
but_6 items status old new written result other put = elim (fits_or_not (length items) (length old)) [
  | inl fits ↦ sym (put.fits fits).1
  | inr small ↦ absurd (other (put.too_small small).1)
]

pub own_status : {X : Type 0} (items : List X) (status : ℕ) (old new : List X) (written result : ℕ) → result < 6
    → IsPutAs items status old new written result → status ≡ result
own_status items status old new written result lt put =
    but_6 items status old new written result (λ e. omega (arith, lt, e)) put

-- an answer that can't be of a status isn't
pub never_of : {X : Type 0} (Answer : List X → ℕ → Type 0) (old new : List X) (written result s : ℕ) → s < 6
    → ((items : List X) (status : ℕ) → Answer items status → status ≡ s → ⊥)
    → IsPut Answer old new written result → result ≡ s → ⊥
never_of Answer old new written result s lt never (items, status, a, put) is =
    never items status a (own_status items status old new written result (omega (arith, lt, is)) put ∙ is)

-- what is put stands at the start of the room
pub at_start : (items old new right : List ℕ) (status written result : ℕ) → IsPutAs items status old new written result
    → (result ≡ 6 → ⊥) → right ≡ take written new → right ≡ items
at_start items old new right status written result put other taken = elim (fits_or_not (length items) (length old)) [
  | inl fits ↦
      taken ∙ ap (λ n. take n new) put.number_is
      ∙ ap (λ (xs : List ℕ). take (length items) xs) (put.fits fits).0
      ∙ take-append-le (length items) items (drop (length items) old) (omega arith)
      ∙ take_all (length items) items (omega arith)
  | inr small ↦ absurd (other (put.too_small small).1)
]
