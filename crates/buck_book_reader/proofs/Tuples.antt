-- Numbers two and three at a time.
use Rattle.buck_book_reader.proofs.Words.{◌≡◌, ℕ, ◌+◌, ◌<◌, ◌&&◌, List, ◌∷◌, length, drop, get_or, ap, arith, drop-cons, add-one, zones_of, is_zone, are_zones, is_log, are_logs, logs_of}

here : (xs : List ℕ) (i d : ℕ) → i < length xs → drop i xs ≡ get_or xs i d ∷ drop (i + 1) xs
here xs i d lt = rw add-one (drop-cons xs i d lt)

pub two : (xs : List ℕ) (i d : ℕ) → i + 1 < length xs
    → drop i xs ≡ get_or xs i d ∷ get_or xs (i + 1) d ∷ drop (i + 2) xs
two xs i d lt = grind (arith, here)

pub three : (xs : List ℕ) (i d : ℕ) → i + 2 < length xs
    → drop i xs ≡ get_or xs i d ∷ get_or xs (i + 1) d ∷ get_or xs (i + 2) d ∷ drop (i + 3) xs
three xs i d lt = grind (arith, two, here)

-- the next two, and the next three
module _ (xs : List ℕ) (i : ℕ) where
  pub next_zone : (low : ℕ) → i + 1 < length xs
      → (are_zones low (drop i xs)
      ≡ (is_zone low (get_or xs i 0) (get_or xs (i + 1) 0) && are_zones (get_or xs i 0 + 1) (drop (i + 2) xs)))
      × (zones_of (drop i xs) ≡ (get_or xs i 0, get_or xs (i + 1) 0) ∷ zones_of (drop (i + 2) xs))
  next_zone low lt = (ap (are_zones low) (two xs i 0 lt), ap zones_of (two xs i 0 lt))

  pub next_log : i + 2 < length xs
      → (are_logs (drop i xs)
      ≡ (is_log (get_or xs i 0) (get_or xs (i + 1) 0) (get_or xs (i + 2) 0) && are_logs (drop (i + 3) xs)))
      × (logs_of (drop i xs)
      ≡ record { start = get_or xs i 0; length = get_or xs (i + 1) 0; assortment = get_or xs (i + 2) 0 }
      ∷ logs_of (drop (i + 3) xs))
  next_log lt = (ap are_logs (three xs i 0 lt), ap logs_of (three xs i 0 lt))
