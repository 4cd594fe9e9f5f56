-- where two lists of replies differ
use Rattle.buck_fleet.proofs.Words.{◌≡◌, ◌≢◌, ℕ, zero, suc, ◌+◌, ◌<◌, ◌≤◌, List, [], ◌∷◌, ◌++◌, length, take, drop, get_or, drop-cons, add-one, refl, ap, ◌∙◌, arith, nat_tests, append_assoc, common_steps, drop_all, slice_get}
use Rattle.buck_fleet.proofs.Words.{slice_get_cases, slice_get_within, none-some, Some, take_one_more, Posting, harvester_of, Kept, DifferFirstAt, replies_from}

-- the first k that are kept are the harvester's replies among the first i postings
abbrev pub AreAlike : ℕ → List Kept → List Posting → ℕ → ℕ → Type 0
AreAlike h kept entries k i =
    (k ≤ i) × (k ≤ length kept) × (replies_from h 0 entries ≡ take k kept ++ replies_from h i (drop i entries))

take_seam : (k : ℕ) (xs ys : List Kept) → k ≤ length xs → take k (take k xs ++ ys) ≡ take k xs
take_seam k xs ys le = grind (arith, common_steps)

get_seam : (k : ℕ) (xs ys : List Kept) → k ≤ length xs → slice_get (take k xs ++ ys) k ≡ slice_get ys 0
get_seam zero xs ys le = refl
get_seam (suc k) [] ys le = absurd (omega arith)
get_seam (suc k) (x ∷ xs) ys le = get_seam k xs ys (omega arith)

-- up to k they are alike, and there the replies go on with others, or end
differ : (k : ℕ) (kept replies ys : List Kept) → k ≤ length kept → replies ≡ take k kept ++ ys
    → slice_get kept k ≢ slice_get ys 0 → DifferFirstAt (k + 1) kept replies
differ k kept replies ys le is ne = grind (arith, take_seam, get_seam)

module _ (h k i : ℕ) (kept : List Kept) (entries : List Posting) (alike : AreAlike h kept entries k i) where
  -- more is kept than the harvester's postings
  pub more_kept : k < length kept → length entries ≤ i → DifferFirstAt (k + 1) kept (replies_from h 0 entries)
  more_kept lt past =
      differ k kept _ _ alike.1 (alike.2 ∙ ap (λ l. take k kept ++ replies_from h i l) (drop_all i entries past))
      (grind (arith, slice_get_cases, none-some))

  module _ (x : Posting) (lt : i < length entries) (at : x ≡ get_or entries i x) where
    -- a posting of the harvester is the next reply
    reply_at : harvester_of x ≡ h → replies_from h i (drop i entries)
        ≡ (record { position = i; entry = x }) ∷ replies_from h (i + 1) (drop (i + 1) entries)
    reply_at own = grind (arith, add-one, drop-cons, nat_tests)

    pub other_kept : harvester_of x ≡ h → slice_get kept k ≢ Some record { position = i; entry = x }
        → DifferFirstAt (k + 1) kept (replies_from h 0 entries)
    other_kept own ne = differ k kept _ _ alike.1 (alike.2 ∙ ap (λ l. take k kept ++ l) (reply_at own)) ne

    pub goes_on : (k' : ℕ) → k' ≡ k + 1 → harvester_of x ≡ h
        → slice_get kept k ≡ Some record { position = i; entry = x } → AreAlike h kept entries k' (i + 1)
    goes_on k' is own there = rw is (
      omega arith,
      omega (arith, slice_get_within kept k _ there),
      rw (take_one_more kept k _ there, append_assoc) (alike.2 ∙ ap (λ l. take k kept ++ l) (reply_at own)),
    )

    pub passes : (k' : ℕ) → k' ≡ k → harvester_of x ≢ h → AreAlike h kept entries k' (i + 1)
    passes k' is other = grind (arith, add-one, drop-cons, nat_tests)
