-- The periods of a history: where the sheet of a version comes into force, and that it is right there if the history is
-- lawful.
use Rattle.std.proofs.Common.{◌≡◌, ℕ, zero, suc, ◌+◌, ◌-◌, ◌<◌, ◌≤◌, inl, inr, List, [], ◌∷◌, ◌++◌, length, take, slice_get, Some, refl, sym, subst, arith}
use Rattle.std.proofs.lemmas.Bool.{cases_Bool, cases_eq, cases_lt}
use Rattle.std.proofs.lemmas.Option.{slice_get_cases}
use Rattle.buck_apt_instruction.specs.Instruction.{InstructionParts, IsInstruction}
use Rattle.buck_value.specs.Sheet.{IsPriceAt}
use Rattle.buck_book_postings.specs.declared.posting.Posting.{Posting}
use Rattle.buck_book_postings.specs.History.{HistoryParts, IsLawful, PricesMeet, standing_of}
use Rattle.buck_book_postings.proofs.Ends.{true_false, take_one_more, ends_with_end, cuts_without, cuts_with_end, ends_without}
use Rattle.buck_book_postings.proofs.Alone.{base_meets, meets_from_alone, ClassAt, class_at}
use Rattle.buck_book_postings.proofs.Standings.{meets_within}
use Rattle.buck_book_journal.specs.Journal.{version_at, prices_then, Begins}

-- prices that keep the price relation somewhere lie within their spans
pub in_span : (i : InstructionParts) (ps : List Posting) (prices : List ℕ) → PricesMeet i ps prices → (k : ℕ)
    → k < length prices → IsPriceAt i prices k
in_span i ps prices m k lt =
    let w : ClassAt i k = class_at i k (omega (arith, m.one_each)) in
    subst (λ n. IsPriceAt i prices n) w.place
    (meets_within (standing_of i w.is_class.assortment w.class ps) _ (m.each_meets w.class w.is_class))

module _ (h : HistoryParts) where
  -- where the sheet of a version comes into force
  pub record Opened (n version : ℕ) : Type 0 where
    pub at : ℕ
    pub within_them : at ≤ n
    pub begins : Begins h at
    pub is : version_at h at ≡ version

  opened_next : (n version : ℕ) (x : Posting) → slice_get h.postings n ≡ Some x → version ≤ version_at h (n + 1)
      → (version ≤ version_at h n → Opened n version)
      → Opened (n + 1) version
  opened_next n version x at low before =
      let longer : take (n + 1) h.postings ≡ take n h.postings ++ x ∷ [] = take_one_more h.postings n x at in
      grind (arith, cases_lt, cases_Bool, ends_with_end, cuts_with_end, ends_without, true_false)

  pub opened : (n version : ℕ) → n ≤ length h.postings → version ≤ version_at h n → Opened n version
  opened zero version le low = record { at = 0; within_them = omega arith; begins = refl; is = omega arith }
  opened (suc n) version le low =
      let one : n + 1 ≡ suc n = omega arith in
      elim (slice_get_cases h.postings n).1 [
        | inl x ↦
            subst (λ m. Opened m version) one
            (opened_next n version x.0 x.2 (subst (λ m. version ≤ version_at h m) (sym one) low)
            (λ less. opened n version (omega arith) less))
        | inr past ↦ absurd (omega (arith, past.0))
      ]

module _ (h : HistoryParts) (v : IsInstruction h.instruction) (l : IsLawful h) where
  after : (m : ℕ) (x : Posting) → slice_get h.postings m ≡ Some x → Begins h (m + 1)
      → PricesMeet h.instruction (take (m + 1) h.postings) (prices_then h (m + 1))
  after m x at b =
      let longer : take (m + 1) h.postings ≡ take m h.postings ++ x ∷ [] = take_one_more h.postings m x at in
      grind (arith, cases_Bool, ends_with_end, cuts_without, true_false, l.sheets_meet)

  -- the prices of a sheet keep the price relation where it comes into force
  pub prices_right : (k : ℕ) → k ≤ length h.postings → Begins h k
      → PricesMeet h.instruction (take k h.postings) (prices_then h k)
  prices_right k le b = elim (cases_eq k 0) [
    | inl none ↦ grind (arith, meets_from_alone, base_meets)
    | inr some ↦
        let before : k - 1 + 1 ≡ k = omega arith in
        elim (slice_get_cases h.postings (k - 1)).1 [
          | inl x ↦
              subst (λ n. PricesMeet h.instruction (take n h.postings) (prices_then h n)) before
              (after (k - 1) x.0 x.2 (subst (λ n. Begins h n) (sym before) b))
          | inr past ↦ absurd (omega (arith, past.0))
        ]
  ]
