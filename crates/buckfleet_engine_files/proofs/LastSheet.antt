-- The prices in force after some postings of a lawful history: there is one for each class.
use Rattle.std.proofs.Common.{◌≡◌, ℕ, zero, suc, ◌+◌, ◌≤◌, inl, inr, ◌∷◌, [], ◌++◌, List, length, take, take_all, sym, ap, subst, ◌∙◌, arith}
use Rattle.std.proofs.lemmas.Bool.{cases_Bool}
use Rattle.std.proofs.lemmas.Option.{slice_get_cases}
use Rattle.buck_apt_instruction.specs.Instruction.{IsInstruction, classes}
use Rattle.buck_value.proofs.Prices.{length-base_prices}
use Rattle.buck_book_postings.specs.Posting.{ends_of, is_end, cuts_since_end}
use Rattle.buck_book_postings.specs.History.{HistoryParts, IsLawful, prices_at, in_force}
use Rattle.buck_book_postings.proofs.Ends.{true_false, ends_with_end, ends_without, take_one_more}

module _ (h : HistoryParts) (valid : IsInstruction h.instruction) (l : IsLawful h) where
  pub number_after : (k : ℕ) → k ≤ length h.postings
      → length (prices_at h.sheets (ends_of h.instruction (take k h.postings))) ≡ classes h.instruction
  number_after zero le = ap length l.base_sheet ∙ length-base_prices h.instruction valid
  number_after (suc k) le = elim (slice_get_cases h.postings k).1 [
    | inr past ↦ absurd (omega (arith, past.0, le))
    | inl here ↦
        let x = here.0 in
        let before = take k h.postings in
        let next : suc k ≡ k + 1 = omega arith in
        let with_it : take (suc k) h.postings ≡ before ++ x ∷ [] = ap (λ n. take n h.postings) next
        ∙ take_one_more h.postings k x here.2 in
        rw with_it
        (elim (cases_Bool (is_end h.instruction.period (cuts_since_end h.instruction before) x)) [
          | inl e ↦ rw (ends_with_end h.instruction before x e) (l.sheets_meet k x here.2 e).one_each
          | inr e ↦
              rw (ends_without h.instruction before x (λ y. true_false (sym y ∙ e)))
              (number_after k (omega (arith, le)))
        ])
  ]

  -- so it is at the end
  pub number_in_force : length (in_force h).prices ≡ classes h.instruction
  number_in_force =
      subst (λ ps. length (prices_at h.sheets (ends_of h.instruction ps)) ≡ classes h.instruction)
      (take_all (length h.postings) h.postings (omega arith)) (number_after (length h.postings) (omega arith))

  pub number_given : (prices : List ℕ) → prices ≡ (in_force h).prices → length prices ≡ classes h.instruction
  number_given prices is = ap length is ∙ number_in_force
