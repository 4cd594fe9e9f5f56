-- What a lawful journal says of its postings and of its sheets.
use Rattle.std.proofs.Common.{◌≡◌, ℕ, zero, suc, ◌+◌, ◌≤◌, List, [], ◌∷◌, ◌++◌, All, length, take, get_or, sym, subst, ap, ◌∙◌, inl, inr, arith}
use Rattle.std.specs.Prelude.{slice_get, Some}
use Rattle.std.proofs.lemmas.Bool.{cases_Bool}
use Rattle.std.proofs.lemmas.Option.{slice_get_cases, slice_get_within, slice_get-get_or, get_or_from_slice_get}
use Rattle.std.proofs.lemmas.List.Elements.{All-from_get_or}
use Rattle.buck_apt_instruction.specs.Instruction.{InstructionParts, IsInstruction, classes}
use Rattle.buck_value.proofs.Prices.{length-base_prices}
use Rattle.buck_book_postings.specs.declared.posting.Posting.{Posting}
use Rattle.buck_book_postings.specs.declared.posting.Posting.TheVariants.{Cut, Demand}
use Rattle.buck_book_postings.specs.Posting.{ends_of, cuts_since_end, is_end}
use Rattle.buck_book_postings.specs.History.{IsLawful, Follows, Holds, prices_at}
use Rattle.buck_book_postings.specs.Walk.{IsCountable}
use Rattle.buck_book_postings.proofs.Ends.{take_one_more, ends_with_end, ends_without, ends_take-le, true_false}
use Rattle.buck_book_journal.specs.Journal.{JournalParts, history_of}
use Rattle.buck_page_figures.specs.Journals.{postings_of}
use Rattle.buck_page_figures.specs.Shown.{AreShowable, IsShowable}
use Rattle.buck_page_figures.specs.inner.Adding.{IsCuttable}
use Rattle.buck_page_figures.specs.inner.Course.{ArePassable}
use Rattle.buck_page_figures.proofs.JournalLemmas.{of_all}

passable_by : (i : InstructionParts) (sheets : List (List ℕ)) (x : Posting) → Holds i sheets x
    → IsCuttable i x × IsCountable i x
passable_by i sheets (Cut e) holds = (holds.0.admissible, holds.0.admissible)
passable_by i sheets (Demand d) holds = (tt, holds)

module _ (i : InstructionParts) (j : JournalParts) (l : IsLawful (history_of i j)) where
  pub passable : ArePassable i j.entries
  passable k x at = passable_by i j.sheets x (l.postings_follow k x at).holds

  -- one posting more
  prices_next : (k : ℕ) (x : Posting) → slice_get j.entries k ≡ Some x
      → length (prices_at j.sheets (ends_of i (take k j.entries))) ≡ classes i
      → length (prices_at j.sheets (ends_of i (take (k + 1) j.entries))) ≡ classes i
  prices_next k x at before =
      let longer : take (k + 1) j.entries ≡ take k j.entries ++ x ∷ [] = take_one_more j.entries k x at in
      elim (cases_Bool (is_end i.period (cuts_since_end i (take k j.entries)) x)) [
        | inl yes_ ↦ (
            let more : ends_of i (take (k + 1) j.entries) ≡ ends_of i (take k j.entries) + 1 =
            ap (λ ps. ends_of i ps) longer ∙ ends_with_end i (take k j.entries) x yes_ in
            ap (λ n. length (prices_at j.sheets n)) more ∙ (l.sheets_meet k x at yes_).one_each)
        | inr no_ ↦ (
            let same : ends_of i (take (k + 1) j.entries) ≡ ends_of i (take k j.entries) =
            ap (λ ps. ends_of i ps) longer ∙ ends_without i (take k j.entries) x (λ e. true_false (sym e ∙ no_)) in
            ap (λ n. length (prices_at j.sheets n)) same ∙ before)
      ]

  module _ (v : IsInstruction i) where
    -- each sheet that is in force somewhere has a price for each class
    pub prices_number : (k : ℕ) → k ≤ length j.entries
        → length (prices_at j.sheets (ends_of i (take k j.entries))) ≡ classes i
    prices_number zero le = ap length l.base_sheet ∙ length-base_prices i v
    prices_number (suc k) le =
        let one : k + 1 ≡ suc k = omega arith in
        let before = prices_number k (omega arith) in
        subst (λ m. length (prices_at j.sheets (ends_of i (take m j.entries))) ≡ classes i) one
        (elim (slice_get_cases j.entries k).1 [
          | inl x ↦ prices_next k x.0 x.2 before
          | inr past ↦ absurd (omega (arith, past.0))
        ])

    showable_at : (k : ℕ) (x : Posting) → slice_get j.entries k ≡ Some x → IsShowable i j.sheets x
    showable_at k (Demand d) at = tt
    showable_at k (Cut e) at =
        let f : Follows i j.sheets (take k j.entries) (Cut e) = l.postings_follow k (Cut e) at in
        let number = prices_number k (omega (arith, slice_get_within j.entries k (Cut e) at)) in (
          f.holds.0.admissible,
          omega (arith, f.version_in_force, ends_take-le i j.entries k, l.sheets_number),
          subst (λ n. length (prices_at j.sheets n) ≡ classes i) (sym f.version_in_force) number,
        )

    -- each posting can be shown
    pub showable : All (λ x. IsShowable i j.sheets x) j.entries
    showable =
        All-from_get_or (λ x. IsShowable i j.sheets x) j.entries none
        (λ k lt. showable_at k (get_or j.entries k none) (slice_get-get_or j.entries k none lt))
      where
        none : Posting
        none = Demand (record { harvester = 0; number = 0; version = 0; targets = [] })

-- each posting of lawful journals can be passed
pub lawful_at : (i : InstructionParts) (js : List JournalParts) → All (λ j. IsLawful (history_of i j)) js
    → (k : ℕ) (j : JournalParts) → slice_get js k ≡ Some j → IsLawful (history_of i j)
lawful_at i js lawful k j there =
    subst (λ (read : JournalParts). IsLawful (history_of i read)) (get_or_from_slice_get js k j j there)
    (lawful k j (slice_get_within js k j there))

pub all_passable : (i : InstructionParts) (js : List JournalParts) → All (λ j. IsLawful (history_of i j)) js
    → ArePassable i (postings_of js)
all_passable i js lawful =
    of_all (λ x. IsCuttable i x × IsCountable i x) js
    (λ k j there. passable i j (lawful_at i js lawful k j there))

-- and each can be shown
pub all_showable : (i : InstructionParts) (js : List JournalParts) → All (λ j. IsLawful (history_of i j)) js
    → IsInstruction i → All (λ j. AreShowable i j) js
all_showable i js lawful valid = λ k j lt. showable i (get_or js k j) (lawful k j lt) valid
