-- The mean of prices.
use Rattle.std.proofs.Common.{◌≡◌, ◌≢◌, ◌∙◌, ℕ, List, ◌∷◌, suc, zero, ap, arith, length, map, max, min, refl, sum, sym}
use Rattle.std.specs.Prelude.{◌==◌, ◌||◌, false, if◌then◌else◌, slice_index}
use Rattle.std.proofs.lemmas.Bool.Decides.{nat_tests}
use Rattle.std.proofs.lemmas.List.{length-map}
use Rattle.std.proofs.lemmas.List.Sums.{sum-map}
use Rattle.buck_value.specs.Sheet.{base_prices}
use Rattle.buck_book_postings.specs.declared.posting.Posting.{Posting}
use Rattle.buck_book_postings.specs.History.{HistoryParts, prices_at}
use Rattle.buck_book_postings.specs.Posting.{planned_version}
use Rattle.buck_page_text.specs.Words.{half_up}
use Rattle.buckfleet_trial_tune.specs.Tune.{price_sum, tuned, tuned_price}

some : (n : ℕ) → (suc n == 0) ≡ false
some n = grind (arith, nat_tests)

priced : (base sum number : ℕ) → base ≢ 0 → tuned base sum (suc number) ≡ min (max (half_up sum (suc number)) 1) 10000000
priced zero sum number bought = absurd (bought refl)
priced (suc base) sum number bought =
    let mean = min (max (half_up sum (suc number)) 1) 10000000 in
    ap (λ none. if none || (suc number == 0) then suc base else mean) (some base)
    ∙ ap (λ none. if false || none then suc base else mean) (some number)

-- that of the prices that were in force
pub mean_of : (h : HistoryParts) (class n : ℕ) (ns : List ℕ) → slice_index (base_prices h.instruction) class ≢ 0
    → map (λ x. slice_index (prices_at h.sheets (planned_version x)) class) h.postings ≡ n ∷ ns
    → tuned_price h class ≡ min (max (half_up (sum (n ∷ ns)) (length (n ∷ ns))) 1) 10000000
mean_of h class n ns bought is =
    let base : ℕ = slice_index (base_prices h.instruction) class in
    let f : Posting → ℕ = λ x. slice_index (prices_at h.sheets (planned_version x)) class in
    let all : price_sum h class ≡ sum (n ∷ ns) = sym (sum-map f h.postings) ∙ ap sum is in
    let long : length h.postings ≡ suc (length ns) = sym (length-map h.postings f) ∙ ap length is in
    ap (λ (k : ℕ). tuned base (price_sum h class) k) long
    ∙ ap (λ (k : ℕ). tuned base k (suc (length ns))) all
    ∙ priced base (sum (n ∷ ns)) (length ns) bought
