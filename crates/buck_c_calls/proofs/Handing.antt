-- Files that are handed over, one after the other.
use Rattle.std.proofs.Common.{◌≡◌, ℕ, ◌+◌, ◌<◌, List, [], ◌∷◌, ◌++◌, length, map, sum, sum_by, drop, get_or, Option, refl, sym, ap, ◌∙◌, arith}
use Rattle.std.specs.List.{concat}
use Rattle.std.proofs.lemmas.List.{length-append}
use Rattle.std.proofs.lemmas.List.Sums.{sum-map, sum_by-cons}
use Rattle.buck_c_calls.specs.Several.{AreHanded}
use Rattle.buck_c_calls.specs.Turns.{AreFiles}

-- they are as long together as the bytes
each : (files : List (List ℕ)) → length (concat files) ≡ sum_by (λ f. length f) files
each [] = refl
each (f ∷ fs) =
    length-append f (concat fs) ∙ ap (λ n. length f + n) (each fs) ∙ sym (sum_by-cons (λ (g : List ℕ). length g) f fs)

long : (files : List (List ℕ)) → length (concat files) ≡ sum (map (λ f. length f) files)
long files = each files ∙ sym (sum-map (λ (f : List ℕ). length f) files)

-- so there are none of other lengths
pub none_of_lengths : (lengths bytes apt other : List ℕ) (more : List (Option (List ℕ)))
    → (sum lengths ≡ length bytes → ⊥) → AreHanded lengths bytes apt other more → ⊥
none_of_lengths lengths bytes apt other more differ h =
    differ (ap (λ ns. sum ns) (sym h.are_files.0) ∙ sym (long (apt ∷ other ∷ h.files))
    ∙ ap (λ bs. length bs) h.are_files.1)

-- nor fewer than two
pub none_of_few : (lengths bytes apt other : List ℕ) (more : List (Option (List ℕ)))
    → length lengths < 2 → AreHanded lengths bytes apt other more → ⊥
none_of_few lengths bytes apt other more few h =
    let is : length (map (λ (f : List ℕ). length f) (apt ∷ other ∷ h.files)) ≡ length lengths =
    ap (λ ns. length ns) h.are_files.0 in
    omega (arith, few, is)

-- two files, and those behind them
pub two_more : (lengths bytes apt behind other rest : List ℕ) (files : List (List ℕ)) → 1 < length lengths
    → length apt ≡ get_or lengths 0 0 → apt ++ behind ≡ bytes
    → length other ≡ get_or lengths 1 0 → other ++ rest ≡ behind
    → AreFiles (drop 2 lengths) rest files → AreFiles lengths bytes (apt ∷ other ∷ files)
two_more [] bytes apt behind other rest files lt a all o last more = absurd (omega (arith, lt))
two_more (m ∷ []) bytes apt behind other rest files lt a all o last more = absurd (omega (arith, lt))
two_more (m ∷ n ∷ ns) bytes apt behind other rest files lt a all o last more = (
  ap (λ k. k ∷ map (λ (f : List ℕ). length f) (other ∷ files)) a
      ∙ ap (λ ks. m ∷ ks) (ap (λ k. k ∷ map (λ (f : List ℕ). length f) files) o ∙ ap (λ ks. n ∷ ks) more.0),
  ap (λ xs. apt ++ xs) (ap (λ xs. other ++ xs) more.1 ∙ last) ∙ all,
)

-- the first two lengths, and those behind them
pub two_sum : (lengths : List ℕ) → 1 < length lengths
    → sum lengths ≡ get_or lengths 0 0 + get_or lengths 1 0 + sum (drop 2 lengths)
two_sum [] lt = absurd (omega (arith, lt))
two_sum (m ∷ []) lt = absurd (omega (arith, lt))
two_sum (m ∷ n ∷ ns) lt = omega (arith, sum_by-cons (λ (x : ℕ). x) m (n ∷ ns), sum_by-cons (λ (x : ℕ). x) n ns)

pub ruleset handing = (none_of_lengths, none_of_few)
