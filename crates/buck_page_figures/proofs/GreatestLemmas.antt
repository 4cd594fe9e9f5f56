-- The first of the greatest of some numbers, with one more.
use Rattle.std.proofs.Common.{◌≡◌, ℕ, zero, suc, ◌<◌, ◌≤◌, List, [], ◌∷◌, ◌++◌, length, refl, sym, subst, ◌∙◌, inl, inr, arith}
use Rattle.std.specs.Prelude.{slice_index, Option, Some, None}
use Rattle.std.proofs.lemmas.Bool.{cases_lt}
use Rattle.buck_page_figures.specs.Greatest.{IsFirstGreatest}
use Rattle.buck_page_figures.specs.inner.Greatest.{IsGreatest, IsSize}
use Rattle.buck_page_figures.specs.declared.greatest.Greatest.{Greatest}

-- a number of some with one more: one of those before, the last, or 0 past it
old_one : (ns : List ℕ) (m k : ℕ) → k < length ns → slice_index (ns ++ m ∷ []) k ≡ slice_index ns k
old_one [] m k lt = absurd (omega arith)
old_one (n ∷ ns) m zero lt = refl
old_one (n ∷ ns) m (suc k) lt = old_one ns m k (omega arith)

last_one : (ns : List ℕ) (m : ℕ) → slice_index (ns ++ m ∷ []) (length ns) ≡ m
last_one [] m = refl
last_one (n ∷ ns) m = last_one ns m

past : (ns : List ℕ) (k : ℕ) → length ns ≤ k → slice_index ns k ≡ 0
past [] k le = refl
past (n ∷ ns) zero le = absurd (omega arith)
past (n ∷ ns) (suc k) le = past ns k (omega arith)

-- each is one of those before, or the last number
low : (ns : List ℕ) (m k most : ℕ) → ((j : ℕ) → slice_index ns j ≤ most) → m ≤ most
    → slice_index (ns ++ m ∷ []) k ≤ most
low [] m zero most all le = le
low [] m (suc k) most all le = omega arith
low (n ∷ ns) m zero most all le = all 0
low (n ∷ ns) m (suc k) most all le = low ns m k most (λ j. all (suc j)) le

-- no number is greater than the greatest
most_of : (ns : List ℕ) (at : Option ℕ) (size : ℕ) → IsFirstGreatest ns at → IsSize ns at size → (j : ℕ)
    → slice_index ns j ≤ size
most_of ns None size first is j = omega (arith, first j, is)
most_of ns (Some at) size first is j = omega (arith, first.1 j, is)

-- one that is greater comes to stand first
pub greater : (ns : List ℕ) (at : ℕ) (m : ℕ) (g : Greatest) → length ns ≡ at → IsGreatest ns g → g.size < m
    → IsGreatest (ns ++ m ∷ []) (record { at = Some at; size = m })
greater ns at m g is old lt =
    let most = most_of ns g.at g.size old.first old.size in
    let last : slice_index (ns ++ m ∷ []) at ≡ m = subst (λ k. slice_index (ns ++ m ∷ []) k ≡ m) is (last_one ns m) in
    record {
      first = (
        omega (arith, last),
        (λ k. let all : slice_index (ns ++ m ∷ []) k ≤ m = low ns m k m (λ j. omega (arith, most j)) (omega arith) in
            omega (arith, all, last)),
        (λ k less. omega (arith, last, old_one ns m k (omega (arith, is)), most k)),
      );
      size = sym last;
    }

-- one that isn't greater changes nothing
pub not_greater : (ns : List ℕ) (m : ℕ) (at : Option ℕ) (size : ℕ) → IsFirstGreatest ns at → IsSize ns at size
    → m ≤ size
    → IsFirstGreatest (ns ++ m ∷ []) at × IsSize (ns ++ m ∷ []) at size
not_greater ns m None size first is le =
    ((λ k. omega (arith, low ns m k 0 (λ j. omega (arith, first j)) (omega (arith, is)))), is)
not_greater ns m (Some at) size first is le =
    let within : at < length ns = inside ns at first.0 in
    let same : slice_index (ns ++ m ∷ []) at ≡ slice_index ns at = old_one ns m at within in (
      (
        omega (arith, same, first.0),
        (λ k. omega (arith, same, low ns m k (slice_index ns at) first.1 (omega (arith, is)))),
        (λ k less. omega (arith, same, old_one ns m k (omega (arith, within)), first.2 k less)),
      ),
      is ∙ sym same,
    )
  where
    inside : (ns : List ℕ) (k : ℕ) → 0 < slice_index ns k → k < length ns
    inside ns k pos = elim (cases_lt k (length ns)) [
      | inl lt ↦ lt
      | inr le ↦ absurd (omega (arith, pos, past ns k (omega arith)))
    ]
