-- Numbers that passed the tests are within the limits of a stem.
use Rattle.buck_book_reader.proofs.Words.{◌≡◌, ℕ, ◌+◌, ◌*◌, ◌≤◌, true, List, [], ◌∷◌, ◌++◌, length, sym, ◌∙◌, subst, arith, rules, append-nil, common_steps, AllByRecursion, nat_tests, All-from_recursion, AllPass-from_list_all, all_within}
use Rattle.buck_book_reader.proofs.Words.{one_to, both, within_ok, SPECIES, SAMPLES, MOST_SAMPLES, STARTS, MOST_ZONES, IsStem, IsGrade, IsRisingFrom, stem_of, zones_of, is_zone, are_zones, AreSamples, AreZones}

half : (ns : List ℕ) → length (zones_of ns) * 2 ≤ length ns
half [] = omega arith
half (s ∷ []) = omega arith
half (s ∷ g ∷ more) = omega (arith, half more)

fit : (low : ℕ) (ns : List ℕ) → are_zones low ns ≡ true
    → AllByRecursion (λ (z : ℕ × ℕ). z.0 ≤ STARTS.high) (zones_of ns)
    × AllByRecursion (λ (z : ℕ × ℕ). IsGrade z.1) (zones_of ns) × IsRisingFrom low (zones_of ns)
fit low [] h = (tt, tt, tt)
fit low (s ∷ []) h = (tt, tt, tt)
fit low (s ∷ g ∷ more) h =
    let p = both (is_zone low s g) (are_zones (s + 1) more) h in
    search (rules, nat_tests, (fit (s + 1) more p.1))

pub are_zones_ok : (ns : List ℕ) → length ns ≤ 2 * MOST_ZONES → are_zones 0 ns ≡ true → AreZones (zones_of ns)
are_zones_ok ns few h = record {
  zones_number = omega (arith, half ns, few);
  starts_range = All-from_recursion _ (zones_of ns) (fit 0 ns h).0;
  starts_rise = (fit 0 ns h).2;
  grades_range = All-from_recursion _ (zones_of ns) (fit 0 ns h).1;
}

-- all zones of an item were gone through
pub zones_done : (zones : List (ℕ × ℕ)) (low : ℕ) (ns rest : List ℕ) → length rest ≤ 1 → length ns ≤ 2 * MOST_ZONES
    → zones ++ zones_of rest ≡ zones_of ns → are_zones low rest ≡ are_zones 0 ns → AreZones zones
zones_done zones low ns [] le few so_far right =
    subst AreZones (sym so_far ∙ append-nil zones) (are_zones_ok ns few (sym right))
zones_done zones low ns (x ∷ []) le few so_far right =
    subst AreZones (sym so_far ∙ append-nil zones) (are_zones_ok ns few (sym right))
zones_done zones low ns (x ∷ y ∷ more) le few so_far right = absurd (omega arith)

pub are_samples_ok : (ns : List ℕ) → one_to MOST_SAMPLES (length ns) ≡ true
    → all_within SAMPLES.low SAMPLES.high ns ≡ true → AreSamples ns
are_samples_ok ns counted h = grind (arith, within_ok, AllPass-from_list_all)

pub is_stem_ok : (number species : ℕ) (samples : List ℕ) (zones : List (ℕ × ℕ)) → (SPECIES.low ≤ species)
    → (species ≤ SPECIES.high)
    → AreSamples samples → AreZones zones → IsStem (stem_of number species samples zones)
is_stem_ok number species samples zones low high s z = grind (arith, common_steps)
