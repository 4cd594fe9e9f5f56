-- What numbers that passed the tests are.
use Rattle.std.proofs.Common.{◌≡◌, ℕ, ◌+◌, ◌*◌, ◌%◌, ◌<◌, ◌≤◌, ◌==◌, true, List, drop, [], ◌∷◌, Ok, length, get_or, nat_le, nat_lt, refl, ap, arith}
use Rattle.std.specs.List.{AllByRecursion}
use Rattle.std.specs.Prelude.{All}
use Rattle.std.proofs.lemmas.Bool.{ltb-true, leb-true}
use Rattle.std.proofs.lemmas.List.Elements.{All-from_recursion}
use Rattle.buck_record.specs.checking.Check.{◌>>=◌}
use Rattle.buck_record.specs.checking.Rules.{within, all_within, is_rising}
use Rattle.buck_record.proofs.PassLemmas.{passed, check_ok, then_ok, each_ok, both, within_ok, ranged, counted}
use Rattle.buck_stem.specs.declared.draft.Draft.{Draft}
use Rattle.buck_stem_shape.specs.Stem.{IsGrade, IsRisingFrom}
use Rattle.buck_stem_shape.specs.declared.slots.TheConstants.{STEM, SPECIES, SAMPLES, MOST_SAMPLES, STARTS, GRADES, MOST_ZONES}
use Rattle.buck_stem.specs.declared.fault.StmFault.TheVariants.{Range, Count}
use Rattle.buck_stem.specs.Stm.{checked, starts, grades, zones_of, draft_range, draft_order, draft_count, in_range, in_order, in_number, parts_of}
use Rattle.buck_stem.specs.inner.Ready.{IsReadyDraft, AreNumbers}

pub first_within : (low high n : ℕ) (ns : List ℕ) → all_within low high (n ∷ ns) ≡ true
    → ((low ≤ n) × (n ≤ high)) × (all_within low high ns ≡ true)
first_within low high n ns h = let p = both (within low high n) (all_within low high ns) h in
    (within_ok low high n p.0, p.1)

-- what stands at even places stands at the odd ones past the first number
pub even_places : (ns : List ℕ) → grades ns ≡ starts (drop 1 ns)
even_places [] = refl
even_places (n ∷ []) = refl
even_places (n ∷ g ∷ []) = refl
even_places (n ∷ g ∷ t ∷ more) = ap (λ ns. g ∷ ns) (even_places (t ∷ more))

-- zones of numbers whose odd places are starts and whose even places are grades
half : (ns : List ℕ) → length (zones_of ns) * 2 ≤ length ns
half [] = omega arith
half (s ∷ []) = omega arith
half (s ∷ g ∷ more) = omega (arith, half more)

zoned : (ns : List ℕ) → all_within STARTS.low STARTS.high (starts ns) ≡ true
    → all_within GRADES.low GRADES.high (grades ns) ≡ true
    → AllByRecursion (λ (z : ℕ × ℕ). (z.0 ≤ STARTS.high) × IsGrade z.1) (zones_of ns)
zoned [] s g = tt
zoned (n ∷ []) s g = tt
zoned (n ∷ m ∷ more) s g =
    let p = first_within STARTS.low STARTS.high n (starts more) s in
    let q = first_within GRADES.low GRADES.high m (grades more) g in ((p.0.1, q.0), zoned more p.1 q.1)

risen : (low : ℕ) (ns : List ℕ) → ((n : ℕ) (more : List ℕ) → starts ns ≡ n ∷ more → low ≤ n)
    → is_rising (starts ns) ≡ true → IsRisingFrom low (zones_of ns)
risen low [] first h = tt
risen low (s ∷ []) first h = tt
risen low (s ∷ g ∷ []) first h = (first s [] refl, tt)
risen low (s ∷ g ∷ t ∷ []) first h = (first s (t ∷ []) refl, tt)
risen low (s ∷ g ∷ t ∷ f ∷ more) first h =
    let p = both (nat_lt s t) (is_rising (t ∷ starts more)) h in
    let above : s < t = ltb-true _ _ p.0 in (
      first s (t ∷ starts more) refl,
      risen (s + 1) (t ∷ f ∷ more) (λ n rest e. let same : t ≡ n = cc in omega arith) p.1,
    )

-- numbers that passed are those of a stem
pub numbers_are : (d : Draft) → IsReadyDraft d → AreNumbers d
unfolding draft_range draft_order draft_count parts_of
numbers_are d ready =
    let kind = ranged Range SPECIES d.species _ ready.range in
    let samples = ranged Range SAMPLES d.samples _ kind.1 in
    let starts_in = passed (all_within STARTS.low STARTS.high (starts d.zones)) _ _ samples.1 in
    let grades_in = check_ok _ _ starts_in.1 in
    let one = counted Count STEM 1 d.number _ ready.count in
    let one_kind = counted Count SPECIES 1 d.species _ one.1 in
    let some = counted Count SAMPLES MOST_SAMPLES d.samples _ one_kind.1 in
    let few = both (length d.zones % 2 == 0) (nat_le (length d.zones) (2 * MOST_ZONES)) (check_ok _ _ some.1) in
    let zones = All-from_recursion _ (zones_of d.zones) (zoned d.zones starts_in.0 grades_in) in
    record {
      number = one.0.0;
      species = one_kind.0.0;
      grades = grades_in;
      stem = record {
        species = kind.0 0 0 one_kind.0.0;
        samples_number = some.0;
        samples_range = λ k x lt. (samples.0 k x lt).1;
        zones_number = omega (arith, half d.zones, leb-true _ _ few.1);
        starts_range = λ k z lt. (zones k z lt).0;
        starts_rise = risen 0 d.zones (λ n more e. omega arith) (check_ok _ _ ready.order);
        grades_range = λ k z lt. (zones k z lt).1;
      };
    }

-- stems that passed the last three lines are ready
pub all_numbers : (drafts : List Draft) → checked drafts ≡ Ok tt → All AreNumbers drafts
unfolding checked in_range in_order in_number
all_numbers drafts h =
    let first = then_ok (in_range drafts) (in_order drafts >>= λ _. in_number drafts) h in
    let second = then_ok (in_order drafts) (in_number drafts) first.1 in
    let ranges = each_ok draft_range drafts first.0 in
    let orders = each_ok draft_order drafts second.0 in
    let counts = each_ok draft_count drafts second.1 in
    λ k d lt. numbers_are (get_or drafts k d)
    (record { range = ranges k d lt; order = orders k d lt; count = counts k d lt })
