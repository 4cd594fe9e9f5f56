-- The numbers of a lawful history lie within a journal's ranges.
use Rattle.buck_book_laws.proofs.Words.{◌≡◌, ℕ, ◌+◌, ◌*◌, ◌<◌, ◌≤◌, true, List, [], ◌∷◌, length, take, get_or, slice_index, slice_get, Some, refl, sym, subst, arith, mul-le-mul_left, rules, common_steps, AllByRecursion, and_from}
use Rattle.buck_book_laws.proofs.Words.{nat_tests, take_all, length-take-le, get_or_default, recursion_from_All, All-contains, slice_get_within, slice_get-get_or, within, all_within, InstructionParts, IsInstruction, IsWithin, TARGETS}
use Rattle.buck_book_laws.proofs.Words.{SPECIES, SAMPLES, MOST_SAMPLES, STARTS, StemParts, IsStem, IsGrade, IsRisingFrom, Log, IsSheet, base_prices, sheet_of, IsAllowed, end_of, base_price-le, valid_of, IsCutFrom, cut_bounded, Posting}
use Rattle.buck_book_laws.proofs.Words.{Cut, Demand, EntryParts, DemandParts, harvester_of, ends_of, calls_of, HistoryParts, IsLawful, Follows, PricesMeet, prices_at, sheet_at, ends-le, calls-le, few_logs, classes-le, Call, is_call}
use Rattle.buck_book_laws.proofs.Words.{are_zones, is_log, are_logs, zone_numbers, log_numbers, version_at, AreSheetPrices, IsCutInRange, IsDemandInRange, IsInRange, AreInRange, IsOfBook, call_of_cut}
use Rattle.buck_book_journal.proofs.Periods.{in_span, Opened, opened, prices_right}

within_yes : (low high n : ℕ) → low ≤ n → n ≤ high → within low high n ≡ true
within_yes low high n a b = grind (arith, nat_tests)

all_within_yes : (high : ℕ) (ns : List ℕ) → AllByRecursion (λ n. n ≤ high) ns → all_within 0 high ns ≡ true
all_within_yes high [] h = refl
all_within_yes high (n ∷ ns) h = let rest = all_within_yes high ns h.1 in grind (arith, nat_tests)

call_yes : (c : Call) → IsWithin 1 64 c.harvester → IsWithin 1 1000000 c.number → c.version ≤ 1000000 → is_call c ≡ true
call_yes c h n v = grind (arith, nat_tests)

zones_yes : (low : ℕ) (zones : List (ℕ × ℕ)) → IsRisingFrom low zones → AllByRecursion (λ z. z.0 ≤ STARTS.high) zones
    → AllByRecursion (λ z. IsGrade z.1) zones
    → are_zones low (zone_numbers zones) ≡ true
zones_yes low [] rise starts grades = refl
zones_yes low (z ∷ zs) rise starts grades =
    search (rules, nat_tests, (zones_yes (z.0 + 1) zs rise.1 starts.1 grades.1))

log_yes : (i : InstructionParts) (stem : StemParts) (g : Log) → IsInstruction i → IsStem stem → IsAllowed i stem g
    → is_log g.start g.length g.assortment ≡ true
log_yes i stem g v s a =
    let w = valid_of i stem g v a in
    search (rules, All-contains, slice_get_within, nat_tests)

logs_yes : (i : InstructionParts) (stem : StemParts) (from : ℕ) (gs : List Log) → IsInstruction i → IsStem stem
    → IsCutFrom (IsAllowed i stem) (end_of i) from gs
    → are_logs (log_numbers gs) ≡ true
logs_yes i stem from [] v s cut = refl
logs_yes i stem from (g ∷ gs) v s cut = search (rules, and_from, log_yes, (logs_yes i stem (end_of i g) gs v s cut.2))

-- prices that keep the relation somewhere lie within their spans, and are low
module _ (i : InstructionParts) (ps : List Posting) (prices : List ℕ) (v : IsInstruction i) (m : PricesMeet i ps prices)
  where
    low_price : (k : ℕ) → k < length prices → slice_index prices k ≤ 20000000
    low_price k lt =
        let base : ℕ = slice_index (base_prices i) k in
        let le : base * i.limit ≤ base * 1000 = mul-le-mul_left base v.limit_range in
        omega (arith, (in_span i ps prices m k lt).1, base_price-le i k v)

    prices_low : AllByRecursion (λ p. p ≤ 20000000) prices
    prices_low = recursion_from_All (λ p. p ≤ 20000000) prices (λ k d lt. low_at k d lt)
      where
        low_at : (k d : ℕ) → k < length prices → get_or prices k d ≤ 20000000
        low_at k d lt = subst (λ p. p ≤ 20000000) (get_or_default prices k 0 d lt) (low_price k lt)

    sheet_prices : AreSheetPrices prices
    sheet_prices = grind (arith, classes-le, all_within_yes, prices_low)

    sheet_valid : (version : ℕ) → IsSheet (sheet_of version i prices)
    sheet_valid version = record { valid = v; one_each = m.one_each; in_span = λ k lt. in_span i ps prices m k lt }

module _ (h : HistoryParts) (v : IsInstruction h.instruction) (l : IsLawful h) where
  meets_there : (n version : ℕ) → n ≤ length h.postings → (o : Opened h n version)
      → PricesMeet h.instruction (take o.at h.postings) (prices_at h.sheets version)
  meets_there n version le o = grind (arith, common_steps, prices_right)

  module _ (few : length h.postings ≤ 1000000) where
    passed_few : (k : ℕ) → k < length h.postings → length (take k h.postings) ≤ 999999
    passed_few k lt = omega (arith, length-take-le k h.postings (omega arith))

    number_in : (k : ℕ) (x : Posting) → slice_get h.postings k ≡ Some x
        → IsWithin 1 1000000 (calls_of (harvester_of x) (take k h.postings) + 1)
    number_in k x at = search (rules, passed_few, slice_get_within, calls-le)

    version_in : (k : ℕ) (x : Posting) → slice_get h.postings k ≡ Some x → version_at h k ≤ 1000000
    version_in k x at = grind (arith, passed_few, slice_get_within, ends-le)

    cut_in : (k : ℕ) (e : EntryParts) → slice_get h.postings k ≡ Some (Cut e) → IsOfBook (Cut e) → IsCutInRange e
    cut_in k e at b =
        let i : InstructionParts = h.instruction in
        let f : Follows i h.sheets (take k h.postings) (Cut e) = l.postings_follow k (Cut e) at in
        let le : k ≤ length h.postings = omega (arith, slice_get_within h.postings k (Cut e) at) in
        let o : Opened h k e.version = opened h k e.version le (omega (arith, f.version_in_force)) in
        let sheet : IsSheet (sheet_at i h.sheets e.version) =
        sheet_valid i (take o.at h.postings) (prices_at h.sheets e.version) v (meets_there k e.version le o)
        e.version in
        let s : IsStem e.stem = b.1 in
        record {
          call = call_yes (call_of_cut e) b.0
              (subst (λ n. IsWithin 1 1000000 n) (sym f.number_is_next) (number_in k (Cut e) at))
              (omega (arith, f.version_in_force, version_in k (Cut e) at));
          stem_number = b.2;
          species = within_yes SPECIES.low SPECIES.high e.stem.species s.species.0 s.species.1;
          samples_number = within_yes 1 MOST_SAMPLES (length e.stem.samples) s.samples_number.0 s.samples_number.1;
          samples_range =
              all_within_yes SAMPLES.high e.stem.samples
              (recursion_from_All (λ d. d ≤ SAMPLES.high) e.stem.samples s.samples_range);
          zones_number = s.zones_number;
          zones_range =
              zones_yes 0 e.stem.zones s.starts_rise
              (recursion_from_All (λ z. z.0 ≤ STARTS.high) e.stem.zones s.starts_range)
              (recursion_from_All (λ z. IsGrade z.1) e.stem.zones s.grades_range);
          logs_number = few_logs i e.stem e.logs v s f.holds.0.admissible;
          logs_range = logs_yes i e.stem 0 e.logs v s f.holds.0.admissible;
          worth = omega (
            arith,
            f.holds.1,
            (cut_bounded (sheet_at i h.sheets e.version) e.stem e.logs sheet s f.holds.0.admissible).1,
          );
        }

    demand_in : (k : ℕ) (d : DemandParts) → slice_get h.postings k ≡ Some (Demand d) → IsOfBook (Demand d)
        → IsDemandInRange d
    demand_in k d at b =
        let f : Follows h.instruction h.sheets (take k h.postings) (Demand d) = l.postings_follow k (Demand d) at in
        record {
          call = search (rules, call_yes, number_in, version_in);
          targets_number = omega (arith, f.holds.one_each, classes-le h.instruction v);
          targets_range =
              all_within_yes TARGETS.high d.targets
              (recursion_from_All (λ t. t ≤ TARGETS.high) d.targets
              (λ k c lt. subst (λ t. t ≤ TARGETS.high) (get_or_default d.targets k 0 c lt) (f.holds.low k lt)));
        }

    posting_in : (k : ℕ) (x : Posting) → slice_get h.postings k ≡ Some x → IsOfBook x → IsInRange x
    posting_in k (Cut e) at b = cut_in k e at b
    posting_in k (Demand d) at b = demand_in k d at b

    sheet_in : (k : ℕ) → k < length h.sheets → AreSheetPrices (prices_at h.sheets k)
    sheet_in k lt =
        let n : ℕ = length h.postings in
        let whole : version_at h n ≡ ends_of h.instruction h.postings = grind (arith, take_all) in
        let o : Opened h n k = opened h n k (omega arith) (omega (arith, whole, l.sheets_number)) in
        sheet_prices h.instruction (take o.at h.postings) (prices_at h.sheets k) v (meets_there n k (omega arith) o)

    pub in_range : ((k : ℕ) (x : Posting) → slice_get h.postings k ≡ Some x → IsOfBook x)
        → AreInRange h.sheets h.postings
    in_range of_book = record {
      few = few;
      sheets = λ k d lt. subst AreSheetPrices (get_or_default h.sheets k [] d lt) (sheet_in k lt);
      postings = grind (arith, slice_get-get_or, posting_in);
    }
