-- The text of a journal is read again.
use Rattle.buck_book_laws.proofs.Words.{◌≡◌, ℕ, ◌+◌, ◌*◌, ◌<◌, ◌≤◌, ◌^◌, true, List, [], ◌∷◌, ◌++◌, Ok, length, refl, ap, arith, subst, append_assoc, append-nil, codes, eq-eqb, rules, AllByRecursion, flat_map, decimal, digits}
use Rattle.buck_book_laws.proofs.Words.{recursion_from_All, le-leb, and_from, nat_tests, within, all_within, both, within_ok, slot, TARGETS, SAMPLES, MOST_ZONES, zones_of, Log, Posting, Cut, Demand, Call, says, list_form, is_call}
use Rattle.buck_book_laws.proofs.Words.{is_zone, are_zones, zones_form, is_log, are_logs, logs_of, logs_form, journal_of, item_text, sheet_text, cut_text, demand_text, posting_text, journal_text, zone_numbers, log_numbers}
use Rattle.buck_book_laws.proofs.Words.{AreSheetPrices, IsInRange, AreInRange, call_of_cut, call_of_demand, LeadsPostings, LeadsSheets}
use Rattle.buck_book_laws.proofs.Lines.{numbers_lead, worth_leads, kind_leads, nothing_left}
use Rattle.buck_book_reader.proofs.OnePass.{cut_leads, demand_leads, sheet_leads, starts, goes_on, plain_journal}

-- numbers that are in range are small
in_small : (low high : ℕ) (ns : List ℕ) → high ≤ 4294967295 → all_within low high ns ≡ true
    → AllByRecursion (λ n. n ≤ 4294967295) ns
in_small low high [] le h = tt
in_small low high (n ∷ ns) le h =
    let p = both (within low high n) (all_within low high ns) h in
    search (rules, within_ok, (in_small low high ns le p.1))

call_small : (c : Call) → is_call c ≡ true
    → AllByRecursion (λ n. n ≤ 4294967295) (c.harvester ∷ c.number ∷ c.version ∷ [])
call_small c h = (grind (arith, nat_tests), (grind (arith, nat_tests), (grind (arith, nat_tests), tt)))

-- zones and their numbers
zones_back : (zones : List (ℕ × ℕ)) → zones_of (zone_numbers zones) ≡ zones
zones_back [] = refl
zones_back (z ∷ zs) = ap (λ ys. z ∷ ys) (zones_back zs)

zones_length : (zones : List (ℕ × ℕ)) → length (zone_numbers zones) ≡ 2 * length zones
zones_length [] = refl
zones_length (z ∷ zs) = let h = zones_length zs in omega arith

zones_small : (low : ℕ) (zones : List (ℕ × ℕ)) → are_zones low (zone_numbers zones) ≡ true
    → AllByRecursion (λ n. n ≤ 4294967295) (zone_numbers zones)
zones_small low [] h = tt
zones_small low (z ∷ zs) h =
    let p = both (is_zone low z.0 z.1) (are_zones (z.0 + 1) (zone_numbers zs)) h in
    search (rules, nat_tests, (zones_small (z.0 + 1) zs p.1))

-- logs and their numbers
logs_back : (logs : List Log) → logs_of (log_numbers logs) ≡ logs
logs_back [] = refl
logs_back (g ∷ gs) = ap (λ ys. g ∷ ys) (logs_back gs)

logs_length : (logs : List Log) → length (log_numbers logs) ≡ 3 * length logs
logs_length [] = refl
logs_length (g ∷ gs) = let h = logs_length gs in omega arith

logs_small : (logs : List Log) → are_logs (log_numbers logs) ≡ true
    → AllByRecursion (λ n. n ≤ 4294967295) (log_numbers logs)
logs_small [] h = tt
logs_small (g ∷ gs) h =
    let p = both (is_log g.start g.length g.assortment) (are_logs (log_numbers gs)) h in
    search (rules, nat_tests, (logs_small gs p.1))

-- what was written is said
zones_said : (zones : List (ℕ × ℕ)) → length zones ≤ MOST_ZONES → are_zones 0 (zone_numbers zones) ≡ true
    → says zones_form 1 (zone_numbers zones) ≡ Ok zones
zones_said zones few range = grind (arith, zones_length, and_from, eq-eqb, le-leb, zones_back)

logs_said : (logs : List Log) → length logs ≤ 80 → are_logs (log_numbers logs) ≡ true
    → says logs_form 1 (log_numbers logs) ≡ Ok logs
logs_said logs few range = grind (arith, logs_length, and_from, eq-eqb, le-leb, logs_back)

list_said : (low high : ℕ) (ns : List ℕ) → length ns ≤ 16384 → all_within low high ns ≡ true
    → says (list_form low high) 1 ns ≡ Ok ns
list_said low high ns few range = rw (le-leb (length ns) 16384 few, range) refl

-- the heads of items, in digits
heads_are : (codes "971 1" ≡ decimal 971 ++ 32 ∷ decimal 1) × (codes "981 1" ≡ decimal 981 ++ 32 ∷ decimal 1)
    × (codes "981 2" ≡ decimal 981 ++ 32 ∷ decimal 2) × (codes "981 3" ≡ decimal 981 ++ 32 ∷ decimal 3)
    × (codes "981 4" ≡ decimal 981 ++ 32 ∷ decimal 4) × (codes "981 5" ≡ decimal 981 ++ 32 ∷ decimal 5)
    × (codes "981 6" ≡ decimal 981 ++ 32 ∷ decimal 6) × (codes "982 1" ≡ decimal 982 ++ 32 ∷ decimal 1)
    × (codes "982 2" ≡ decimal 982 ++ 32 ∷ decimal 2)
unfolding digits
heads_are = (refl, refl, refl, refl, refl, refl, refl, refl, refl)

regroup : (a b c d e f rest : List ℕ)
    → a ++ (b ++ (c ++ (d ++ (e ++ (f ++ rest))))) ≡ (((((a ++ b) ++ c) ++ d) ++ e) ++ f) ++ rest
regroup a b c d e f rest = simp append_assoc

-- the text of a posting leads to it, and so do those of many
posting_leads : (p : Posting) → IsInRange p → (rest : List ℕ)
    → LeadsPostings (10 ∷ (posting_text p ++ rest)) (p ∷ []) (10 ∷ rest)
unfolding cut_text demand_text
posting_leads (Cut e) r rest =
    let call : List ℕ = item_text (codes "981 1") (e.harvester ∷ e.number ∷ e.version ∷ []) in
    let head : List ℕ = item_text (codes "981 2") (e.stem.number ∷ e.stem.species ∷ []) in
    let samples : List ℕ = item_text (codes "981 3") e.stem.samples in
    let zones : List ℕ = item_text (codes "981 4") (zone_numbers e.stem.zones) in
    let logs : List ℕ = item_text (codes "981 5") (log_numbers e.logs) in
    let worth : List ℕ = item_text (codes "981 6") (e.worth ∷ []) in
    subst (λ t. LeadsPostings (10 ∷ t) (Cut e ∷ []) (10 ∷ rest)) (regroup call head samples zones logs worth rest)
    (cut_leads (call_of_cut e) (e.stem.number, e.stem.species) e.stem.samples e.stem.zones e.logs e.worth
    _ _ _ _ _ _ _ _ _ _ _ _
    (numbers_lead (slot 981 1) (codes "981 1") (e.harvester ∷ e.number ∷ e.version ∷ [])
    (head ++ (samples ++ (zones ++ (logs ++ (worth ++ rest))))) heads_are.1 (omega arith) (omega arith)
    (call_small (call_of_cut e) r.call)) (rw r.call refl)
    (numbers_lead (slot 981 2) (codes "981 2") (e.stem.number ∷ e.stem.species ∷ [])
    (samples ++ (zones ++ (logs ++ (worth ++ rest)))) heads_are.2 (omega arith) (omega arith)
    (search (rules, within_ok))) (rw r.species refl)
    (numbers_lead (slot 981 3) (codes "981 3") e.stem.samples (zones ++ (logs ++ (worth ++ rest))) heads_are.3
    (omega arith) (omega arith) (in_small SAMPLES.low SAMPLES.high e.stem.samples (omega arith) r.samples_range))
    (rw (r.samples_number, r.samples_range) refl)
    (numbers_lead (slot 981 4) (codes "981 4") (zone_numbers e.stem.zones) (logs ++ (worth ++ rest)) heads_are.4
    (omega arith) (omega arith) (zones_small 0 e.stem.zones r.zones_range))
    (zones_said e.stem.zones r.zones_number r.zones_range)
    (numbers_lead (slot 981 5) (codes "981 5") (log_numbers e.logs) (worth ++ rest) heads_are.5 (omega arith)
    (omega arith) (logs_small e.logs r.logs_range)) (logs_said e.logs r.logs_number r.logs_range)
    (worth_leads (codes "981 6") rest e.worth heads_are.6 r.worth))
posting_leads (Demand d) r rest =
    let called : List ℕ = item_text (codes "982 2") d.targets in
    rw (append_assoc (item_text (codes "982 1") (d.harvester ∷ d.number ∷ d.version ∷ [])) called rest)
    (demand_leads (call_of_demand d) _ (10 ∷ (called ++ rest)) d.targets (10 ∷ rest) _
    (numbers_lead (slot 982 1) (codes "982 1") (d.harvester ∷ d.number ∷ d.version ∷ []) (called ++ rest) heads_are.7
    (omega arith) (omega arith) (call_small (call_of_demand d) r.call)) (rw r.call refl)
    (numbers_lead (slot 982 2) (codes "982 2") d.targets rest heads_are.8 (omega arith) (omega arith)
    (in_small TARGETS.low TARGETS.high d.targets (omega arith) r.targets_range))
    (list_said TARGETS.low TARGETS.high d.targets r.targets_number r.targets_range))

postings_lead : (ps : List Posting) → AllByRecursion IsInRange ps → (rest : List ℕ)
    → LeadsPostings (10 ∷ (flat_map posting_text ps ++ rest)) ps (10 ∷ rest)
postings_lead [] r rest = starts (10 ∷ rest)
postings_lead (p ∷ ps) r rest =
    rw (append_assoc (posting_text p) (flat_map posting_text ps) rest)
    (goes_on _ _ _ (p ∷ []) ps (posting_leads p r.0 (flat_map posting_text ps ++ rest)) (postings_lead ps r.1 rest))

sheets_lead : (pss : List (List ℕ)) → AllByRecursion AreSheetPrices pss → (rest : List ℕ)
    → LeadsSheets (10 ∷ (flat_map sheet_text pss ++ rest)) pss (10 ∷ rest)
sheets_lead [] r rest = starts (10 ∷ rest)
sheets_lead (prices ∷ pss) r rest =
    rw (append_assoc (sheet_text prices) (flat_map sheet_text pss) rest)
    (goes_on _ _ _ (prices ∷ []) pss
    (sheet_leads _ prices _
    (numbers_lead (slot 971 1) (codes "971 1") prices (flat_map sheet_text pss ++ rest) heads_are.0 (omega arith)
    (omega arith) (in_small 0 20000000 prices (omega arith) r.0.range))
    (list_said 0 20000000 prices r.0.number r.0.range)) (sheets_lead pss r.1 rest))

-- the journal of a journal's text is what was written
pub read_again : (pss : List (List ℕ)) (ps : List Posting) → AreInRange pss ps
    → journal_of (journal_text pss ps) ≡ Ok (record { sheets = pss; entries = ps })
unfolding journal_text
read_again pss ps range =
    plain_journal (journal_text pss ps) (codes "JRN") _ _ pss ps (kind_leads _) refl
    (sheets_lead pss (recursion_from_All AreSheetPrices pss range.sheets) (flat_map posting_text ps)) range.few
    (record {
      left = 10 ∷ [];
      leads = rw (append-nil (flat_map posting_text ps)) at
          (postings_lead ps (recursion_from_All IsInRange ps range.postings) []);
      none = nothing_left;
    })
