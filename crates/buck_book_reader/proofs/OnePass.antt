-- A journal that is gone through item by item is read as what was found.
use Rattle.buck_book_reader.proofs.Words.{◌≡◌, ℕ, ◌+◌, ◌<◌, ◌≤◌, Bool, true, false, List, [], ◌∷◌, ◌++◌, Some, Ok, Result, codes, length, slice_get, refl, arith, append_assoc, eq-eqb, bytes_eq, lt-ltb, and_from, append-nil, ItemParts}
use Rattle.buck_book_reader.proofs.Words.{Slot, items_of, numbers_of, number_of, is_at, ◌>>=◌, check, Joins, Leads, item_in, joined, leads_on, slot, file_slot, TARGETS, stem_of, Log, Posting, Cut, Demand, Call, JournalFault, numbers_at}
use Rattle.buck_book_reader.proofs.Words.{Form, says, item_at, list_form, call_form, call_at, head_form, samples_form, zones_form, logs_form, worth_at, follows, entry_of, stem_at, cut_at, demand_of, demand_at, posting_at, sheets_from}
use Rattle.buck_book_reader.proofs.Words.{postings_from, journal_in, journal_of, LeadsNumbers, LeadsWorth, begins, ArePostings, AreParts, LeadsPostings, HasPostings, LeadsSheets}
use Rattle.buck_book_reader.specs.Plain.{LeadsTo}

-- ---- an item
is_at_its_slot : (s : Slot) (t : List ℕ) → is_at s (item_in s t) ≡ true
is_at_its_slot s t = and_from _ _ (eq-eqb s.number s.number refl) (eq-eqb s.kind s.kind refl)

module _ {X : Type 0} where
  tests_say : (b c : Bool) (x y : X) (e f e' f' : JournalFault)
      → (let t : Result X JournalFault = check b e >>= λ _. check c f >>= λ _. Ok y in t ≡ Ok x)
      → (let t : Result X JournalFault = check b e' >>= λ _. check c f' >>= λ _. Ok y in t ≡ Ok x)
  tests_say true true x y e f e' f' h = h
  tests_say true false x y e f e' f' h = cc
  tests_say false c x y e f e' f' h = cc

  -- numbers say the same wherever their item stands
  say_there : (form : Form X) (ns : List ℕ) (x : X) (place : ℕ) → says form 1 ns ≡ Ok x → says form place ns ≡ Ok x
  say_there form ns x place h = tests_say (form.count ns) (form.range ns) x (form.value ns) _ _ _ _ h

  item_says : (s : Slot) (form : Form X) (t ns : List ℕ) (x : X) → numbers_of t ≡ Ok ns → says form 1 ns ≡ Ok x
      → (place : ℕ) → item_at s form place (Some (item_in s t)) ≡ Ok x
  unfolding item_at numbers_at
  item_says s form t ns x read h place = rw (is_at_its_slot s t, read) (say_there form ns x place h)

call_says : (s : Slot) (before : ℕ) (t ns : List ℕ) (c : Call) → before < 1000000
    → numbers_of t ≡ Ok ns → says call_form 1 ns ≡ Ok c
    → (place : ℕ) → call_at s before place (Some (item_in s t)) ≡ Ok c
unfolding call_at numbers_at
call_says s before t ns c few read h place = grind (arith, is_at_its_slot, lt-ltb, say_there)

worth_says : (t : List ℕ) (worth : ℕ) → number_of 18446744073709551615 t ≡ Ok worth
    → (place : ℕ) → worth_at place (Some (item_in (slot 981 6) t)) ≡ Ok worth
unfolding worth_at
worth_says t worth read place = rw read refl

-- ---- a posting
then_follows : (place : ℕ) (items : List ItemParts)
    → begins items ≡ true → follows place (slice_get items 0) ≡ Ok tt
then_follows place [] h = refl
then_follows place (x ∷ xs) h = rw h refl

pub cut_leads : (c : Call) (head : ℕ × ℕ) (samples : List ℕ) (zones : List (ℕ × ℕ)) (logs : List Log) (w : ℕ)
    (text called named sampled zoned logged left n₁ n₂ n₃ n₄ n₅ : List ℕ)
    → LeadsNumbers (slot 981 1) text n₁ called → says call_form 1 n₁ ≡ Ok c
    → LeadsNumbers (slot 981 2) called n₂ named → says head_form 1 n₂ ≡ Ok head
    → LeadsNumbers (slot 981 3) named n₃ sampled → says samples_form 1 n₃ ≡ Ok samples
    → LeadsNumbers (slot 981 4) sampled n₄ zoned → says zones_form 1 n₄ ≡ Ok zones
    → LeadsNumbers (slot 981 5) zoned n₅ logged → says logs_form 1 n₅ ≡ Ok logs
    → LeadsWorth logged w left
    → LeadsPostings text (Cut (entry_of c (stem_of head.0 head.1 samples zones) logs w) ∷ []) left
unfolding postings_from posting_at cut_at stem_at
cut_leads c head samples zones logs w text called named sampled zoned logged left n₁ n₂ n₃ n₄ n₅ l₁ s₁ l₂ s₂ l₃ s₃ l₄ s₄ l₅
    s₅ l₆ = record {
      items = item_in (slot 981 1) l₁.rest ∷ item_in (slot 981 2) l₂.rest ∷ item_in (slot 981 3) l₃.rest
          ∷ item_in (slot 981 4) l₄.rest ∷ item_in (slot 981 5) l₅.rest ∷ item_in (slot 981 6) l₆.rest ∷ [];
      leads = λ more h.
          leads_on l₁.leads _
          (leads_on l₂.leads _
          (leads_on l₃.leads _ (leads_on l₄.leads _ (leads_on l₅.leads _ (leads_on l₆.leads more h)))));
      read = λ p more others after. record {
        begin = refl;
        read = λ k before few. rw (
          call_says (slot 981 1) before l₁.rest n₁ c (omega (arith, few)) l₁.read s₁ (k + 1),
          item_says (slot 981 2) head_form l₂.rest n₂ head l₂.read s₂ (k + 2),
          item_says (slot 981 3) samples_form l₃.rest n₃ samples l₃.read s₃ (k + 3),
          item_says (slot 981 4) zones_form l₄.rest n₄ zones l₄.read s₄ (k + 4),
          item_says (slot 981 5) logs_form l₅.rest n₅ logs l₅.read s₅ (k + 5),
          worth_says l₆.rest w l₆.read (k + 6),
          then_follows (k + 7) more after.begin,
          after.read (k + 1 + 1 + 1 + 1 + 1 + 1) (before + 1) (omega (arith, few)),
        ) refl;
      };
    }

pub demand_leads : (c : Call) (text called targets left n₁ : List ℕ)
    → LeadsNumbers (slot 982 1) text n₁ called → says call_form 1 n₁ ≡ Ok c
    → LeadsNumbers (slot 982 2) called targets left → says (list_form TARGETS.low TARGETS.high) 1 targets ≡ Ok targets
    → LeadsPostings text (Demand (demand_of c targets) ∷ []) left
unfolding postings_from posting_at demand_at
demand_leads c text called targets left n₁ l₁ s₁ l₂ s₂ = record {
  items = item_in (slot 982 1) l₁.rest ∷ item_in (slot 982 2) l₂.rest ∷ [];
  leads = λ more h. leads_on l₁.leads _ (leads_on l₂.leads more h);
  read = λ p more others after. record {
    begin = refl;
    read = λ k before few. rw (
      call_says (slot 982 1) before l₁.rest n₁ c (omega (arith, few)) l₁.read s₁ (k + 1),
      item_says (slot 982 2) (list_form TARGETS.low TARGETS.high) l₂.rest targets targets l₂.read s₂ (k + 2),
      then_follows (k + 3) more after.begin,
      after.read (k + 1 + 1) (before + 1) (omega (arith, few)),
    ) refl;
  };
}

pub sheet_leads : (text prices left : List ℕ)
    → LeadsNumbers (slot 971 1) text prices left → says (list_form 0 20000000) 1 prices ≡ Ok prices
    → LeadsSheets text (prices ∷ []) left
unfolding sheets_from postings_from
sheet_leads text prices left l h = record {
  items = item_in (slot 971 1) l.rest ∷ [];
  leads = leads_on l.leads;
  read = λ ps more others after. record {
    sheets_read = λ k. rw (
      item_says (slot 971 1) (list_form 0 20000000) l.rest prices prices l.read h (k + 1),
      after.sheets_read (k + 1),
    ) refl;
    postings_read = λ k. after.postings_read (k + 1);
  };
}

-- ---- posting after posting, and sheet after sheet
module _ {P X : Type 0} {Are : P → List ItemParts → List X → Type 0} where
  pub starts : (text : List ℕ) → LeadsTo Are text [] text
  starts text = record { items = []; leads = λ more h. h; read = λ p more others h. h }

  pub goes_on : (text rest left : List ℕ) (xs ys : List X)
      → LeadsTo Are text xs rest → LeadsTo Are rest ys left → LeadsTo Are text (xs ++ ys) left
  goes_on text rest left xs ys l m = record {
    items = l.items ++ m.items;
    leads = λ more h. rw (append_assoc l.items m.items more) (l.leads (m.items ++ more) (m.leads more h));
    read = λ p more others h. rw (append_assoc l.items m.items more, append_assoc xs ys others)
        (l.read p (m.items ++ more) (ys ++ others) (m.read p more others h));
  }

pub ruleset steps = (starts, goes_on)

pub postings_join : (text front back : List ℕ) (ps qs : List Posting)
    → Joins text front back → HasPostings front ps → HasPostings back qs → HasPostings text (ps ++ qs)
postings_join text front back ps qs joins l m =
    let xs = l.leads.items in
    let ys = m.leads.items in
    record {
      left = m.left;
      leads = record {
        items = xs ++ ys;
        leads = λ more h. rw (append_assoc xs ys more)
            (joined text front back xs (ys ++ more) joins (rw (append-nil xs) at (l.leads.leads [] l.none))
            (m.leads.leads more h));
        read = λ p more others h. rw (append_assoc xs ys more, append_assoc ps qs others)
            (l.leads.read p (ys ++ more) (qs ++ others) (m.leads.read p more others h));
      };
      none = m.none;
    }

-- ---- the file
no_postings : ArePostings [] []
unfolding postings_from
no_postings = record { begin = refl; read = λ k before few. refl }

no_sheets : (k : ℕ) (items : List ItemParts) → begins items ≡ true → sheets_from k items ≡ Ok []
unfolding sheets_from
no_sheets k [] h = refl
no_sheets k (x ∷ xs) h = rw h refl

-- A file that begins with the kind of file and the items of sheets, and goes on with those of postings, is read as
-- these.
pub plain_journal : (bytes kind body rest : List ℕ) (pss : List (List ℕ)) (ps : List Posting)
    → Leads bytes (item_in file_slot kind) body
    → bytes_eq kind (codes "JRN") ≡ true
    → LeadsSheets body pss rest
    → length ps ≤ 1000000
    → HasPostings rest ps
    → journal_of bytes ≡ Ok (record { sheets = pss; entries = ps })
unfolding journal_of journal_in postings_from items_of
plain_journal bytes kind body rest pss ps first named l few h =
    let ys = h.leads.items in
    let last : ArePostings (ys ++ []) ps = rw (append-nil ps) at (h.leads.read tt [] [] no_postings) in
    let all : AreParts ps (l.items ++ (ys ++ [])) (pss ++ []) =
    l.read ps (ys ++ []) []
    (record { sheets_read = λ k. no_sheets k _ last.begin; postings_read = λ k. last.read k 0 (omega (arith, few)) }) in
    rw (
      leads_on first _ (l.leads _ (h.leads.leads [] h.none)) 1,
      named,
      all.sheets_read 1,
      all.postings_read (0 + 1),
      append-nil pss,
    ) refl
