-- What a book keeps, one posting on.
use Rattle.buck_book_postings.proofs.Words.{◌≡◌, ℕ, ◌-◌, ◌<◌, inl, inr, List, [], ◌∷◌, ◌++◌, Option, length, set, get_or, append-nil, refl, sym, arith, rules, common_steps, length_push, option_to_list, InstructionParts, IsWithin}
use Rattle.buck_book_postings.proofs.Words.{SheetParts, Posting, Cut, Demand, EntryParts, DemandParts, harvester_of, number_of, planned_version, AreTargets, HistoryParts, Follows, IsEnd, IsNextSheet, sheets_with, history_with, version_of}
use Rattle.buck_book_postings.proofs.Words.{in_force, PlanParts, IsPlan, BookParts, book_of, IsBook, IsFirst, IsNext, IsReadyToAdd, SameContent, entry_of, demand_of, Running, Keeps, Tells, IsAfter, IsCopy, IsSheetAfter, Standing, Bor}
use Rattle.buck_book_postings.proofs.Words.{Shared}
use Rattle.buck_book_postings.proofs.Counting.{calls_more}
use Rattle.buck_book_postings.proofs.Ends.{ends_with_end}
use Rattle.buck_book_postings.proofs.Extend.{slice_get-push, version_within, one_more, prices_stay}
use Rattle.buck_book_postings.proofs.Sheets.{length-sheets_from, get_or-sheets_from, sheets_from-append}

-- the version in force has a sheet
pub in_sheets : {F : Type 0} (b : BookParts F) (sheets : List SheetParts) (n : Running) (calls : List ℕ)
    → Keeps b sheets n calls → version_of b.history < length sheets
in_sheets b sheets n calls k = search (rules, length-sheets_from)

-- the sheet at its place is the sheet in force
pub force_is : {F : Type 0} (b : BookParts F) (sheets : List SheetParts) (n : Running) (calls : List ℕ)
    (d : SheetParts) → Keeps b sheets n calls → get_or sheets (version_of b.history) d ≡ in_force b.history
force_is b sheets n calls d k = grind (arith, get_or-sheets_from)

-- a cutting stays the first of the best with more sheets
first_stays : (h : HistoryParts) (x y : Posting) (next : Option SheetParts) → planned_version y < length h.sheets
    → IsFirst h y → IsFirst (history_with h x next) y
first_stays h x y next lt f = grind (arith, prices_stay)

-- a book is one with a posting more that may follow
pub book_more : {F : Type 0} (b : BookParts F) (x : Posting) (next : Option SheetParts) (room sheet_room : ℕ)
    → IsBook b → Follows b.history.instruction b.history.sheets b.history.postings x → IsNext b.history x next
    → IsFirst b.history x → IsWithin 1 64 (harvester_of x)
    → length b.history.postings < b.capacity
    → IsBook (book_of b.rule b.history.instruction (sheets_with b.history.sheets next) (b.history.postings ++ x ∷ [])
    b.capacity room sheet_room)
book_more b x next room sheet_room k follows n first in_range below = record {
  valid = k.valid;
  lawful = one_more b.history x next k.lawful follows n;
  firsts = λ j y at. elim (slice_get-push b.history.postings x y j at) [
    | inl old ↦ first_stays b.history x y next (version_within b.history j y k.lawful old.1).1 (k.firsts j y old.1)
    | inr new ↦ search (rules, first_stays)
  ];
  harvesters = search (rules, slice_get-push);
  within = omega (arith, length_push b.history.postings x);
  capacity_range = k.capacity_range;
}

-- what is kept after a posting more
pub keeps_more : {F : Type 0} (b : BookParts F) (sheets : List SheetParts) (n n' : Running) (calls : List ℕ)
    (x : HistoryParts → Posting) (next : Option SheetParts) (room sheet_room : ℕ)
    → Keeps b sheets n calls → length b.history.postings < b.capacity → IsWithin 1 64 (harvester_of (x b.history))
    → Follows b.history.instruction b.history.sheets b.history.postings (x b.history) × IsFirst b.history (x b.history)
    → IsNext b.history (x b.history) next → IsAfter b.history.instruction n (x b.history) n'
    → Keeps
    (book_of b.rule b.history.instruction (sheets_with b.history.sheets next) (b.history.postings ++ x b.history ∷ [])
    b.capacity room sheet_room) (sheets ++ option_to_list next) n'
    (set calls (harvester_of (x b.history) - 1) (number_of (x b.history)))
keeps_more b sheets n n' calls x next room sheet_room k below own may is_next told =
    let y : Posting = x b.history in
    record {
      is_book = book_more b y next room sheet_room k.is_book may.0 is_next may.1 own below;
      sheets_are = grind (arith, append-nil, sheets_from-append);
      tells = told b.history.postings (omega (arith, below, k.is_book.capacity_range)) k.tells;
      calls_are = search (rules, calls_more);
    }

-- a plan's entry may follow
pub entry_follows : (h : HistoryParts) (harvester : ℕ) (p : PlanParts) → IsPlan p → p.sheet ≡ in_force h
    → Follows h.instruction h.sheets h.postings (Cut (entry_of h harvester p))
    × IsFirst h (Cut (entry_of h harvester p))
entry_follows h harvester p plan same = grind (arith, common_steps)

-- what runs on after it
pub entry_after : (h : HistoryParts) (harvester : ℕ) (p : PlanParts) (n n' : Running) → p.sheet ≡ in_force h
    → ((e : EntryParts) → e.stem ≡ p.stem → e.logs ≡ p.logs → IsAfter p.sheet.instruction n (Cut e) n')
    → IsAfter h.instruction n (Cut (entry_of h harvester p)) n'
entry_after h harvester p n n' same told = grind arith

-- what runs on in a book below its capacity, with a posting more: d is the book as callers see it
module _ {F : Type 0} (b d : BookParts F) (sheets : List SheetParts) (n : Running) (calls : List ℕ) (view : b ≡ d)
    (k : Keeps b sheets n calls) (below : length d.history.postings < d.capacity) where
  few : length b.history.postings < 1000000
  few = omega (arith, (rw (sym view) at below), k.is_book.capacity_range)

  pub passed_cut : (p : PlanParts) (n₁ n' : Running) → p.sheet ≡ in_force d.history → IsCopy n n₁
      → ((e : EntryParts) → e.stem ≡ p.stem → e.logs ≡ p.logs → IsAfter p.sheet.instruction n₁ (Cut e) n')
      → (harvester : ℕ) → Tells b.history.instruction (b.history.postings ++ Cut (entry_of b.history harvester p) ∷ []) n'
  passed_cut p n₁ n' same is told harvester =
      entry_after b.history harvester p n₁ n' (rw (sym view) at same) told b.history.postings few (is _ _ k.tells)

  pub passed_demand : (targets : List ℕ) (n₁ n' : Running) → AreTargets b.history.instruction targets → IsCopy n n₁
      → ((i : InstructionParts) (x : DemandParts) → x.targets ≡ targets → AreTargets i x.targets
      → IsAfter i n₁ (Demand x) n')
      → (harvester : ℕ)
      → Tells b.history.instruction (b.history.postings ++ Demand (demand_of b.history harvester targets) ∷ []) n'
  passed_demand targets n₁ n' valid is told harvester =
      told b.history.instruction (demand_of b.history harvester targets) refl valid b.history.postings few (is _ _ k.tells)

-- the sheet in force after an end is the next sheet
pub is_next_sheet : {F : Type 0} (g : Shared F (Bor Standing × Unit {0}) ℕ) (f : F) (h : HistoryParts) (x : Posting)
    (s : SheetParts) → IsSheetAfter g f h.instruction (h.postings ++ x ∷ []) s → IsEnd h.instruction h.postings x
    → IsNextSheet h x s
is_next_sheet g f h x s sheet last = grind (arith, ends_with_end)

-- what was made for a book can be added to it when more memory is held ready
pub ready_to_add : {F : Type 0} (a b : BookParts F) (x : HistoryParts → ℕ → Posting) (next : Option SheetParts)
    → SameContent a b → length a.history.postings < a.capacity
    → ((h : ℕ) → IsNext a.history (x a.history h) next) → length b.history.postings < b.room
    → length b.history.sheets < b.sheet_room → IsReadyToAdd b (x b.history) next
ready_to_add a b x next same below is_next posting sheet = search rules
