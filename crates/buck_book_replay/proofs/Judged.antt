-- What comes of a history of which the first doubtful posting is known.
use Rattle.buck_book_replay.proofs.Words.{◌≡◌, ℕ, ◌+◌, ◌<◌, ◌≤◌, inl, inr, true, false, List, length, take, subst, slice_get, Option, Some, None, refl, arith, rules, common_steps, cases_lt, slice_get_within, IsInstruction, Posting, Cut}
use Rattle.buck_book_replay.proofs.Words.{Demand, planned_version, HistoryParts, Follows, sheet_at, ReplayFault, Outvalued, Result, Ok, Err, IfOk, IfErr, OnOk, IsLawful, IsOrdered, version_at, IsRightBefore, IsContentFault, IsFirstFault}
use Rattle.buck_book_replay.proofs.Words.{IsPriced, IsRightUnder, IsInOrderBefore, IsWrongAt, IsOutvalued, IsDoubtful, NoneDoubtful, IsFirstDoubtful, IsFound}
use Rattle.std.specs.Option.{is_some}
use Rattle.buck_book_journal.proofs.Periods.{opened}
use Rattle.buck_book_replay.proofs.Replays.{ordered_within, lawful_when}

module _ (h : HistoryParts) where
  -- the next posting isn't doubtful either
  pub none_more : (from at : ℕ) (x : Posting) → slice_get h.postings at ≡ Some x → NoneDoubtful h from at
      → IsDoubtful h x false → NoneDoubtful h from (at + 1)
  none_more from at x there none more j y ge lt got = grind (arith, common_steps)

  none_further : (from mid n to : ℕ) → ((j : ℕ) → j < to → j < length h.postings → j < n)
      → NoneDoubtful h from mid → NoneDoubtful h mid n → NoneDoubtful h from to
  none_further from mid n to far old new j x ge lt at = elim (cases_lt j mid) [
    | inl before ↦ old j x ge before at
    | inr past ↦ new j x past (far j lt (slice_get_within h.postings j x at)) at
  ]

  -- what is found from a place on is found from an earlier one on, if none between is doubtful
  pub found_further : (from mid n to : ℕ) (found : Option ℕ) → ((j : ℕ) → j < to → j < length h.postings → j < n)
      → NoneDoubtful h from mid → IsFound h mid n found → IsFound h from to found
  found_further from mid n to None far old new = none_further from mid n to far old new
  found_further from mid n to (Some at) far old new = record {
    next = new.next;
    there = new.there;
    wrong = new.wrong;
    before = none_further from mid at at (λ j lt l. lt) old new.before;
  }

  -- what is found before a place is found before any other
  pub found_before : (front to : ℕ) (found : Option ℕ) → true ≡ is_some found → IsFound h 0 front found
      → IsFound h 0 to found
  found_before front to None some first = absurd (cc)
  found_before front to (Some at) some first = first

  pub none_before : (front : ℕ) (found : Option ℕ) → false ≡ is_some found → IsFound h 0 front found
      → NoneDoubtful h 0 front
  none_before front None some none = none
  none_before front (Some at) some none = absurd (cc)

  -- the sheets of postings in order are there and right
  priced_before : (k : ℕ) → k ≤ length h.postings → IsInOrderBefore h k → (j : ℕ) (x : Posting)
      → j < k
      → slice_get h.postings j ≡ Some x
      → IsPriced h.instruction h.sheets (planned_version x)
  priced_before k le before j x lt at =
      let from = opened h j (version_at h j) (omega (arith, lt, le)) (omega arith) in
      search rules

  -- a posting that is right, and isn't outvalued, may follow
  follows : (before : List Posting) (x : Posting)
      → IsRightUnder (sheet_at h.instruction h.sheets (planned_version x)) before x
      → IsOutvalued (sheet_at h.instruction h.sheets (planned_version x)) x false
      → Follows h.instruction h.sheets before x
  follows before (Cut e) r none =
      record { number_is_next = r.numbered; version_in_force = r.of_version; holds = grind (arith, none) }
  follows before (Demand d) r none =
      record { number_is_next = r.numbered; version_in_force = r.of_version; holds = r.holds }

  right_before : (k n : ℕ) → k ≤ n → IsInOrderBefore h n → NoneDoubtful h 0 k → IsRightBefore h k
  right_before k n le before none = record {
    sheets = λ j lt b. before.sheets j (omega arith) b;
    postings = λ j x lt at.
        follows (take j h.postings) x (before.postings j x (omega arith) at) (none j x (omega arith) lt at);
  }

  outvalued_there : (at : ℕ) (x : Posting)
      → IsRightUnder (sheet_at h.instruction h.sheets (planned_version x)) (take at h.postings) x
      → IsOutvalued (sheet_at h.instruction h.sheets (planned_version x)) x true
      → IsContentFault (sheet_at h.instruction h.sheets (planned_version x)) x at (Outvalued at)
  outvalued_there at (Cut e) r more = (refl, r.holds.0, r.holds.1, (more.0, more.1, omega (arith, more.2, r.holds.1)))
  outvalued_there at (Demand d) r more = absurd more

  -- the first doubtful posting in order has the first fault
  doubtful_is_met : (until at : ℕ) → until ≤ length h.postings → IsInOrderBefore h until → at < until
      → IsFirstDoubtful h 0 at → IsFirstFault h (Outvalued at)
  doubtful_is_met until at le before lt first =
      let r = before.postings at first.next lt first.there in
      let more = first.wrong (priced_before until le before at first.next lt first.there) in
      grind (arith, right_before, outvalued_there, first.next, first.there, first.before, before.sheets, r.of_version, r.numbered)

  pub first_is_met : (until at : ℕ) (outcome : Result (Unit {0}) ReplayFault) → IsOrdered h until outcome → at < until
      → IsFirstDoubtful h 0 at → IsFirstFault h (Outvalued at)
  first_is_met until at outcome o lt first =
      doubtful_is_met until at (ordered_within h until outcome o) o.right lt first

  -- if none is, what is wrong at the end of the order is the first
  stop_is_met : (until : ℕ) (fault : ReplayFault) → IsInOrderBefore h until
      → NoneDoubtful h 0 until → IsWrongAt h until fault → IsFirstFault h fault
  stop_is_met until fault before none wrong = grind (arith, right_before)

  -- and what came of the journal there is the answer
  pub answer_of_walk : (until : ℕ) (outcome : Result (Unit {0}) ReplayFault) → IsInstruction h.instruction
      → IsOrdered h until outcome → NoneDoubtful h 0 until
      → OnOk outcome (IsLawful h) × IfErr outcome (IsFirstFault h)
  answer_of_walk until (Ok w) valid o none = grind (arith, lawful_when, right_before, o.ended, o.right)
  answer_of_walk until (Err fault) valid o none = (tt, stop_is_met until fault o.right none o.stopped)

-- what a thread found
pub told : {X E : Type 0} (P : X → Type 0) (r : Result X E) (x : X) → IfOk r P → r ≡ Ok x → P x
told P r x ok same = subst (λ q. IfOk q P) same ok

-- what a walk and a search beside it come to
pub ruleset joined = (told, found_further, found_before, none_before)
