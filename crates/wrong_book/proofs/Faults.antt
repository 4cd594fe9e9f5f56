-- If a cut is outvalued, or a posting has a wrong number, nothing behind it is reported as the first fault.
use Rattle.std.proofs.Common.{◌≡◌, ℕ, ◌<◌, ◌≤◌, inl, inr, List, take, slice_get, Option, None, Some, sym, ap, subst, ◌∙◌, arith}
use Rattle.std.proofs.lemmas.Bool.{cases_lt}
use Rattle.buck_value.specs.declared.log.Log.{Log}
use Rattle.buck_dp.specs.Best.{IsAdmissible, cutting_worth}
use Rattle.buck_book_postings.specs.declared.posting.Posting.{Posting}
use Rattle.buck_book_postings.specs.declared.posting.Posting.TheVariants.{Cut, Demand}
use Rattle.buck_book_postings.specs.Entry.{EntryParts}
use Rattle.buck_book_postings.specs.History.{HistoryParts, sheet_at}
use Rattle.buck_book_journal.specs.declared.replay_fault.ReplayFault.{ReplayFault}
use Rattle.buck_book_journal.specs.declared.replay_fault.ReplayFault.TheVariants.{Numbering, Outvalued}
use Rattle.buck_book_replay.specs.Replay.{IsFaultAt, IsFirstFault, IsMet, IsNumbered}

-- a fault says its own place
place_of : (h : HistoryParts) (k at : ℕ) (x : Posting) → IsFaultAt h k x (Outvalued at) → at ≡ k
place_of h k at x (inl sheet) = absurd sheet.1
place_of h k at (Cut e) (inr (begun, inl call)) = absurd call
place_of h k at (Cut e) (inr (begun, inr content)) = content.2.0
place_of h k at (Demand d) (inr (begun, inl call)) = absurd call
place_of h k at (Demand d) (inr (begun, inr content)) = absurd content.2

place_of_number : (h : HistoryParts) (k at : ℕ) (x : Posting) → IsFaultAt h k x (Numbering at) → at ≡ k
place_of_number h k at x (inl sheet) = absurd sheet.1
place_of_number h k at x (inr (begun, inl call)) = call.0
place_of_number h k at (Cut e) (inr (begun, inr content)) = absurd content.2
place_of_number h k at (Demand d) (inr (begun, inr content)) = absurd content.2

-- if a cut is outvalued, the first fault is at none after it
met_by_then : (h : HistoryParts) (fault : ReplayFault) (first : ℕ) (e : EntryParts) (dearer : List Log)
    → slice_get h.postings first ≡ Some (Cut e)
    → IsAdmissible (sheet_at h.instruction h.sheets e.version) e.stem dearer
    → cutting_worth (sheet_at h.instruction h.sheets e.version) e.stem e.logs
    < cutting_worth (sheet_at h.instruction h.sheets e.version) e.stem dearer
    → (m : IsMet h fault) → m.at ≤ first
met_by_then h fault first e dearer there ok more m = elim (cases_lt first m.at) [
  | inl before ↦
      absurd (omega (arith, (m.right.postings first (Cut e) before there).holds.0.none_outvalues dearer ok, more))
  | inr past ↦ omega (arith, past)
]

pub not_later : (h : HistoryParts) (at first : ℕ) (e : EntryParts) (dearer : List Log)
    → slice_get h.postings first ≡ Some (Cut e)
    → IsAdmissible (sheet_at h.instruction h.sheets e.version) e.stem dearer
    → cutting_worth (sheet_at h.instruction h.sheets e.version) e.stem e.logs
    < cutting_worth (sheet_at h.instruction h.sheets e.version) e.stem dearer
    → IsFirstFault h (Outvalued at)
    → at ≤ first
not_later h at first e dearer there ok more (inl m) =
    omega (arith, met_by_then h (Outvalued at) first e dearer there ok more m, place_of h m.at at m.next m.wrong)
not_later h at first e dearer there ok more (inr m) =
    elim m.wrong [ inl number ↦ absurd number | inr sheet ↦ absurd sheet.2 ]

pub number_not_later : (h : HistoryParts) (at first : ℕ) (e : EntryParts) (dearer : List Log)
    → slice_get h.postings first ≡ Some (Cut e)
    → IsAdmissible (sheet_at h.instruction h.sheets e.version) e.stem dearer
    → cutting_worth (sheet_at h.instruction h.sheets e.version) e.stem e.logs
    < cutting_worth (sheet_at h.instruction h.sheets e.version) e.stem dearer
    → IsFirstFault h (Numbering at)
    → at ≤ first
number_not_later h at first e dearer there ok more (inl m) =
    omega (
      arith,
      met_by_then h (Numbering at) first e dearer there ok more m,
      place_of_number h m.at at m.next m.wrong,
    )
number_not_later h at first e dearer there ok more (inr m) =
    elim m.wrong [ inl number ↦ absurd number | inr sheet ↦ absurd sheet.2 ]

-- a posting at which a cut is outvalued has its right number
numbered : (h : HistoryParts) (k at : ℕ) (x : Posting) → IsFaultAt h k x (Outvalued at)
    → IsNumbered (take k h.postings) x
numbered h k at x (inl sheet) = absurd sheet.1
numbered h k at x (inr (begun, inl call)) = absurd call
numbered h k at x (inr (begun, inr content)) = content.0

abbrev posting_in : Posting → Option Posting → Posting
posting_in other None = other
posting_in other (Some x) = x

-- what stands at one place is one posting
here : (h : HistoryParts) (first : ℕ) (x : Posting) → slice_get h.postings first ≡ Some x
    → (k : ℕ) (y : Posting) → k ≡ first → slice_get h.postings k ≡ Some y
    → IsNumbered (take k h.postings) y → IsNumbered (take first h.postings) x
here h first x there k y same found is =
    let one : y ≡ x =
    ap (posting_in x) (sym found ∙ subst (λ n. slice_get h.postings n ≡ Some x) (sym same) there) in
    subst (λ n. IsNumbered (take n h.postings) x) same (subst (λ z. IsNumbered (take k h.postings) z) one is)

-- if a posting has a wrong number, no cut from there on is reported as outvalued
pub before_wrong_number : (h : HistoryParts) (at first : ℕ) (x : Posting)
    → slice_get h.postings first ≡ Some x
    → (IsNumbered (take first h.postings) x → ⊥)
    → IsFirstFault h (Outvalued at)
    → at < first
before_wrong_number h at first x there wrong (inl m) =
    let place : at ≡ m.at = place_of h m.at at m.next m.wrong in
    elim (cases_lt first m.at) [
      | inl passed ↦ absurd (wrong (m.right.postings first x passed there).number_is_next)
      | inr past ↦ elim (cases_lt m.at first) [
        | inl before ↦ omega (arith, before, place)
        | inr reached ↦
            let same : m.at ≡ first = omega (arith, past, reached) in
            absurd (wrong (here h first x there m.at m.next same m.there (numbered h m.at at m.next m.wrong)))
      ]
    ]
before_wrong_number h at first x there wrong (inr m) =
    elim m.wrong [ inl number ↦ absurd number | inr sheet ↦ absurd sheet.2 ]
