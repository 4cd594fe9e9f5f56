-- Reasons along a list of logs.
use Rattle.std.proofs.Common.{◌≡◌, ℕ, zero, suc, ◌+◌, ◌<◌, ◌≤◌, ◌↔◌, inl, inr, List, [], ◌∷◌, length, take, get_or, slice_get, refl, ap, ◌∙◌, subst, arith}
use Rattle.std.specs.Prelude.{fold, IsSomeAnd}
use Rattle.std.proofs.lemmas.Bool.{cases_lt}
use Rattle.std.proofs.lemmas.Option.{slice_get-get_or, slice_get_past}
use Rattle.buck_apt_instruction.specs.Instruction.{InstructionParts}
use Rattle.buck_stem_shape.specs.Stem.{StemParts}
use Rattle.buck_value.specs.declared.log.Log.{Log}
use Rattle.buck_value.specs.Sheet.{SheetParts}
use Rattle.buck_value.specs.Allowed.{IsAllowed, end_of}
use Rattle.buck_dp.specs.Cutting.{IsCutFrom}
use Rattle.buck_dp.specs.Best.{IsAdmissible}
use Rattle.buck_dp_own_logs.specs.declared.reason.Reason.{Reason}
use Rattle.buck_dp_own_logs.specs.Reasons.{Applies}
use Rattle.buck_dp_own_logs.specs.Judged.{cut_to, HoldsAfter, AppliesAt}
use Rattle.buck_dp_own_logs.proofs.Standing.{none_applies, stands}

-- where logs that are cut from a place on end
abbrev cut_from : InstructionParts → ℕ → List Log → ℕ
cut_from i from logs = fold (λ _ g. end_of i g) from logs

-- a reason applies to the log at an index, of logs that are cut from a place on
abbrev AppliesFrom : InstructionParts → StemParts → ℕ → List Log → ℕ → Reason → Type 0
AppliesFrom i stem from logs k r =
    IsSomeAnd (slice_get logs k) (λ g. Applies i stem (cut_from i from (take k logs)) g r)

none_of_cut : (i : InstructionParts) (stem : StemParts) (from : ℕ) (logs : List Log)
    → IsCutFrom (IsAllowed i stem) (end_of i) from logs
    → (k : ℕ) (r : Reason) → AppliesFrom i stem from logs k r → ⊥
none_of_cut i stem from [] c k r x = x
none_of_cut i stem from (g ∷ gs) c zero r x = none_applies i stem from g c.0 c.1 r x
none_of_cut i stem from (g ∷ gs) c (suc k) r x = none_of_cut i stem (end_of i g) gs c.2 k r x

cut_of_none : (i : InstructionParts) (stem : StemParts) (from : ℕ) (logs : List Log)
    → ((k : ℕ) (r : Reason) → AppliesFrom i stem from logs k r → ⊥)
    → IsCutFrom (IsAllowed i stem) (end_of i) from logs
cut_of_none i stem from [] none = tt
cut_of_none i stem from (g ∷ gs) none =
    let here = stands i stem from g (none 0) in
    (here.0, here.1, cut_of_none i stem (end_of i g) gs (λ k r x. none (suc k) r x))

-- a cutting is admissible exactly if no reason applies to any of its logs
pub admissible_exactly : (sheet : SheetParts) (stem : StemParts) (logs : List Log)
    → IsAdmissible sheet stem logs ↔ ((k : ℕ) (r : Reason) → AppliesAt sheet.instruction stem logs k r → ⊥)
admissible_exactly sheet stem logs =
    (none_of_cut sheet.instruction stem 0 logs, cut_of_none sheet.instruction stem 0 logs)

-- where one log more ends
cut_to_suc : (i : InstructionParts) (from : ℕ) (logs : List Log) (k : ℕ) (d : Log) → k < length logs
    → cut_from i from (take (suc k) logs) ≡ end_of i (get_or logs k d)
cut_to_suc i from [] k d lt = absurd (omega (arith, lt))
cut_to_suc i from (g ∷ gs) zero d lt = refl
cut_to_suc i from (g ∷ gs) (suc k) d lt = cut_to_suc i (end_of i g) gs k d (omega (arith, lt))

pub cut_to_more : (i : InstructionParts) (logs : List Log) (k : ℕ) (d : Log) → k < length logs
    → cut_to i (take (k + 1) logs) ≡ end_of i (get_or logs k d)
cut_to_more i logs k d lt = let on : k + 1 ≡ suc k = omega arith in
    ap (λ n. cut_to i (take n logs)) on ∙ cut_to_suc i 0 logs k d lt

-- what holds of the log at an index
pub held_at : (i : InstructionParts) (logs : List Log) (k from : ℕ) (d : Log) (P : ℕ → Log → Type 0) → k < length logs
    → from ≡ cut_to i (take k logs) → P from (get_or logs k d) → HoldsAfter i logs k P
held_at i logs k from d P lt is holds = rw (slice_get-get_or logs k d lt, ← is) holds

pub at_it : (i : InstructionParts) (logs : List Log) (k from : ℕ) (d : Log) (P : ℕ → Log → Type 0) → k < length logs
    → from ≡ cut_to i (take k logs) → HoldsAfter i logs k P → P from (get_or logs k d)
at_it i logs k from d P lt is holds = rw (slice_get-get_or logs k d lt, ← is) at holds

-- one log more to which no reason applies
pub none_more : (i : InstructionParts) (stem : StemParts) (logs : List Log) (k from : ℕ) (d : Log) → k < length logs
    → from ≡ cut_to i (take k logs)
    → (from ≤ (get_or logs k d).start) × IsAllowed i stem (get_or logs k d)
    → ((j : ℕ) (s : Reason) → j < k → AppliesAt i stem logs j s → ⊥)
    → (j : ℕ) (s : Reason) → j < k + 1 → AppliesAt i stem logs j s → ⊥
none_more i stem logs k from d lt is here before = λ j s less x. elim (cases_lt j k) [
  | inl earlier ↦ before j s earlier x
  | inr no_earlier ↦
      let same : j ≡ k = omega (arith, less, no_earlier) in
      none_applies i stem from (get_or logs k d) here.0 here.1 s
      (at_it i logs k from d (λ from g. Applies i stem from g s) lt is (subst (λ n. AppliesAt i stem logs n s) same x))
]

-- no index past the end has a log
pub none_past : (i : InstructionParts) (stem : StemParts) (logs : List Log)
    → ((j : ℕ) (s : Reason) → j < length logs → AppliesAt i stem logs j s → ⊥)
    → (j : ℕ) (s : Reason) → AppliesAt i stem logs j s → ⊥
none_past i stem logs none = λ j s x. elim (cases_lt j (length logs)) [
  | inl within ↦ none j s within x
  | inr past ↦ rw (slice_get_past logs j past) at x
]
