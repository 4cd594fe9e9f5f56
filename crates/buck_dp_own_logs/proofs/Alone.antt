-- One judgement alone is right.
use Rattle.std.proofs.Common.{◌≡◌, ℕ, inl, inr, List, Option, None, Some, slice_get, sym, ap, ◌∙◌, subst, arith}
use Rattle.std.specs.Prelude.{IsSomeAnd}
use Rattle.std.proofs.lemmas.Bool.{cases_lt}
use Rattle.buck_apt_instruction.specs.Instruction.{InstructionParts}
use Rattle.buck_stem_shape.specs.Stem.{StemParts}
use Rattle.buck_value.specs.declared.log.Log.{Log}
use Rattle.buck_value.specs.Sheet.{SheetParts}
use Rattle.buck_dp_own_logs.specs.declared.reason.Reason.{Reason}
use Rattle.buck_dp_own_logs.specs.declared.judging.Judged.{Judged}
use Rattle.buck_dp_own_logs.specs.declared.judging.Judged.TheVariants.{Admissible, Refused}
use Rattle.buck_dp_own_logs.specs.Reasons.{Applies, number_of, IsTold}
use Rattle.buck_dp_own_logs.specs.Judged.{AppliesAt, HoldsAfter, IsRefused, IsJudged}
use Rattle.buck_dp_own_logs.proofs.Told.{same_reason}
use Rattle.buck_dp_own_logs.proofs.Listed.{admissible_exactly}

pub one_told : (i : InstructionParts) (stem : StemParts) (from : ℕ) (g : Log) (r s : Reason) → IsTold i stem from g r
    → IsTold i stem from g s → r ≡ s
one_told i stem from g r s x y = elim (cases_lt (number_of r) (number_of s)) [
  | inl earlier ↦ absurd (y.none_before r earlier x.applies)
  | inr no_earlier ↦ elim (cases_lt (number_of s) (number_of r)) [
    | inl later ↦ absurd (x.none_before s later y.applies)
    | inr no_later ↦ same_reason r s (omega (arith, no_earlier, no_later))
  ]
]

-- the reason reported of the log at an index applies to it
told_applies : (i : InstructionParts) (stem : StemParts) (logs : List Log) (k : ℕ) (r : Reason)
    → HoldsAfter i logs k (λ from g. IsTold i stem from g r) → AppliesAt i stem logs k r
told_applies i stem logs k r told = of_it (slice_get logs k) _ told
  where
    of_it : (o : Option Log) (from : ℕ) → IsSomeAnd o (λ g. IsTold i stem from g r)
        → IsSomeAnd o (λ g. Applies i stem from g r)
    of_it None from x = x
    of_it (Some g) from x = x.applies

told_alone : (i : InstructionParts) (stem : StemParts) (logs : List Log) (k : ℕ) (r s : Reason)
    → HoldsAfter i logs k (λ from g. IsTold i stem from g r) → HoldsAfter i logs k (λ from g. IsTold i stem from g s)
    → r ≡ s
told_alone i stem logs k r s x y = of_it (slice_get logs k) _ x y
  where
    of_it : (o : Option Log) (from : ℕ) → IsSomeAnd o (λ g. IsTold i stem from g r)
        → IsSomeAnd o (λ g. IsTold i stem from g s) → r ≡ s
    of_it None from x y = absurd x
    of_it (Some g) from x y = one_told i stem from g r s x y

-- one refusal alone
pub one_refused : (i : InstructionParts) (stem : StemParts) (logs : List Log) (k j : ℕ) (r s : Reason)
    → IsRefused i stem logs k r → IsRefused i stem logs j s → (k ≡ j) × (r ≡ s)
one_refused i stem logs k j r s x y = elim (cases_lt k j) [
  | inl earlier ↦ absurd (y.none_before k r earlier (told_applies i stem logs k r x.told))
  | inr no_earlier ↦ elim (cases_lt j k) [
    | inl later ↦ absurd (x.none_before j s later (told_applies i stem logs j s y.told))
    | inr no_later ↦ (let same : k ≡ j = omega (arith, no_earlier, no_later) in (
      same,
      told_alone i stem logs j r s
          (subst (λ n. HoldsAfter i logs n (λ from g. IsTold i stem from g r)) same x.told) y.told,
    ))
  ]
]

-- what is refused isn't admissible
not_both : (sheet : SheetParts) (stem : StemParts) (logs : List Log) (w k : ℕ) (r : Reason)
    → IsJudged sheet stem logs (Admissible w) → IsJudged sheet stem logs (Refused k r) → ⊥
not_both sheet stem logs w k r x y =
    (admissible_exactly sheet stem logs).0 x.0 k r (told_applies sheet.instruction stem logs k r y.told)

pub one_judged : (sheet : SheetParts) (stem : StemParts) (logs : List Log) (x y : Judged) → IsJudged sheet stem logs x
    → IsJudged sheet stem logs y → x ≡ y
one_judged sheet stem logs (Admissible v) (Admissible w) x y = ap (λ n. Admissible n) (x.1 ∙ sym y.1)
one_judged sheet stem logs (Admissible w) (Refused k r) x y = absurd (not_both sheet stem logs w k r x y)
one_judged sheet stem logs (Refused k r) (Admissible w) x y = absurd (not_both sheet stem logs w k r y x)
one_judged sheet stem logs (Refused k r) (Refused j s) x y =
    let same = one_refused sheet.instruction stem logs k j r s x y in
    ap (λ n. Refused n r) same.0 ∙ ap (λ q. Refused j q) same.1
