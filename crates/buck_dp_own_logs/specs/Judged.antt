-- What is said of a cutting that someone names.
use Rattle.std.specs.Prelude.{◌≡◌, ℕ, ◌<◌, List, take, fold, slice_get, IsSomeAnd}
use Rattle.buck_apt_instruction.specs.Instruction.{InstructionParts}
use Rattle.buck_stem_shape.specs.Stem.{StemParts}
use Rattle.buck_value.specs.declared.log.Log.{Log}
use Rattle.buck_value.specs.Sheet.{SheetParts}
use Rattle.buck_value.specs.Allowed.{end_of}
use Rattle.buck_dp.specs.Best.{IsAdmissible, cutting_worth}
use Rattle.buck_dp_own_logs.specs.declared.reason.Reason.{Reason}
use Rattle.buck_dp_own_logs.specs.declared.judging.Judged.{Judged}
use Rattle.buck_dp_own_logs.specs.declared.judging.Judged.TheVariants.{Admissible, Refused}
use Rattle.buck_dp_own_logs.specs.Reasons.{Applies, IsTold}

-- how far some logs take up a stem: to the end of the last one with its trim, or nothing of it if there is none
abbrev pub cut_to : InstructionParts → List Log → ℕ
cut_to i logs = fold (λ _ g. end_of i g) 0 logs

-- the log at an index is there, and this holds of it and of where the logs before it end
abbrev pub HoldsAfter : InstructionParts → List Log → ℕ → (ℕ → Log → Type 0) → Type 0
HoldsAfter i logs k P = IsSomeAnd (slice_get logs k) (λ g. P (cut_to i (take k logs)) g)

-- a reason applies to the log at an index
abbrev pub AppliesAt : InstructionParts → StemParts → List Log → ℕ → Reason → Type 0
AppliesAt i stem logs k r = HoldsAfter i logs k (λ from g. Applies i stem from g r)

-- the first log to which a reason applies, and the first reason that applies to it
pub record IsRefused (i : InstructionParts) (stem : StemParts) (logs : List Log) (k : ℕ) (r : Reason) : Type 0 where
  pub told : HoldsAfter i logs k (λ from g. IsTold i stem from g r)
  pub none_before : (j : ℕ) (s : Reason) → j < k → AppliesAt i stem logs j s → ⊥

-- what is said of a cutting: its worth, or the log that isn't admissible and why
abbrev pub IsJudged : SheetParts → StemParts → List Log → Judged → Type 0
IsJudged sheet stem logs (Admissible worth) = IsAdmissible sheet stem logs × (worth ≡ cutting_worth sheet stem logs)
IsJudged sheet stem logs (Refused log reason) = IsRefused sheet.instruction stem logs log reason
