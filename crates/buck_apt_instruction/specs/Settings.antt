-- Numbers that a run puts in the place of an instruction's own.
use Rattle.std.specs.Prelude.{ℕ, ◌≤◌, Option, Some, None, IfSome}
use Rattle.buck_apt_instruction.specs.declared.slots.TheConstants.{PERIOD, LIMIT}
use Rattle.buck_apt_instruction.specs.Instruction.{InstructionParts, IsWithin}

pub record SettingsParts : Type 0 where
  pub period : Option ℕ  -- stems
  pub limit : Option ℕ  -- per mille

-- the given numbers are within the limits of the instruction file's table
pub record IsSettings (s : SettingsParts) : Type 0 where
  pub period_range : IfSome s.period (λ p. IsWithin PERIOD.low PERIOD.high p)
  pub limit_range : IfSome s.limit (λ l. l ≤ LIMIT.high)

-- no number is given
abbrev pub own_numbers : SettingsParts
own_numbers = record { period = None; limit = None }

-- a given number, or else the instruction's own
abbrev pub told_or : Option ℕ → ℕ → ℕ
told_or None own = own
told_or (Some told) own = told

-- the instruction with the given numbers in the place of its own
abbrev pub with_settings : SettingsParts → InstructionParts → InstructionParts
with_settings s i = record {
  «module» = i.«module»;
  period = told_or s.period i.period;
  limit = told_or s.limit i.limit;
  assortments = i.assortments;
}
