-- Why targets, one for each class, may not come into force.
use Rattle.std.specs.Prelude.{ℕ, List}
use Rattle.buck_apt_instruction.specs.Instruction.{InstructionParts}
use Rattle.buck_book_postings.specs.Targets.{IsTargetsFault}
use Rattle.buck_book_postings.specs.declared.targets.TargetsFault.TheVariants.{Range as TooGreat, Sum as TooMany}
use Rattle.buckfleet_terms_files.specs.declared.fault.TargetsFault.{TargetsFault}
use Rattle.buckfleet_terms_files.specs.declared.fault.TargetsFault.TheVariants.{Range, Sum}

abbrev pub IsCheckFault : InstructionParts → List ℕ → TargetsFault → Type 0
IsCheckFault i targets (Range at) = IsTargetsFault i targets (TooGreat at)
IsCheckFault i targets (Sum at) = IsTargetsFault i targets (TooMany at)
IsCheckFault i targets _ = ⊥
