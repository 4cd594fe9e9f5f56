-- What a file of targets says: the numbers of its items `918 1`, list by list. All other items are skipped.
use Rattle.std.specs.Prelude.{◌≡◌, ℕ, ◌+◌, List, [], ◌∷◌, length, Result, Ok, Err}
use Rattle.std.specs.List.{AllZip, concat}
use Rattle.buck_record.specs.Item.{ItemParts}
use Rattle.buck_record.specs.Reading.{with_fault}
use Rattle.buck_record.specs.bytes.Record.{items_of, numbers_of}
use Rattle.buck_record.specs.checking.Check.{◌>>=◌}
use Rattle.buck_record.specs.checking.Table.{only_in}
use Rattle.buck_apt_instruction.specs.declared.slots.TheConstants.{TARGETS}
use Rattle.buck_apt_instruction.specs.Instruction.{AssortmentParts, InstructionParts, classes_of}
use Rattle.buck_book_postings.specs.Targets.{AreTargets, IsTargetsFault}
use Rattle.buck_book_postings.specs.declared.targets.TargetsFault.TheVariants.{Range as TooGreat, Sum as TooMany}
use Rattle.buckfleet_terms_files.specs.declared.fault.TargetsFault.{TargetsFault}
use Rattle.buckfleet_terms_files.specs.declared.fault.TargetsFault.TheVariants.{Count, Range, Sum, Head, Digits, Memory}

-- the numbers of items, of which the first stands at this place among those of targets
unfoldable pub lists_from : ℕ → List ItemParts → Result (List (List ℕ)) TargetsFault
lists_from k [] = Ok []
lists_from k (item ∷ more) = do
  numbers ← with_fault (λ place. Digits k place) (numbers_of item.rest)
  lists ← lists_from (k + 1) more
  Ok (numbers ∷ lists)

-- the lists of a file's bytes, or the first item that has no head, else the first word that is no number
unfoldable pub lists_of : List ℕ → Result (List (List ℕ)) TargetsFault
lists_of bytes = do
  items ← with_fault (λ k. Head k) (only_in (TARGETS ∷ []) (items_of bytes))
  lists_from 0 items

-- all numbers of a file, one list after the other
unfoldable pub all_of : List ℕ → Result (List ℕ) TargetsFault
all_of bytes = do
  lists ← lists_of bytes
  Ok (concat lists)

-- one number for each class, and one such list for each assortment
abbrev pub IsFitting : List ℕ → AssortmentParts → Type 0
IsFitting list a = length list ≡ classes_of a

abbrev pub AreFitting : List (List ℕ) → List AssortmentParts → Type 0
AreFitting lists assortments = AllZip IsFitting lists assortments

-- the targets of a file, one list after the other
pub record HasTargets (i : InstructionParts) (bytes targets : List ℕ) : Type 0 where
  pub lists : List (List ℕ)
  pub says : lists_of bytes ≡ Ok lists
  pub fitting : AreFitting lists i.assortments
  pub targets_are : targets ≡ concat lists
  pub valid : AreTargets i targets

-- the lists of a file fit, and their numbers may not come into force, for this reason
pub record IsInvalid (i : InstructionParts) (bytes : List ℕ) (Why : List ℕ → Type 0) : Type 0 where
  pub lists : List (List ℕ)
  pub says : lists_of bytes ≡ Ok lists
  pub fitting : AreFitting lists i.assortments
  pub why : Why (concat lists)

-- why a file of targets is refused
abbrev pub IsRefused : InstructionParts → List ℕ → TargetsFault → Type 0
IsRefused i bytes Count = (lists : List (List ℕ)) × (lists_of bytes ≡ Ok lists) × (AreFitting lists i.assortments → ⊥)
IsRefused i bytes (Range at) = IsInvalid i bytes (λ ts. IsTargetsFault i ts (TooGreat at))
IsRefused i bytes (Sum assortment) = IsInvalid i bytes (λ ts. IsTargetsFault i ts (TooMany assortment))
IsRefused i bytes (Head item) = lists_of bytes ≡ Err (Head item)
IsRefused i bytes (Digits list place) = lists_of bytes ≡ Err (Digits list place)
IsRefused i bytes Memory = Unit {0}
