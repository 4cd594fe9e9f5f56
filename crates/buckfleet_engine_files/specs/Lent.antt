-- A writer that may be lent to a call: what it holds before the call and after it.
use Rattle.std.specs.Prelude.{◌⊎◌, ℕ, List, Option, Some, None}
use mathlib.Core.Logic.{inl, inr}
use denote.Ref.{MutBor}

-- what a call leaves behind a reference that may be there
abbrev pub LeftBehind : Type 0 → Type 0
LeftBehind T = Unit {0} ⊎ ((MutBor T × Unit {0}) ⊎ ⊥)

-- what holds of the contents of a writer before and after a call, if there is one
abbrev pub OfWriter : Type 1
OfWriter = (Option (List ℕ) → Option (List ℕ) → Type 0) → Type 0

abbrev pub no_writer : OfWriter
no_writer Holds = Unit {0}

abbrev pub of_writer : Option (List ℕ) → Option (List ℕ) → OfWriter
of_writer old new Holds = Holds old new

-- the same of a writer that may be lent
abbrev pub of_lent : {T : Type 0} → (T → Option (List ℕ)) → Option (MutBor T) → LeftBehind T → OfWriter
of_lent contents None left Holds = Unit {0}
of_lent contents (Some lent) (inl none) Holds = ⊥
of_lent contents (Some lent) (inr (inl left)) Holds = Holds (contents lent.now) (contents left.0.now)
of_lent contents (Some lent) (inr (inr never)) Holds = ⊥

-- the same of a file that may have been made for a call
abbrev pub of_made : {T : Type 0} → (T → Option (List ℕ)) → Option T → (OfWriter → Type 0) → Type 0
of_made contents None Holds = Holds no_writer
of_made contents (Some made) Holds = (left : _) × Holds (of_writer (contents made) (contents left))
