-- What comes of an input of requests: which of its lines were answered, what was written, and which history came of it.
use Rattle.std.specs.Prelude.{◌≡◌, ◌⊎◌, ℕ, List, [], ◌∷◌, ◌++◌, Option, Result, Ok, Err, IfSome}
use Rattle.std.specs.Io.KnownBytes.{Appends}
use Rattle.buck_book_postings.specs.History.{HistoryParts}
use Rattle.buckfleet_engine_files.specs.declared.fault.EngineFault.{EngineFault}
use Rattle.buckfleet_engine_files.specs.declared.fault.EngineFault.TheVariants.{Read, Write}
use Rattle.buckfleet_engine_files.specs.Written.{AppendsFirst}
use Rattle.buckfleet_live.specs.Lines.{lines_of}
use Rattle.buckfleet_live.specs.Answers.{AnswersLine, AnswersAll}

-- the lines of an input were answered, in their order, but for the last of them, which were not, and the answers were
-- written
pub record HasAnswered (before : HistoryParts) (input : Option (List ℕ)) (left : List (Option (List ℕ)))
    (old new : Option (List ℕ)) (after : HistoryParts) : Type 0 where
  pub lines : List (Option (List ℕ))
  pub text : List ℕ
  pub answers : AnswersAll before lines text after
  pub read : IfSome input (λ bytes. lines_of bytes ≡ lines ++ left)
  pub written : Appends old new text

-- the first lines were answered, and the next answer could not be written, or not wholly; what it says was done
pub record StoppedWriting (before : HistoryParts) (input old new : Option (List ℕ)) (after : HistoryParts)
    : Type 0 where
  pub line : Option (List ℕ)
  pub left : List (Option (List ℕ))
  pub between : HistoryParts
  pub was : Option (List ℕ)
  pub last : List ℕ
  pub answered : HasAnswered before input (line ∷ left) old was between
  pub answer : AnswersLine between line last after
  pub part : AppendsFirst was new last

-- how a run over an input ended: all lines were answered, or the first of them, if the next can't be read, or its
-- answer not be written
abbrev pub IsLiveRun : HistoryParts → Option (List ℕ) → Option (List ℕ) → Option (List ℕ)
    → Result (Unit {0}) EngineFault → HistoryParts → Type 0
IsLiveRun before input old new (Ok _) after = HasAnswered before input [] old new after
IsLiveRun before input old new (Err fault) after =
    ((fault ≡ Read 1) × (left : List (Option (List ℕ))) × HasAnswered before input left old new after)
    ⊎ ((fault ≡ Write) × StoppedWriting before input old new after)
