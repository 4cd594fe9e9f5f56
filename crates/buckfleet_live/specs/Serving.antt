-- How a whole run of requests ends: what is opened and made, and what is written.
use Rattle.std.specs.Prelude.{◌≡◌, ◌⊎◌, ℕ, List, [], Option, Result, Ok, Err}
use Rattle.std.specs.Option.{option_map}
use Rattle.std.specs.Result.{result_and}
use Rattle.std.specs.Io.KnownBytes.{Appends, Keeps}
use Rattle.buck_apt.specs.Apt.{apt_of}
use Rattle.buck_apt_instruction.specs.Instruction.{InstructionParts}
use Rattle.buck_apt_instruction.specs.Settings.{with_settings}
use Rattle.buck_book_postings.specs.History.{HistoryParts, IsLawful}
use Rattle.buck_book_journal.specs.Written.{journal_text}
use Rattle.buckfleet_engine_files.specs.declared.fault.EngineFault.{EngineFault}
use Rattle.buckfleet_engine_files.specs.declared.fault.EngineFault.TheVariants.{Write, Memory}
use Rattle.buckfleet_engine_files.specs.Opening.{AnswersInputs, MakesJournal}
use Rattle.buckfleet_engine_files.specs.Reading.{IsAptFault, Says}
use Rattle.buckfleet_engine_files.specs.Lent.{OfWriter, of_made}
use Rattle.buckfleet_engine_files.specs.Written.{AppendsSome}
use Rattle.buckfleet_engine_files.specs.Ruled.{FollowsRule}
use Rattle.buck_book_cutter.specs.Cut.{opening}
use Rattle.buckfleet_live.specs.Live.{IsLiveRun}
use Rattle.buckfleet_tasks.specs.declared.harvests.LiveTask.{LiveTask}

-- the journal of a history was written, if one is asked for; or a part of it, or nothing if memory ran out
abbrev pub KeepsJournal : OfWriter → HistoryParts → Result (Unit {0}) EngineFault → Type 0
KeepsJournal OfJournal h (Ok _) = OfJournal (λ a b. Appends a b (journal_text h.sheets h.postings))
KeepsJournal OfJournal h (Err fault) =
    ((fault ≡ Memory) × OfJournal Keeps)
    ⊎ ((fault ≡ Write) × OfJournal (λ a b. AppendsSome a b (journal_text h.sheets h.postings)))

-- the instruction is refused, or memory runs out before the first request is read; nothing is read of the input then,
-- and nothing is written
pub record IsUnopened (apt : Option (List ℕ)) (Unread : Type 0) (OfJournal : OfWriter) (old new : Option (List ℕ))
    (outcome : Result (Unit {0}) EngineFault) : Type 0 where
  pub fault : EngineFault
  pub is_fault : IsAptFault apt fault
  pub outcome_is : outcome ≡ Err fault
  pub unread : Unread
  pub no_journal : OfJournal Keeps
  pub no_answer : Keeps old new

-- requests are answered by the instruction that a file has, with the task's numbers put in, and by the task's rule, in
-- a book whose history is lawful; and then its journal is written, however the run over the requests ended: its fault
-- comes before that of the run
pub record IsOpened (task : LiveTask) (apt input : Option (List ℕ)) (OfJournal : OfWriter)
    (old new : Option (List ℕ)) (outcome : Result (Unit {0}) EngineFault) : Type 0 where
  pub own : InstructionParts
  pub apt_says : Says apt_of apt (Ok own)
  pub history : HistoryParts
  pub lawful : IsLawful history
  pub by_rule : FollowsRule task.rule history
  pub ran : Result (Unit {0}) EngineFault
  pub kept : Result (Unit {0}) EngineFault
  pub run : IsLiveRun (opening (with_settings task.settings own)) input old new ran history
  pub journal : KeepsJournal OfJournal history kept
  pub outcome_is : outcome ≡ result_and kept ran

abbrev pub AnswersLive : LiveTask → Option (List ℕ) → Option (List ℕ) → Type 0 → OfWriter → Option (List ℕ)
    → Option (List ℕ) → Result (Unit {0}) EngineFault → Type 0
AnswersLive task apt input Unread OfJournal old new outcome =
    IsUnopened apt Unread OfJournal old new outcome ⊎ IsOpened task apt input OfJournal old new outcome

-- a run whose journal goes into a file that was made, if one is wanted; if that can't be, nothing is read or
-- written
abbrev pub RunsMade : {M : Type 0} → (M → Option (List ℕ)) → LiveTask → Option (List ℕ) → Option (List ℕ) → Type 0
    → Result (Option M) EngineFault → Option (List ℕ) → Option (List ℕ) → Result (Unit {0}) EngineFault → Type 0
RunsMade contents task apt input Unread (Err fault) old new outcome = (outcome ≡ Err fault) × Unread × Keeps old new
RunsMade contents task apt input Unread (Ok made) old new outcome =
    of_made contents made (λ o. AnswersLive task apt input Unread o old new outcome)

-- a run over the instruction file that was opened: the file of the journal is made first
abbrev pub RunsApt : {O F M : Type 0} → (O → List ℕ → Option M → O → Type 0) → (F → Option (List ℕ))
    → (M → Option (List ℕ)) → O → O → LiveTask → Result (F × List F) EngineFault → Option (List ℕ) → Type 0
    → Option (List ℕ) → Option (List ℕ) → Result (Unit {0}) EngineFault → Type 0
RunsApt makes held contents start end task (Err fault) input Unread old new outcome =
    (outcome ≡ Err fault) × (end ≡ start) × Unread × Keeps old new
RunsApt makes held contents start end task (Ok files) input Unread old new outcome =
    (made : Result (Option _) EngineFault) × MakesJournal makes start end (option_map (λ s. s.now) task.journal) made
    × RunsMade contents task (held files.0) input Unread made old new outcome

-- the instruction file is opened by its name, then the file of the journal is made, and then the requests are answered;
-- what it is that nothing was read of the input is handed over
pub record RunsLive {O F M : Type 0} (opens : O → List ℕ → Option F → O → Type 0)
    (makes : O → List ℕ → Option M → O → Type 0) (held : F → Option (List ℕ)) (contents : M → Option (List ℕ))
    (start end : O) (task : LiveTask) (input : Option (List ℕ)) (Unread : Type 0) (old new : Option (List ℕ))
    (outcome : Result (Unit {0}) EngineFault) : Type 0 where
  pub opened : Result (F × List F) EngineFault
  pub between : O
  pub answers : AnswersInputs opens start between task.apt.now [] opened
  pub runs : RunsApt makes held contents between end task opened input Unread old new outcome
