-- How a journal's fault is reported: its number, then its fields in the order of their definition. Memory that ran out
-- has no number.
use Rattle.std.specs.Prelude.{ℕ, List, [], ◌∷◌}
use Rattle.buck_book_journal.specs.declared.journal_fault.JournalFault.{JournalFault}
use Rattle.buck_book_journal.specs.declared.journal_fault.JournalFault.TheVariants as journal
use Rattle.buck_book_journal.specs.declared.replay_fault.ReplayFault.{ReplayFault}
use Rattle.buck_book_journal.specs.declared.replay_fault.ReplayFault.TheVariants as replay

abbrev pub journal_numbers : JournalFault → List ℕ
journal_numbers (journal.Head item) = 1 ∷ item ∷ []
journal_numbers journal.NotJournal = 2 ∷ []
journal_numbers (journal.Shape item) = 3 ∷ item ∷ []
journal_numbers (journal.Digits item) = 4 ∷ item ∷ []
journal_numbers (journal.Count item) = 5 ∷ item ∷ []
journal_numbers (journal.Range item) = 6 ∷ item ∷ []
journal_numbers journal.Memory = []

abbrev pub replay_numbers : ReplayFault → List ℕ
replay_numbers (replay.Sheet version) = 1 ∷ version ∷ []
replay_numbers (replay.Price version class) = 2 ∷ version ∷ class ∷ []
replay_numbers (replay.Numbering at) = 3 ∷ at ∷ []
replay_numbers (replay.Version at) = 4 ∷ at ∷ []
replay_numbers (replay.Cutting at) = 5 ∷ at ∷ []
replay_numbers (replay.Worth at) = 6 ∷ at ∷ []
replay_numbers (replay.Outvalued at) = 7 ∷ at ∷ []
replay_numbers replay.Memory = []
replay_numbers (replay.Targets at) = 9 ∷ at ∷ []
