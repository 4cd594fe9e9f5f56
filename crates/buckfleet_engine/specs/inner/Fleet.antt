-- How a harvest comes about: stem files that are read, lists that are cut, and texts that are written.
use Rattle.std.specs.Prelude.{◌≡◌, ◌<◌, ◌≤◌, ◌+◌, ℕ, List, length, map, All, Option, Some, Result, Ok, Err}
use Rattle.std.specs.declared.sync.Arc.{Arc}
use Rattle.std.specs.declared.vec.Vec.{Vec}
use Rattle.std.specs.declared.alloc.Global.{Global}
use Rattle.std.specs.Io.KnownBytes.{Keeps}
use Rattle.buck_apt_instruction.specs.Instruction.{InstructionParts}
use Rattle.buck_stem_shape.specs.declared.stem.Stem.{Stem}
use Rattle.buck_book_postings.specs.Posting.{harvester_of}
use Rattle.buck_book_postings.specs.History.{HistoryParts, IsLawful}
use Rattle.buck_book_postings.specs.Replies.{stems_at}
use Rattle.buckfleet_engine_files.specs.declared.fault.EngineFault.{EngineFault}
use Rattle.buckfleet_engine_files.specs.declared.fault.EngineFault.TheVariants.{Write, Memory}
use Rattle.buckfleet_engine_files.specs.Lent.{OfWriter}
use Rattle.buckfleet_engine.specs.fleet.Running.{WroteAll, WroteSome}
use Rattle.buckfleet_engine_input.specs.Harvest.{AreFirsts}
use Rattle.buckfleet_engine_files.specs.Listed.{stems_cut_by}
use Rattle.buck_book_postings.specs.declared.posting.TheConstants.{MOST_POSTINGS}

-- a lawful history of an instruction, of at most 1,000,000 postings, each cutting the first of the best ones, in which
-- harvester k + 1 cut exactly the stems of the list at place k, and nobody else has a posting
pub record HasCutLists (i : InstructionParts) (lists : List (Vec (Arc Stem Global) Global))
    (h : HistoryParts) : Type 0 where
  pub same_instruction : h.instruction ≡ i
  pub lawful : IsLawful h
  pub few : length h.postings ≤ MOST_POSTINGS
  pub firsts : AreFirsts h
  pub stems : (k : ℕ) → k < length lists → stems_cut_by (k + 1) h ≡ map Some (stems_at lists k)
  pub nobody_else : All (λ x. (0 < harvester_of x) × (harvester_of x ≤ length lists)) h.postings

-- what was written of the texts of a history
abbrev pub AreWritten : HistoryParts → OfWriter → Option (List ℕ) → Option (List ℕ) → Result (Unit {0}) EngineFault
    → Type 0
AreWritten h OfJournal old new (Ok _) = WroteAll h OfJournal old new
AreWritten h OfJournal old new (Err Write) = WroteSome h OfJournal old new
AreWritten h OfJournal old new (Err Memory) = OfJournal Keeps × Keeps old new
AreWritten h OfJournal old new (Err _) = ⊥
