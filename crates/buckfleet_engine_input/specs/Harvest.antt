-- What the instruction file and the stem files of a fleet say, what is cut of them, and which fault comes first.
use Rattle.std.specs.Prelude.{◌≡◌, ◌⊎◌, ◌<◌, ◌≤◌, ◌+◌, ℕ, List, [], length, map, sum_by, All, Option, Some, None, Ok, slice_get, slice_index_or}
use Rattle.std.specs.declared.sync.Arc.{Arc}
use Rattle.std.specs.declared.vec.Vec.{Vec}
use Rattle.std.specs.declared.alloc.Global.{Global}
use Rattle.buck_apt.specs.Apt.{apt_of}
use Rattle.buck_stem_shape.specs.declared.stem.Stem.{Stem}
use Rattle.buck_stem_shape.specs.Stem.{StemParts}
use Rattle.buck_stem.specs.Stm.{stm_of}
use Rattle.buck_book_postings.specs.declared.posting.Posting.{Posting}
use Rattle.buck_book_postings.specs.Posting.{harvester_of}
use Rattle.buck_book_postings.specs.History.{HistoryParts, IsLawful}
use Rattle.buck_book_postings.specs.Book.{IsFirst}
use Rattle.buck_book_postings.specs.Replies.{stems_at}
use Rattle.buckfleet_engine_files.specs.declared.fault.EngineFault.{EngineFault}
use Rattle.buckfleet_engine_files.specs.declared.fault.EngineFault.TheVariants.{Seats, Full, Memory, Close}
use Rattle.buckfleet_engine_files.specs.Reading.{IsAccepted, IsAptFault, IsStmFault, ReadsApt, Says}
use Rattle.buck_book_postings.specs.declared.posting.TheConstants.{MOST_POSTINGS}
use Rattle.buckfleet_engine_files.specs.Listed.{stems_cut_by, AreAccepted}

-- a harvester cut exactly the stems that a file has, in their order
pub record CutsFile (harvester : ℕ) (h : HistoryParts) (stm : Option (List ℕ)) : Type 0 where
  pub stems : List StemParts
  pub stm_says : Says stm_of stm (Ok stems)
  pub are_cut : stems_cut_by harvester h ≡ map Some stems

-- each cutting is the first of the best ones under the sheet of its version
abbrev pub AreFirsts : HistoryParts → Type 0
AreFirsts h = (k : ℕ) (x : Posting) → slice_get h.postings k ≡ Some x → IsFirst h x

-- a lawful history of the instruction that a file has, read so, of at most 1,000,000 postings, each cutting the first
-- of the best ones, in which harvester k cut exactly the stems that the k-th stem file has, in their order, and nobody
-- else has a posting
pub record IsHarvest (reads : ReadsApt) (apt : Option (List ℕ)) (stms : List (Option (List ℕ))) (h : HistoryParts)
    : Type 0 where
  pub instruction : Says reads apt (Ok h.instruction)
  pub lawful : IsLawful h
  pub few : length h.postings ≤ MOST_POSTINGS
  pub firsts : AreFirsts h
  pub stems : (k : ℕ) → k < length stms → CutsFile (k + 1) h (slice_index_or stms k None)
  pub nobody_else : All (λ x. (0 < harvester_of x) × (harvester_of x ≤ length stms)) h.postings

-- the first n lists have the stems of the first n files' bytes
abbrev pub AreListsOf : ℕ → List (Option (List ℕ)) → List (Vec (Arc Stem Global) Global) → Type 0
AreListsOf n stms lists =
    (k : ℕ) → k < n → Says stm_of (slice_index_or stms k None) (Ok (stems_at lists k))

-- the stem file at a place has a fault, and those before it are accepted
pub record IsListFault (stms : List (Option (List ℕ))) (fault : EngineFault) : Type 0 where
  pub place : ℕ
  pub exists : place < length stms
  pub accepted : AreAccepted place stms
  pub is_fault : IsStmFault (place + 1) (slice_index_or stms place None) fault

-- what may go wrong in a fleet
abbrev pub IsCuttingFault : EngineFault → Type 0
IsCuttingFault fault = (fault ≡ Full) ⊎ ((fault ≡ Memory) ⊎ ((why : _) × (fault ≡ Close why)))

-- the first file that has a fault, or, if all are accepted, what went wrong in the fleet
abbrev pub IsHarvestFault : Option (List ℕ) → List (Option (List ℕ)) → EngineFault → Type 0
IsHarvestFault apt stms fault =
    IsAptFault apt fault
    ⊎ (IsAccepted apt_of apt × (IsListFault stms fault ⊎ (AreAccepted (length stms) stms × IsCuttingFault fault)))

-- a fleet has 1 to 64 seats
abbrev pub AreNoSeats : ℕ → Type 0
AreNoSeats number = (number ≡ 0) ⊎ (64 < number)

-- why there is no history: not 1 to 64 stem files, or the first fault
abbrev pub IsFleetFault : Option (List ℕ) → List (Option (List ℕ)) → EngineFault → Type 0
IsFleetFault apt stms fault = (AreNoSeats (length stms) × (fault ≡ Seats)) ⊎ IsHarvestFault apt stms fault

-- the files have more stems together than a history may have postings
pub record HaveTooMany (stms : List (Option (List ℕ))) : Type 0 where
  pub stems : List (List StemParts)
  pub number : length stems ≡ length stms
  pub stms_say : (k : ℕ) → k < length stms → Says stm_of (slice_index_or stms k None) (Ok (slice_index_or stems k []))
  pub many : MOST_POSTINGS < sum_by (λ list. length list) stems
