-- How a journal is held against stem files and a price rule.
use Rattle.std.specs.Prelude.{◌≡◌, ◌≢◌, ◌⊎◌, ℕ, ◌<◌, ◌≤◌, ◌==◌, cond, List, [], length, map, Option, Some, None, Ok, slice_index_or, slice_index}
use Rattle.std.specs.List.{flat_map}
use Rattle.std.specs.Option.{option_to_list}
use Rattle.std.specs.declared.vec.Vec.{Vec}
use Rattle.std.specs.declared.alloc.Global.{Global}
use Rattle.buck_stem_shape.specs.declared.stem.Stem.{Stem}
use Rattle.buck_stem_shape.specs.Stem.{StemParts}
use Rattle.buck_stem.specs.Stm.{stm_of}
use Rattle.buck_book_postings.specs.declared.posting.Posting.{Posting}
use Rattle.buck_book_postings.specs.declared.posting.Posting.TheVariants.{Cut, Demand}
use Rattle.buck_book_postings.specs.History.{HistoryParts}
use Rattle.buckfleet_engine_files.specs.declared.fault.EngineFault.{EngineFault}
use Rattle.buckfleet_engine_files.specs.declared.fault.EngineFault.TheVariants.{Check, Memory, Seats}
use Rattle.buck_rule.specs.declared.named.NamedRule.{NamedRule}
use Rattle.buckfleet_engine_files.specs.Reading.{Says}
use Rattle.buckfleet_engine_cross_check.specs.Answers.{IsInputFault}
use Rattle.buckfleet_engine_cross_check.specs.Ties.{IsUntied}

-- the stems in lists of them
abbrev pub stems_in_lists : List (Vec Stem Global) → List (List StemParts)
stems_in_lists = map (λ (v : Vec Stem Global). v.items)

-- the first n lists have the stems of the first n files' bytes
abbrev pub AreStemsOf : ℕ → List (Option (List ℕ)) → List (List StemParts) → Type 0
AreStemsOf n stms files = (k : ℕ) → k < n → Says stm_of (slice_index_or stms k None) (Ok (slice_index_or files k []))

-- the stem that a posting cut, if it is a harvester's
abbrev pub stem_of_own : ℕ → Posting → Option StemParts
stem_of_own harvester (Cut e) = cond (e.harvester == harvester) (Some e.stem) None
stem_of_own harvester (Demand d) = None

-- those of some postings
abbrev pub stems_cut_in : ℕ → List Posting → List StemParts
stems_cut_in harvester ps = flat_map (λ x. option_to_list (stem_of_own harvester x)) ps

-- two lists of prices have the same ones below a place
abbrev pub AreSameBelow : List ℕ → List ℕ → ℕ → Type 0
AreSameBelow prices wanted n = (k : ℕ) → k < n → slice_index prices k ≡ slice_index wanted k

-- at a place they don't, and below it they do
pub record DifferFirstAt (prices wanted : List ℕ) (place : ℕ) : Type 0 where
  pub within : place < length prices
  pub differ : slice_index prices place ≢ slice_index wanted place
  pub same : AreSameBelow prices wanted place

-- there are more stem files than seats, or the fault of the first file that has one
abbrev pub IsTiedInputFault : Option (List ℕ) → Option (List ℕ) → List (Option (List ℕ)) → EngineFault → Type 0
IsTiedInputFault apt journal stms fault =
    ((64 < length stms) × (fault ≡ Seats)) ⊎ ((length stms ≤ 64) × IsInputFault apt journal stms fault)

-- a lawful history isn't tied, or memory ran out
abbrev pub IsUntiedFault : List (List StemParts) → Option NamedRule → HistoryParts → EngineFault → Type 0
IsUntiedFault files rule h fault =
    (fault ≡ Memory) ⊎ ((why : _) × (fault ≡ Check why) × IsUntied files rule h why)
