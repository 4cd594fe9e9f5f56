-- What ties a lawful history to stem files and to a price rule, and how one differs from them.
use Rattle.std.specs.Prelude.{◌≡◌, ◌≢◌, ◌⊎◌, ℕ, ◌-◌, ◌<◌, ◌≤◌, List, [], length, take, Option, Some, slice_get, slice_index, slice_index_or, IfSome}
use Rattle.std.specs.List.{flat_map}
use Rattle.std.specs.Option.{option_to_list}
use Rattle.buck_apt_instruction.specs.declared.class.Class.{Class}
use Rattle.buck_apt_instruction.specs.Instruction.{InstructionParts, IsClass, index_of}
use Rattle.buck_stem_shape.specs.Stem.{StemParts}
use Rattle.buck_rule.specs.Named.{price_by}
use Rattle.buck_book_postings.specs.declared.posting.Posting.{Posting}
use Rattle.buck_book_postings.specs.History.{HistoryParts, standing_of}
use Rattle.buck_book_journal.specs.Journal.{Begins, version_at, prices_then}
use Rattle.buck_rule.specs.declared.named.NamedRule.{NamedRule}
use Rattle.buckfleet_engine_files.specs.declared.check_fault.CheckFault.{CheckFault}
use Rattle.buckfleet_engine_files.specs.declared.check_fault.CheckFault.TheVariants.{Other, Uncut, Surplus, Price}
use Rattle.buckfleet_engine_files.specs.Listed.{stems_cut_by}
use Rattle.buckfleet_engine_files.specs.Ruled.{IsByRule, ArePricesAt, FollowsRule}

-- the stems that a harvester cut, in their order; its demands don't count
abbrev pub stems_by : ℕ → HistoryParts → List StemParts
stems_by harvester h = flat_map option_to_list (stems_cut_by harvester h)

-- the stems of a harvester's file; none if it has no file
abbrev pub stems_of_file : List (List StemParts) → ℕ → List StemParts
stems_of_file files harvester = slice_index_or files (harvester - 1) []

-- a harvester cut exactly the stems of its file, in their order
abbrev pub CutsItsFile : List (List StemParts) → HistoryParts → ℕ → Type 0
CutsItsFile files h harvester = stems_by harvester h ≡ stems_of_file files harvester

-- so did each, and who has no file cut nothing
abbrev pub CutTheirFiles : List (List StemParts) → HistoryParts → Type 0
CutTheirFiles files h = (harvester : ℕ) → 0 < harvester → CutsItsFile files h harvester

-- two lists have the same stems before a place, counted from 1
abbrev pub AreAlikeBefore : ℕ → List StemParts → List StemParts → Type 0
AreAlikeBefore place these those = (0 < place) × (take (place - 1) these ≡ take (place - 1) those)

-- how what a harvester cut first differs from its file: both have a stem at the place, and not the same one; or one of
-- them ends before it
abbrev pub DifferBy : ℕ → List StemParts → List StemParts → CheckFault → Type 0
DifferBy harvester cut file (Other who place) =
    (who ≡ harvester)
    × AreAlikeBefore place cut file
    × (place ≤ length cut)
    × (place ≤ length file)
    × (slice_get cut (place - 1) ≢ slice_get file (place - 1))
DifferBy harvester cut file (Uncut who place) =
    (who ≡ harvester) × AreAlikeBefore place cut file × (length cut < place) × (place ≤ length file)
DifferBy harvester cut file (Surplus who place) =
    (who ≡ harvester) × AreAlikeBefore place cut file × (place ≤ length cut) × (length file < place)
DifferBy harvester cut file (Price version class price wanted) = ⊥

-- the least harvester that didn't cut exactly its file, and how that differs
pub record IsStemsFault (files : List (List StemParts)) (h : HistoryParts) (fault : CheckFault) : Type 0 where
  pub harvester : ℕ
  pub from_one : 0 < harvester
  pub least : (other : ℕ) → 0 < other → other < harvester → CutsItsFile files h other
  pub differ : DifferBy harvester (stems_by harvester h) (stems_of_file files harvester) fault

-- a price that isn't what a rule gives after some postings, if those of all classes before it are
pub record IsOffRule (rule : NamedRule) (i : InstructionParts) (ps : List Posting) (prices : List ℕ)
    (place price wanted : ℕ) : Type 0 where
  pub class : Class
  pub exists : IsClass i class
  pub place_is : index_of i class ≡ place
  pub price_is : price ≡ slice_index prices place
  pub wanted_is : wanted ≡ price_by rule (standing_of i exists.assortment class ps)
  pub differ : price ≢ wanted
  pub least : (c : Class) (k : IsClass i c) → index_of i c < place → IsByRule rule i ps prices c k

-- at the place where a period begins a price isn't: of the least class
pub record IsPriceFaultAt (rule : NamedRule) (h : HistoryParts) (at : ℕ) (fault : CheckFault) : Type 0 where
  pub begins : Begins h at
  pub class : ℕ
  pub price : ℕ
  pub wanted : ℕ
  pub off : IsOffRule rule h.instruction (take at h.postings) (prices_then h at) class price wanted
  pub fault_is : fault ≡ Price (version_at h at) class price wanted

-- the first price that isn't: of the least version
pub record IsPriceFault (rule : NamedRule) (h : HistoryParts) (fault : CheckFault) : Type 0 where
  pub at : ℕ
  pub within : at ≤ length h.postings
  pub before : (k : ℕ) → k < at → ArePricesAt rule h k
  pub there : IsPriceFaultAt rule h at fault

-- a history is tied to the stem files, if there are any, and to the rule, if one is named
pub record IsTied (files : List (List StemParts)) (rule : Option NamedRule) (h : HistoryParts) : Type 0 where
  pub stems : 0 < length files → CutTheirFiles files h
  pub prices : IfSome rule (λ r. FollowsRule r h)

-- or it isn't: to a file; or, if it is to the files, to the rule
abbrev pub IsUntied : List (List StemParts) → Option NamedRule → HistoryParts → CheckFault → Type 0
IsUntied files rule h fault =
    ((0 < length files) × IsStemsFault files h fault)
    ⊎ ((0 < length files → CutTheirFiles files h) × ((r : NamedRule) × (rule ≡ Some r) × IsPriceFault r h fault))
