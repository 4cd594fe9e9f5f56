-- Sheets and postings whose numbers, and how many there are, lie within a journal's ranges.
use Rattle.std.specs.Prelude.{◌≡◌, ℕ, ◌≤◌, true, List, length, All}
use Rattle.buck_record.specs.checking.Rules.{within, all_within, one_to}
use Rattle.buck_apt_instruction.specs.Instruction.{IsWithin}
use Rattle.buck_apt_instruction.specs.declared.slots.TheConstants.{TARGETS}
use Rattle.buck_stem_shape.specs.declared.slots.TheConstants.{SPECIES, SAMPLES, MOST_SAMPLES, MOST_ZONES}
use Rattle.buck_stem_shape.specs.Stem.{IsStem}
use Rattle.buck_book_postings.specs.declared.posting.Posting.{Posting}
use Rattle.buck_book_postings.specs.declared.posting.Posting.TheVariants.{Cut, Demand}
use Rattle.buck_book_postings.specs.Entry.{EntryParts, DemandParts}
use Rattle.buck_book_journal.specs.declared.call.Call.{Call}
use Rattle.buck_book_journal.specs.Reading.{is_call, are_zones, are_logs}
use Rattle.buck_book_journal.specs.Written.{zone_numbers, log_numbers}
use Rattle.buck_book_postings.specs.declared.posting.TheConstants.{MOST_POSTINGS}
use Rattle.buck_value.specs.declared.sheet.TheConstants.{HIGHEST_PRICE}

-- the prices of a sheet
pub record AreSheetPrices (prices : List ℕ) : Type 0 where
  pub number : length prices ≤ 16384
  pub range : all_within 0 HIGHEST_PRICE prices ≡ true

-- who posted, which of its harvester's postings it is, and the version
abbrev pub call_of_cut : EntryParts → Call
call_of_cut e = record { harvester = e.harvester; number = e.number; version = e.version }

abbrev pub call_of_demand : DemandParts → Call
call_of_demand d = record { harvester = d.harvester; number = d.number; version = d.version }

pub record IsCutInRange (e : EntryParts) : Type 0 where
  pub call : is_call (call_of_cut e) ≡ true
  pub stem_number : e.stem.number ≤ 4294967295
  pub species : within SPECIES.low SPECIES.high e.stem.species ≡ true
  pub samples_number : one_to MOST_SAMPLES (length e.stem.samples) ≡ true
  pub samples_range : all_within SAMPLES.low SAMPLES.high e.stem.samples ≡ true
  pub zones_number : length e.stem.zones ≤ MOST_ZONES
  pub zones_range : are_zones 0 (zone_numbers e.stem.zones) ≡ true
  pub logs_number : length e.logs ≤ 80
  pub logs_range : are_logs (log_numbers e.logs) ≡ true
  pub worth : e.worth ≤ 18446744073709551615

pub record IsDemandInRange (d : DemandParts) : Type 0 where
  pub call : is_call (call_of_demand d) ≡ true
  pub targets_number : length d.targets ≤ 16384
  pub targets_range : all_within TARGETS.low TARGETS.high d.targets ≡ true

abbrev pub IsInRange : Posting → Type 0
IsInRange (Cut e) = IsCutInRange e
IsInRange (Demand d) = IsDemandInRange d

-- at most 1,000,000 postings, and all numbers in range
pub record AreInRange (pss : List (List ℕ)) (ps : List Posting) : Type 0 where
  pub few : length ps ≤ MOST_POSTINGS
  pub sheets : All AreSheetPrices pss
  pub postings : All IsInRange ps

-- a harvester of a book, and, if it is a cut, a valid stem, whose number may be any of 32 bits
abbrev pub IsOfBook : Posting → Type 0
IsOfBook (Cut e) = IsWithin 1 64 e.harvester × IsStem e.stem × (e.stem.number ≤ 4294967295)
IsOfBook (Demand d) = IsWithin 1 64 d.harvester
