-- The words that the proofs of this crate name, from where each is declared.
pub use Rattle.std.proofs.Common.{◌≡◌, ℕ, suc, ◌+◌, false, List, [], ◌∷◌, Option, Some, None, inl, inr, drop, slice_get, refl, arith, ◌-◌, ◌<◌, ◌≤◌, ◌^◌, true, ◌++◌, All, Ok, get_or, length, take, map, sym, ap, ◌∙◌, subst, append_assoc}
pub use Rattle.std.proofs.Common.{codes, rules, zero, Bool, Result, Err, sum_by, if◌then◌else◌, ◌*◌, eq-eqb, slice_index, mul-le-mul_left}
pub use Rattle.std.proofs.lemmas.List.{append-nil, take_all, length-append, length-take-le, get_or_default}
pub use Rattle.buck_stem_shape.specs.Stem.{StemParts, IsStem, IsGrade, IsRisingFrom}
pub use Rattle.buck_dp.proofs.Words.{IsSheet, sheet_of, IsAllowed, end_of, IsCutFrom}
pub use Rattle.std.proofs.lemmas.List.Sums.{AllPass-from_list_all, suffix_len_is, sum_by-cons}
pub use Rattle.std.specs.List.{position_or_len, AllByRecursion, flat_map}
pub use Rattle.std.proofs.lemmas.Bool.{cases_Bool, cond-true, lt-ltb, le-leb, and_from}
pub use Rattle.std.proofs.lemmas.Bool.Decides.{nat_tests}
pub use Rattle.buck_record.specs.Item.{ItemParts}
pub use Rattle.buck_record.specs.checking.Rules.{slot, file_slot, within, all_within}
pub use Rattle.buck_record.proofs.PassLemmas.{both, check_ok, within_ok}
pub use Rattle.buck_apt_instruction.specs.declared.slots.TheConstants.{TARGETS}
pub use Rattle.buck_stem_shape.specs.declared.slots.TheConstants.{SAMPLES, MOST_ZONES, SPECIES, MOST_SAMPLES, STARTS}
pub use Rattle.buck_stem.specs.Stm.{zones_of}
pub use Rattle.buck_value.specs.declared.log.Log.{Log}
pub use Rattle.buck_book_postings.specs.declared.posting.Posting.{Posting}
pub use Rattle.buck_book_postings.specs.declared.posting.Posting.TheVariants.{Cut, Demand}
pub use Rattle.buck_book_journal.specs.declared.call.Call.{Call}
pub use Rattle.buck_book_journal.specs.Reading.{follows, Form, says, wanted, is_first, says_journal, number_of_items, list_form, is_call, is_zone, are_zones, zones_form, is_log, are_logs, logs_of, logs_form}
pub use Rattle.buck_book_journal.specs.Journal.{JournalParts, version_at}
unfoldable pub use Rattle.buck_book_journal.specs.Reading.{cut_at, posting_at, sheets_from, postings_from, journal_in, numbers_at, item_at, stem_at, worth_at, demand_at, journal_of}
pub use Rattle.buck_book_journal.specs.Written.{item_text, sheet_text, posting_text, zone_numbers, log_numbers}
unfoldable pub use Rattle.buck_book_journal.specs.Written.{cut_text, demand_text, journal_text}
pub use Rattle.buck_book_laws.specs.Ranges.{AreSheetPrices, IsInRange, AreInRange, call_of_cut, call_of_demand, IsCutInRange, IsDemandInRange, IsOfBook}
pub use Rattle.buck_book_reader.specs.Plain.{LeadsNumbers, LeadsWorth, begins, LeadsPostings, LeadsSheets}
pub use Rattle.std.proofs.Math.Bool.{or-false}
pub use Rattle.buck_record.specs.checking.Table.{is_at}
pub use Rattle.std.proofs.lemmas.Grind.{common_steps}
pub use Rattle.std.proofs.lemmas.Option.{slice_get_within, slice_get-get_or}
pub use Rattle.buck_apt_instruction.specs.Instruction.{InstructionParts, IsInstruction, IsWithin}
pub use Rattle.buck_book_postings.specs.Posting.{harvester_of, ends_of}
pub use Rattle.buck_book_postings.specs.History.{HistoryParts, IsLawful, Follows, PricesMeet, prices_at, sheet_at}
pub use Rattle.buck_book_postings.proofs.Ends.{ends-le}
pub use Rattle.std.proofs.lemmas.List.Elements.{All-append, All-cons, All-nil, All-from_recursion, recursion_from_All, All-contains}
pub use Rattle.std.specs.Char.{is_ascii_digit}
pub use Rattle.std.specs.Fmt.{decimal}
unfoldable pub use Rattle.std.specs.Fmt.{digits}
pub use Rattle.std.proofs.lemmas.Fmt.{digits_decimal, decimal_nonempty}
pub use Rattle.std.proofs.lemmas.List.Splits.{slice_split_at}
pub use Rattle.buck_record.specs.bytes.White.{is_white, trim, words}
unfoldable pub use Rattle.buck_record.specs.bytes.White.{trim_start, trim_end, first_word, after_word}
pub use Rattle.buck_record.specs.Reading.{with_fault}
unfoldable pub use Rattle.buck_record.specs.Reading.{each_from}
pub use Rattle.buck_record.specs.bytes.Record.{is_tilde, pieces}
unfoldable pub use Rattle.buck_record.specs.bytes.Record.{number_at_most, item_of, numbers_of, number_of, items_of}
pub use Rattle.buck_record.specs.pass.Cursor.{Leads, item_in, HasItems}
pub use Rattle.buck_record.specs.writing.Written.{spelled}
pub use Rattle.buck_record.proofs.NumberLemmas.{numeral}
pub use Rattle.buck_record.proofs.RoundLemmas.{number-decimal, numbers_again, words-spelled}
pub use Rattle.buck_record.proofs.WordLemmas.{words-trim_start}
pub use Rattle.buck_value.specs.Sheet.{base_prices}
pub use Rattle.buck_record.specs.declared.slot.Slot.{Slot}
pub use Rattle.buck_record.specs.checking.Check.{◌>>=◌}
pub use Rattle.buck_book_journal.specs.declared.journal_fault.JournalFault.{JournalFault}
pub use Rattle.buck_book_journal.specs.declared.journal_fault.JournalFault.TheVariants.{Shape}
pub use Rattle.buck_value.proofs.Prices.{base_price-le}
pub use Rattle.buck_value.proofs.Classes.{valid_of}
pub use Rattle.buck_dp.proofs.Lists.{cut_bounded}
pub use Rattle.buck_book_postings.specs.Entry.{EntryParts, DemandParts}
pub use Rattle.buck_book_postings.specs.Counts.{calls_of}
pub use Rattle.buck_book_postings.proofs.Counting.{calls-le}
pub use Rattle.buck_book_postings.proofs.Cuts.{few_logs}
pub use Rattle.buck_book_postings.proofs.Sheets.{classes-le}
