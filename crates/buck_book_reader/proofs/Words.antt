-- The words that the proofs of this crate name, from where each is declared.
pub use Rattle.std.proofs.Common.{◌≡◌, ℕ, ◌+◌, ◌*◌, ◌≤◌, true, List, [], ◌∷◌, ◌++◌, length, sym, ◌∙◌, subst, arith, rules, ◌<◌, Bool, false, Some, Ok, Result, codes, slice_get, refl, append_assoc, eq-eqb, ◌&&◌, drop, get_or, ap, drop-cons}
pub use Rattle.std.proofs.Common.{add-one, take, length-drop, ◌-◌, Err, map, ◌/◌}
pub use Rattle.std.proofs.lemmas.List.{append-nil, drop_all, take_all, length_push}
pub use Rattle.buck_stem_shape.specs.Stem.{IsStem, IsGrade, IsRisingFrom, stem_of}
pub use Rattle.std.proofs.lemmas.List.Sums.{AllPass-from_list_all}
pub use Rattle.std.specs.List.{AllByRecursion}
pub use Rattle.std.proofs.lemmas.Bool.{lt-ltb, and_from}
pub use Rattle.std.proofs.lemmas.Bool.Decides.{nat_tests}
pub use Rattle.buck_record.specs.Item.{ItemParts}
pub use Rattle.buck_record.specs.checking.Rules.{all_within, one_to, slot, file_slot}
pub use Rattle.buck_record.proofs.PassLemmas.{both, within_ok}
pub use Rattle.buck_apt_instruction.specs.declared.slots.TheConstants.{TARGETS}
pub use Rattle.buck_stem_shape.specs.declared.slots.TheConstants.{SPECIES, SAMPLES, MOST_SAMPLES, STARTS, MOST_ZONES}
pub use Rattle.buck_stem.specs.Stm.{zones_of}
pub use Rattle.buck_value.specs.declared.log.Log.{Log}
pub use Rattle.buck_book_postings.specs.declared.posting.Posting.{Posting}
pub use Rattle.buck_book_postings.specs.declared.posting.Posting.TheVariants.{Cut, Demand}
pub use Rattle.buck_book_journal.specs.declared.call.Call.{Call}
pub use Rattle.buck_book_journal.specs.Reading.{is_zone, are_zones, Form, says, list_form, call_form, head_form, samples_form, zones_form, logs_form, follows, entry_of, demand_of, is_log, are_logs, logs_of, is_first}
unfoldable pub use Rattle.buck_book_journal.specs.Reading.{numbers_at, item_at, call_at, worth_at, stem_at, cut_at, demand_at, posting_at, sheets_from, postings_from, journal_in, journal_of}
pub use Rattle.buck_book_reader.specs.Plain.{LeadsNumbers, LeadsWorth, begins, ArePostings, AreParts, LeadsPostings, HasPostings, LeadsSheets}
pub use Rattle.buck_record.specs.checking.Table.{is_at}
pub use Rattle.std.proofs.lemmas.Grind.{common_steps}
pub use Rattle.std.proofs.lemmas.List.Elements.{All-from_recursion}
pub use Rattle.buck_book_reader.specs.Limits.{AreSamples, AreZones}
unfoldable pub use Rattle.buck_record.specs.bytes.Record.{items_of, numbers_of, number_of}
pub use Rattle.buck_record.specs.pass.Cursor.{Joins, Leads, item_in}
pub use Rattle.buck_record.proofs.CursorLemmas.{leads_on}
pub use Rattle.buck_record.proofs.PartLemmas.{joined}
pub use Rattle.std.specs.Str.{bytes_eq}
pub use Rattle.buck_record.specs.declared.slot.Slot.{Slot}
pub use Rattle.buck_record.specs.checking.Check.{◌>>=◌, check}
pub use Rattle.buck_book_journal.specs.declared.journal_fault.JournalFault.{JournalFault}
pub use Rattle.buck_book_journal.specs.declared.journal_fault.JournalFault.TheVariants.{Head}
pub use Rattle.buck_record.proofs.CheckLemmas.{after_front}
pub use Rattle.std.proofs.lemmas.Result.{err_from_is_err_and}
