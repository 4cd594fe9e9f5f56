-- The words that the proofs of this crate name, from where each is declared.
pub use Rattle.std.proofs.Common.{◌≡◌, ◌++◌, take, length, map}
pub use Rattle.std.specs.List.{flat_map}
pub use Rattle.buck_book_journal.specs.Written.{log_numbers, posting_text, sheet_text, zone_numbers}
pub use Rattle.buck_record.specs.writing.Written.{spelled}
