-- The words that the proofs of this crate name, from where each is declared.
pub use Rattle.buck_dp.proofs.Words.{rules, take_all, cases_order, StemParts, IsAllowed, end_of, IsCutFrom, IsAdmissible, cutting_worth}
pub use Rattle.std.proofs.Common.{◌≡◌, ℕ, ◌+◌, ◌*◌, ◌≤◌, true, List, [], ◌∷◌, ◌++◌, Ok, length, map, refl, ap, arith, suc, false, Option, Some, inl, inr, slice_get, ◌-◌, take, sym, ◌∙◌, subst, ◌≢◌, zero, ◌<◌, Result, Err}
pub use Rattle.std.proofs.Common.{◌⊎◌, slice_index, None, IfNone, IfSome}
pub use Rattle.std.proofs.lemmas.Bool.{cases_eq, cases_lt}
pub use Rattle.buck_value.specs.declared.log.Log.{Log}
pub use Rattle.buck_book_postings.specs.declared.posting.Posting.{Posting}
pub use Rattle.buck_book_postings.specs.declared.posting.Posting.TheVariants.{Cut, Demand}
pub use Rattle.buck_book_journal.specs.Journal.{version_at, prices_then, Begins}
pub use Rattle.std.proofs.lemmas.Grind.{common_steps}
pub use Rattle.std.proofs.lemmas.List.{length_push, length-map, map-append}
pub use Rattle.std.proofs.lemmas.Option.{slice_get_within, slice_get_cases, same_Some}
pub use Rattle.buck_apt_instruction.specs.Instruction.{InstructionParts, IsInstruction, AssortmentParts, IsClass, index_of}
pub use Rattle.buck_book_postings.specs.Posting.{planned_version, ends_of, cuts_since_end}
pub use Rattle.buck_book_postings.specs.History.{HistoryParts, IsLawful, Holds, PricesMeet, sheet_at, Follows, standing_of, prices_at}
pub use Rattle.buck_book_postings.proofs.Ends.{take_one_more, ends_take-le, ends_with_end, cuts_with_end, ends_without}
pub use Rattle.buck_book_postings.proofs.Alone.{base_alone, meets_to_alone}
pub use Rattle.buck_book_journal.specs.declared.replay_fault.ReplayFault.{ReplayFault}
pub use Rattle.buck_book_replay.specs.Replay.{IsSheetRight, IsSheetFault, IsCallFault, IsContentFault, IsPostingFault, IsNumberFault, IsFaultAtEnd, IsNumbered, IsOfVersion, IsFirstFault, IsRightBefore, HasSheet, IsFaultAt}
pub use Rattle.std.specs.Prelude.{IfOk, IfErr, OnOk, Contains}
pub use Rattle.buck_book_journal.specs.declared.replay_fault.ReplayFault.TheVariants.{Outvalued, Memory, Sheet, Price, Numbering, Version, Cutting, Worth, Targets}
pub use Rattle.buck_book_replay.specs.inner.Sheets.{IsPriced, AreMade}
pub use Rattle.buck_book_replay.specs.Order.{IsRightUnder, IsInOrderBefore, IsEndRight, IsWrongAt, IsOrdered}
pub use Rattle.buck_book_replay.specs.inner.Replay.{IsOutvalued, IsDoubtful, NoneDoubtful, IsFirstDoubtful, IsFound, sheet_then, along, IsPassed}
pub use Rattle.buck_value.specs.Sheet.{SheetParts}
pub use Rattle.std.proofs.lemmas.Map.Made.{Contains-tail}
pub use Rattle.buck_apt_instruction.specs.declared.class.Class.{Class}
pub use Rattle.buck_rule.specs.declared.standing.Standing.{Standing}
pub use Rattle.buck_rule.specs.Relation.{Meets}
pub use Rattle.buck_value.specs.Allowed.{Allows}
pub use Rattle.buck_book_postings.specs.Targets.{AreTargets}
pub use Rattle.buck_book_postings.specs.Walk.{MeetsAfter, WalkParts, walk_of}
pub use Rattle.buck_value.specs.declared.fault.SheetFault.{SheetFault}
pub use Rattle.buck_book_postings.proofs.Standings.{no_fault}
