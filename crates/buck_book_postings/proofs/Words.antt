-- The words that the proofs of this crate name, from where each is declared.
pub use Rattle.buck_dp.proofs.Words.{◌↔◌, drop, sum_by, rules, add-one, mul-le-mul_right, sum_by-cons, classes, ne_eqb, length-set, get_or_past, StemParts, IsStem, stem_length, IsAllowed, end_of, allowed_low, IsCutFrom, mul-le-mul}
pub use Rattle.buck_dp.proofs.Words.{take_all, take-append-le, sheet_of, mul-le-mul_left, sum_by_more, length-drop}
pub use Rattle.std.proofs.Common.{◌≡◌, ℕ, zero, suc, ◌+◌, ◌-◌, ◌*◌, ◌/◌, ◌%◌, ◌<◌, ◌≤◌, inl, inr, List, [], ◌∷◌, map, length, take, slice_index, slice_get, Some, refl, sym, ◌∙◌, arith, eqb-true, eq-eqb, div-mul-le_self, ◌++◌, Option, set}
pub use Rattle.std.proofs.Common.{get_or, append-nil, ap, ◌==◌, true, cond, replicate, ◌^◌, All, count_by, min, sum, false, ◌⊎◌, mul_comm, subst, None, IfNone}
pub use Rattle.std.proofs.lemmas.Bool.{cases_Bool, cases_lt, cases_eq, and_parts, and_from, false_from_ne_true}
pub use Rattle.std.proofs.lemmas.Nat.{same_from_place, div-mul-add, mod-mul-add, div-add-mod', div_below, mod_below, mul-add-lt}
pub use Rattle.std.proofs.lemmas.Grind.{same_number_lists, common_steps}
pub use Rattle.std.proofs.lemmas.List.{take-map, map-append, length_push, get_or-set_same, get_or-set_other, get_or-replicate, length-replicate, take-append-drop, take_more, take-take, get_or_append_left, get_or_push, get_or-map}
pub use Rattle.std.proofs.lemmas.List.{length-map, get_or-take, get_or-drop, length-take-le}
pub use Rattle.std.proofs.lemmas.List.Elements.{recursion_from_All, All-nil, All-cons, All-weaker, All-take, All-append, All-get_or}
pub use Rattle.std.proofs.lemmas.List.Sums.{sum_by-le-sum_by, sum_by_push, count_by-le-length, sum_by_more_le, sum_by-le, get_or-le-sum_by}
pub use Rattle.std.proofs.lemmas.Option.{slice_get_within, slice_get-map, slice_get_cases, same_Some, none-some, slice_get_read, get_or_from_slice_get, slice_get-get_or, IfSome_then}
pub use Rattle.buck_apt_instruction.specs.declared.class.Class.{Class}
pub use Rattle.buck_apt_instruction.specs.Instruction.{InstructionParts, AssortmentParts, IsInstruction, IsClass, classes_of, classes_before, index_of, IsWithin, place_in, IsAssortment}
pub use Rattle.buck_value.specs.Sheet.{base_prices, SheetParts, IsPriceAt, IsInSpan, IsSheetFault}
pub use Rattle.buck_value.proofs.Prices.{length-base_prices, base_at, base_price-le}
pub use Rattle.buck_book_postings.specs.declared.posting.Posting.{Posting}
pub use Rattle.buck_book_postings.specs.declared.posting.Posting.TheVariants.{Cut, Demand}
pub use Rattle.buck_book_postings.specs.Entry.{EntryParts, DemandParts}
pub use Rattle.buck_book_postings.specs.Posting.{ends_from, cuts_from, ends_of, cuts_since_end, targets_after, opening_targets, harvester_of, number_of, planned_version, is_end, targets_of}
pub use Rattle.buck_book_postings.specs.History.{IsLawful, IsEnd, PricesMeet, prices_at, standing_of, HistoryParts, Follows, IsNextSheet, sheets_with, history_with, version_of, in_force, Holds, first_of, standing_at}
pub use Rattle.std.specs.Option.{option_to_list, option_map}
pub use Rattle.buck_book_postings.specs.Targets.{AreTargets, targets_sum, IsLowSumAt}
pub use Rattle.buck_book_postings.specs.Plan.{PlanParts, IsPlan, plan_of}
pub use Rattle.buck_book_postings.specs.Book.{BookParts, book_of, IsBook, IsFirst, IsNext, IsReadyToAdd, SameContent, sheets_from, entry_of, demand_of, ReadyParts, ReadyDemandParts}
pub use Rattle.buck_book_postings.specs.inner.Running.{IsWalk, Keeps, Tells, GoesOn, IsAfter, IsCopy, IsSheetAfter, AreCounts, AreAtMost, AreCalls, AreGrownBy, AreGrownAt, standings_of}
pub use Rattle.buck_book_postings.specs.inner.Places.{class_place, ArePlaces}
pub use Rattle.buck_rule.specs.declared.standing.Standing.{Standing}
pub use denote.Ref.{Bor}
pub use denote.Param.Members.{Shared}
pub use Rattle.buck_value.specs.declared.log.Log.{Log}
pub use Rattle.buck_book_postings.specs.Counts.{class_logs_in, assortment_logs_in, count_of, assortment_count_of, calls_of, is_class, class_logs, assortment_logs}
pub use Rattle.buck_value.specs.Allowed.{class_of, class_in}
pub use Rattle.buck_value.proofs.Classes.{class_is_class}
pub use Rattle.buck_dp.proofs.Lists.{end_within}
pub use Rattle.std.proofs.Math.Nat.{min-le_left, add-mul, div-le_of_le-mul}
pub use Rattle.buck_book_postings.specs.Degree.{shared_of}
pub use Rattle.buck_rule.specs.Relation.{Meets}
pub use Rattle.buck_book_postings.specs.Pricing.{Calls, AreAnswers}
pub use Rattle.buck_book_postings.specs.Walk.{StandsAfter, IsWrongPrice, WalkParts, walk_of, passed}
pub use Rattle.buck_book_postings.specs.declared.pricing.Section.{Section}
pub use Rattle.buck_book_postings.specs.declared.running.Running.{Running}
pub use Rattle.buck_book_postings.specs.inner.Pricing.{StandingsParts, IsSection, IsClassOf, standing_by, CanPrice, StandsAt, IsAnswer, ArePriced, AreBelow, IsFirstWrong}
pub use Rattle.std.specs.List.{flat_map, AllByRecursion, zip}
pub use Rattle.std.proofs.lemmas.Slice.Zip.{length-zip, get_or-zip}
pub use Rattle.std.proofs.lemmas.List.Concat.{length-flat_map}
pub use Rattle.buck_rule.specs.Standing.{IsInRange}
pub use Rattle.buck_value.specs.declared.fault.SheetFault.{SheetFault}
pub use Rattle.buck_value.specs.declared.fault.SheetFault.TheVariants.{Count, Price}
pub use borrow.Author.Count.{below_more}
pub use Rattle.std.proofs.Math.Seq.{drop-append-add}
