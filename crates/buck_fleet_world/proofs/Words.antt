-- The words that the proofs of this crate name, from where each is declared.
pub use Rattle.buck_dp.proofs.Words.{InstructionParts, IsInstruction, slice_set, rules, mul-le-mul_left, append_assoc, sheet_of}
pub use Rattle.std.proofs.Common.{◌≡◌, ◌≢◌, ℕ, ◌+◌, ◌-◌, List, [], ◌∷◌, ◌++◌, Option, ap, ◌∙◌, arith, inl, inr, zero, suc, ◌*◌, ◌<◌, ◌≤◌, cond, length, set, sym, refl, subst, eq-eqb, length-set, get_or, replicate, ◌⊎◌, ⊎_elim, le_refl}
pub use Rattle.std.proofs.Common.{slice_get, Some, append-nil, le_trans, map, Result, Ok, Err, OnOk, OnErr, sum_by, Bool, None}
pub use Rattle.buck_value.specs.Sheet.{SheetParts, base_prices}
pub use Rattle.buck_book_postings.specs.declared.posting.Posting.{Posting}
pub use Rattle.buck_book_postings.specs.Plan.{PlanParts}
pub use Rattle.buck_book_postings.specs.History.{HistoryParts, version_of, in_force, sheet_at, sheets_with, history_with, IsLawful}
pub use Rattle.buck_book_postings.specs.Book.{IsNext, entry_of, demand_of, sheets_from, IsReadyFor, BookParts}
pub use Rattle.buck_fleet_world.specs.declared.stage.Stage.TheVariants.{Idle, Planned, Answered}
pub use Rattle.buck_fleet_world.specs.declared.harvester.Harvester.{Harvester}
pub use Rattle.buck_fleet_world.specs.Step.{IsPlanUnder, Adds, Tries, Step, Allowed, Follows, Becomes}
pub use Rattle.std.proofs.lemmas.Grind.{common_steps}
pub use Rattle.std.proofs.lemmas.Bool.{cases_eq}
pub use Rattle.std.proofs.lemmas.Bool.Decides.{nat_tests}
pub use Rattle.buck_fleet_world.specs.declared.event.Event.{Event}
pub use Rattle.buck_fleet_world.specs.World.{WorldParts, IsHarvester, at, newcomer, opening, IsAnswered, NobodyAnswered, with_front}
pub use Rattle.buck_fleet_world.specs.Run.{Move, IsRun, last, harvester_of_event, added_at, added}
pub use Rattle.buck_fleet_world.specs.Counts.{IsFreshAt, IsFresh, one_if_more, lift_at, stale_at, if_by, all_lifts, lifts_of, all_stale, stale_of}
pub use Rattle.buck_fleet_world.specs.inner.Sound.{IsGoing, IsSound, Keeps, IsPlaced, world_of, is_at}
pub use Rattle.std.proofs.lemmas.List.{length_push, length-replicate, get_or-set_same, get_or-set_other, length-map, get_or-map, get_or-replicate, get_or_read}
pub use Rattle.std.proofs.lemmas.List.Elements.{All-map, All-from_get_or}
pub use Rattle.buck_book_postings.proofs.Ends.{ends-le}
pub use Rattle.buck_fleet_world.specs.declared.fault.StepFault.{StepFault}
pub use Rattle.buck_fleet_world.specs.Kept.{RuledWorld, IsFit, IsWorld}
pub use Rattle.buck_fleet_world.specs.Refused.{HasRoom}
pub use Rattle.buck_book_postings.specs.declared.posting.Posting.TheVariants.{Cut, Demand}
pub use Rattle.buck_book_postings.specs.Posting.{harvester_of, planned_version}
pub use Rattle.buck_fleet_world.specs.declared.stage.Stage.{Stage}
pub use Rattle.buck_fleet_world.specs.declared.event.Event.TheVariants.{Read, Plan, Try, Locked, Retarget, Raise, Leave}
pub use Rattle.buck_book_postings.proofs.Sheets.{length-sheets_from, get_or-sheets_from}
pub use Rattle.buck_book_postings.proofs.Extend.{one_more, slice_get-push, version_within, prices_stay}
pub use Rattle.buck_book_postings.specs.Targets.{AreTargets}
pub use Rattle.std.proofs.lemmas.Result.{on_err_weaker}
