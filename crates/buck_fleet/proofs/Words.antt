-- The words that the proofs of this crate name, from where each is declared.
pub use Rattle.buck_dp.proofs.Words.{InstructionParts, rules, add-one, sum_by-cons, append_assoc, drop, drop-cons, StemParts, vec_capacity}
pub use Rattle.std.proofs.Common.{All, slice_index_or, slice_get, Some, nat_lt, Option, sum_by, Contains, ◌≡◌, ℕ, ◌+◌, ◌≤◌, List, [], ◌∷◌, ◌++◌, arith, sym, ◌∙◌, ◌-◌, ◌<◌, length, get_or, refl, ap, map, zero, suc, ◌==◌, cond, take, ◌≢◌}
pub use Rattle.std.proofs.Common.{set, length-set, length-append, inl, inr, append-nil, if◌then◌else◌, None, IfSome}
pub use Rattle.std.proofs.lemmas.Grind.{common_steps}
pub use Rattle.buck_book_postings.specs.declared.posting.Posting.{Posting}
pub use Rattle.buck_book_postings.specs.declared.posting.Posting.TheVariants.{Cut, Demand}
pub use Rattle.buck_book_postings.specs.Entry.{DemandParts}
pub use Rattle.buck_book_postings.specs.Plan.{PlanParts, IsPlan}
pub use Rattle.buck_book_postings.specs.History.{HistoryParts, version_of, in_force}
pub use Rattle.buck_book_postings.specs.Book.{entry_of, demand_of, IsFirst}
pub use Rattle.buck_book_postings.proofs.Ends.{ends-append, ends_with_end, take_one_more}
pub use Rattle.buck_book_postings.specs.declared.posting.Kept.{Kept}
pub use Rattle.buck_book_postings.specs.Replies.{replies_from, stem_cut, stems_of, stems_at}
pub use Rattle.buck_fleet.specs.declared.seat.TheConstants.{MOST_SEATS}
pub use Rattle.buck_fleet.specs.declared.seat.Reply.{Reply}
pub use Rattle.buck_fleet.specs.declared.seat.DemandReply.{DemandReply}
pub use Rattle.buck_fleet.specs.Seat.{SeatParts, Keeps, KeepsOne, seen_of, KeepsNothing}
pub use Rattle.buck_fleet.specs.Reply.{IsReplyFor, IsOfPlan, IsReplyToTargets, kept_of, kept_demand_of}
pub use Rattle.buck_book_postings.specs.Posting.{harvester_of}
pub use Rattle.buck_fleet_close_fault.specs.declared.fault.CloseFault.{CloseFault}
pub use Rattle.buck_fleet.specs.Closed.{ClosedParts, IsHandedOut, IsCloseFault, DifferFirstAt, lists_of}
pub use Rattle.std.proofs.lemmas.List.{get_or_append_left, get_or_push, length_push, get_or-set_other, get_or-set_same, drop_all, map-append, length-map, map-set}
pub use Rattle.std.proofs.lemmas.List.Sums.{sum_by_push, sum_by-set, sum_by-le, get_or-le-sum_by}
pub use Rattle.std.proofs.lemmas.Bool.Decides.{nat_tests}
pub use Rattle.buck_fleet.specs.Crew.{seats_of, parts_of, IsCrew, IsNew, AreOpened}
pub use Rattle.buck_fleet.specs.Fleet.{FleetParts, IsSeatIn}
pub use Rattle.buck_fleet.specs.Run.{HasRun, HaveRun, HasCut, IsFirstBestCut, IsFirstStop}
pub use Rattle.std.specs.declared.sync.Arc.{Arc}
pub use Rattle.std.specs.declared.vec.Vec.{Vec}
pub use Rattle.std.specs.declared.alloc.Global.{Global}
pub use Rattle.buck_stem_shape.specs.declared.stem.Stem.{Stem}
pub use Rattle.std.proofs.lemmas.List.Elements.{All-pop, All-append, All-cons}
pub use Rattle.buck_board.specs.declared.board.Board.{Board}
pub use Rattle.buck_board.specs.declared.seat.BoardSeat.{BoardSeat}
pub use Rattle.buck_board.specs.Board.{IsSeatOf, seen_by}
pub use Rattle.std.proofs.lemmas.Bool.{cases_eq}
pub use Rattle.std.proofs.Math.Seq.{get_or-append_seam}
pub use Rattle.std.proofs.lemmas.Option.{slice_get_within, slice_get_cases, slice_get-get_or, none-some}
pub use Rattle.buck_fleet.specs.declared.fault.RunFault.{RunFault}
pub use Rattle.std.specs.Arc.{arc_value}
