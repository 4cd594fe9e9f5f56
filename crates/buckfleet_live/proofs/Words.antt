-- The words that the proofs of this crate name, from where each is declared.
pub use Rattle.std.proofs.Common.{◌≡◌, ℕ, List, length, sym, ap, subst, ◌∙◌, zero, suc, ◌+◌, Bool, false, cond, ◌<◌, inl, inr, [], ◌∷◌, ◌++◌, Option, Some, None, take, refl, arith, append-nil, take_all, true, ◌≤◌, drop, get_or, length-drop}
pub use Rattle.std.proofs.Common.{Result, Ok, Err, le_refl, rules, vec_capacity, ◌*◌}
pub use Rattle.buck_book_postings.specs.History.{HistoryParts}
pub use Rattle.buck_book_cutter.specs.Cut.{AnyPrices, StaysByRule}
pub use Rattle.buckfleet_live.specs.Answers.{AnswersLine}
pub use Rattle.std.proofs.lemmas.Bool.{cases_lt, leb-true}
pub use Rattle.std.proofs.lemmas.List.{length-take}
pub use Rattle.std.proofs.KnownBytes.{Consumes-trans, Appends-kept, Appends-nil, Appends-trans, Keeps-refl}
pub use Rattle.std.specs.List.{slice_split, flat_map}
pub use Rattle.std.specs.Prelude.{nat_le, ◌&&◌, codes}
pub use Rattle.buckfleet_live.specs.Lines.{is_feed, is_finished, longest_line, ended_line, last_line, lines_in, lines_of}
pub use Rattle.buckfleet_live.specs.inner.Reading.{AreTaken, HasLines, HasRead, ReadsByte, IsRead}
pub use Rattle.buck_book_journal.specs.Reading.{logs_of}
pub use Rattle.buck_book_reader.proofs.Tuples.{three, next_log}
pub use Rattle.buckfleet_live.specs.Request.{are_low, in_turn, stem_text}
pub use Rattle.std.specs.Io.KnownBytes.{Appends, Keeps}
pub use Rattle.buckfleet_engine_files.specs.declared.fault.EngineFault.{EngineFault}
pub use Rattle.buckfleet_engine_files.specs.declared.fault.EngineFault.TheVariants.{Read}
pub use Rattle.buckfleet_live.specs.Live.{HasAnswered, IsLiveRun}
pub use Rattle.buckfleet_live.specs.inner.Running.{IsSaid, GoesOn}
pub use Rattle.buckfleet_live.specs.Serving.{AnswersLive, KeepsJournal}
