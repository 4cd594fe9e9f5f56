-- The words that the proofs of this crate name, from where each is declared.
pub use Rattle.std.proofs.Common.{◌≡◌, ℕ, List, [], ◌∷◌, Option, sym, ap, ◌∙◌, ◌+◌, ◌≤◌, ◌<◌, inl, inr, length, take, get_or, ◌++◌, Some, None, IfSome, true, false, nat_le, refl, subst, arith, ◌≢◌, Result, Ok, Err, ◌*◌, drop}
pub use Rattle.std.proofs.Common.{append_assoc, append-nil, zero-mul, rules, length-append, map}
pub use Rattle.std.proofs.lemmas.Option.{same_Some, IfSome_then}
pub use Rattle.buck_apt_instruction.specs.Instruction.{InstructionParts}
pub use Rattle.buck_book_postings.specs.Posting.{targets_of}
pub use Rattle.buck_book_journal.specs.Journal.{history_of}
pub use Rattle.buck_page_figures.specs.declared.degrees.Degrees.{Degrees}
pub use Rattle.buckfleet_trial_sweep.specs.Table.{Assorted, IsLeast, IsLine, wholes_of, apart_of, cells, volumes_of, degree_heads, pair_heads}
pub use Rattle.buckfleet_trial_sweep.specs.inner.Lines.{AreAllDegrees, line_by, versions_of, lesser, AnswersTable, IsPart}
pub use Rattle.std.proofs.lemmas.List.{map-append, take_more, take_all, length-map}
pub use Rattle.buckfleet_tasks.specs.declared.combination.Combination.{Combination}
pub use Rattle.buckfleet_trial_sweep.specs.Sweep.{AnswersSweep, IsLineOver, IsSweepRun, IsTable, AreLines}
pub use Rattle.buckfleet_trial_sweep.specs.Runs.{IsRunLine}
pub use Rattle.std.specs.Prelude.{slice_get}
pub use Rattle.buck_page_figures.specs.Degrees.{AreDegreesBy}
pub use Rattle.buckfleet_engine_input.proofs.ListLemmas.{of_files}
