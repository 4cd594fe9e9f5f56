-- If there is one stem file, harvester 2 has none.
use Rattle.std.proofs.Common.{◌≡◌, ◌≢◌, ℕ, ◌∷◌, List, [], Option, Some, Result, Ok, Err, false, sym, ◌∙◌, arith}
use Rattle.std.specs.Result.{is_err}
use Rattle.std.proofs.lemmas.List.{get_or_past}
use Rattle.buck_apt_instruction.specs.Instruction.{InstructionParts}
use Rattle.buck_rule.specs.declared.named.NamedRule.{NamedRule}
use Rattle.buck_book_postings.proofs.Ends.{true_false}
use Rattle.buck_book_journal.specs.Journal.{JournalParts, history_of}
use Rattle.buck_book_journal.specs.Reading.{journal_of}
use Rattle.buckfleet_engine_files.specs.declared.fault.EngineFault.{EngineFault}
use Rattle.buckfleet_engine_files.specs.Reading.{ReadsApt, apt_with}
use Rattle.buckfleet_engine_files.specs.Written.{WritesText}
use Rattle.buckfleet_engine_cross_check.specs.Answers.{AnswersCheckWith}
use Rattle.buckfleet_engine_cross_check.specs.Ties.{stems_by}
use Rattle.wrong_engine.proofs.ties.cut_that_no_file_has_accepted.Goals as goal

no_file : (reads : ReadsApt) (rule : Option NamedRule) (apt journal : List ℕ) (stm old new : Option (List ℕ))
    (r : Result (Unit {0}) EngineFault) → is_err r ≡ false
    → WritesText (AnswersCheckWith reads rule (Some apt) (Some journal) (stm ∷ [])) old new r
    → ((i : InstructionParts) (j : JournalParts) → reads apt ≡ Ok i → journal_of journal ≡ Ok j
    → stems_by 2 (history_of i j) ≢ []) → ⊥
no_file reads rule apt journal stm old new (Ok u) e (text, of, written) cut =
    cut of.instruction of.read of.have.apt_says.1 of.have.journal_says.1
    (of.answers.1.stems (omega (arith, of.have.number)) 2 (omega arith)
    ∙ get_or_past of.files 1 [] (omega (arith, of.have.number)))
no_file reads rule apt journal stm old new (Err x) e run cut = true_false e

pub prove-unreachable-requires : goal.prove-unreachable-requires
prove-unreachable-requires c =
    no_file (apt_with c.args.by.now.settings) c.args.by.now.rule c.args.apt.now c.args.journal.now
    (Some c.args.stm.now) (Some c.args.out.now.items)
    (Some c.run_check_with-right.new.writer.items) c.run_check_with-right.result
    (sym c.is_err-is_refused.ensures.value ∙ c.if-prove.true) c.run_check_with-right.ensures.run c.requires.cut
