-- Runs of requests by a rule, and what their statuses say.
use Rattle.std.proofs.Common.{◌≡◌, ◌≢◌, ℕ, List, [], Option, Some, None, Result, Ok, Err, inl, inr, sym, ap, subst, ◌∙◌, arith}
use Rattle.std.specs.Result.{result_and}
use Rattle.buck_apt_instruction.specs.Instruction.{InstructionParts}
use Rattle.buck_apt_instruction.specs.Settings.{with_settings}
use Rattle.buck_rule.specs.declared.named.NamedRule.{NamedRule}
use Rattle.buck_book_postings.specs.History.{HistoryParts}
use Rattle.buck_book_postings.specs.Pricing.{Calls}
use Rattle.buck_book_postings.specs.Book.{BookParts}
use Rattle.buck_book_postings.specs.Pricing.{AreSheetsBy}
use Rattle.buck_book_postings.proofs.Given.{none_given}
use Rattle.buck_book_journal.specs.Written.{journal_text}
use Rattle.buckfleet_engine_files.specs.declared.fault.EngineFault.{EngineFault}
use Rattle.buckfleet_engine_files.specs.Faults.{status_of}
use Rattle.buckfleet_engine.specs.run.Serving.{status_after}
use Rattle.buckfleet_engine_files.specs.Lent.{OfWriter}
use Rattle.buckfleet_engine_files.specs.Ruled.{FollowsRule}
use Rattle.buckfleet_engine_files.proofs.Statuses.{never_0}
use Rattle.buckfleet_tasks.specs.declared.harvests.LiveTask.{LiveTask}
use Rattle.buck_book_cutter.specs.Cut.{StaysByRule, opening}
use Rattle.buckfleet_live.specs.Live.{IsLiveRun}
use Rattle.buckfleet_live.specs.Serving.{AnswersLive, KeepsJournal, RunsApt, RunsLive, RunsMade}

-- the journal of a run is that of a history by the rule that it was opened with
pub another_rule : {F : Type 0} (g : Calls F) (opened after : BookParts F) (rule : F) (i : InstructionParts)
    (right wrong : List ℕ)
    → opened.rule ≡ rule → opened.history ≡ opening i → after.rule ≡ opened.rule → StaysByRule g opened after
    → right ≡ journal_text after.history.sheets after.history.postings
    → ((h : HistoryParts) → AreSheetsBy g rule h → wrong ≢ journal_text h.sheets h.postings) → right ≡ wrong → ⊥
another_rule g opened after rule i right wrong rule_is history kept stays is differ same =
    let none : opened.history.postings ≡ [] = ap (λ (h : HistoryParts). h.postings) history in
    differ after.history
    (subst (λ f. AreSheetsBy g f after.history) (kept ∙ rule_is)
    (stays (none_given g opened.rule opened.history none)))
    (sym same ∙ is)

-- no run over requests ends with status 1
kept_1 : (OfJournal : OfWriter) (h : HistoryParts) (fault : EngineFault) → KeepsJournal OfJournal h (Err fault)
    → status_of fault ≡ 1 → ⊥
kept_1 OfJournal h fault (inl (memory, k)) e =
    let is : 3 ≡ 1 = ap (λ f. status_of f) (sym memory) ∙ e in omega (arith, is)
kept_1 OfJournal h fault (inr (write, k)) e =
    let is : 5 ≡ 1 = ap (λ f. status_of f) (sym write) ∙ e in omega (arith, is)

run_1 : (before after : HistoryParts) (input old new : Option (List ℕ)) (ran : Result (Unit {0}) EngineFault)
    → IsLiveRun before input old new ran after → status_after ran ≡ 1 → ⊥
run_1 before after input old new (Ok u) run e = omega (arith, e)
run_1 before after input old new (Err fault) (inl (read, left, run)) e =
    let is : 5 ≡ 1 = ap (λ f. status_of f) (sym read) ∙ e in omega (arith, is)
run_1 before after input old new (Err fault) (inr (write, run)) e =
    let is : 5 ≡ 1 = ap (λ f. status_of f) (sym write) ∙ e in omega (arith, is)

first_1 : (OfJournal : OfWriter) (before after : HistoryParts) (input old new : Option (List ℕ))
    (kept ran : Result (Unit {0}) EngineFault)
    → KeepsJournal OfJournal after kept → IsLiveRun before input old new ran after
    → status_after (result_and kept ran) ≡ 1 → ⊥
first_1 OfJournal before after input old new (Ok u) ran k run e = run_1 before after input old new ran run e
first_1 OfJournal before after input old new (Err fault) ran k run e = kept_1 OfJournal after fault k e

-- if the status is 1, nothing was read
unread_1 : (task : LiveTask) (apt input : Option (List ℕ)) (Unread : Type 0) (OfJournal : OfWriter)
    (old new : Option (List ℕ)) (outcome : Result (Unit {0}) EngineFault)
    → AnswersLive task apt input Unread OfJournal old new outcome → status_after outcome ≡ 1 → Unread
unread_1 task apt input Unread OfJournal old new outcome (inl refused) e = refused.unread
unread_1 task apt input Unread OfJournal old new outcome (inr opened) e =
    absurd
    (first_1 OfJournal _ opened.history input old new opened.kept opened.ran opened.journal opened.run
    (ap (λ o. status_after o) (sym opened.outcome_is) ∙ e))

unread_made : {M : Type 0} (contents : M → Option (List ℕ)) (task : LiveTask) (apt input : Option (List ℕ))
    (Unread : Type 0) (made : Result (Option M) EngineFault) (old new : Option (List ℕ))
    (outcome : Result (Unit {0}) EngineFault)
    → RunsMade contents task apt input Unread made old new outcome → status_after outcome ≡ 1 → Unread
unread_made contents task apt input Unread (Err fault) old new outcome runs e = runs.1
unread_made contents task apt input Unread (Ok None) old new outcome runs e =
    unread_1 task apt input Unread _ old new outcome runs e
unread_made contents task apt input Unread (Ok (Some file)) old new outcome (left, runs) e =
    unread_1 task apt input Unread _ old new outcome runs e

unread_apt : {O F M : Type 0} (makes : O → List ℕ → Option M → O → Type 0) (held : F → Option (List ℕ))
    (contents : M → Option (List ℕ)) (start end : O) (task : LiveTask) (opened : Result (F × List F) EngineFault)
    (input : Option (List ℕ)) (Unread : Type 0) (old new : Option (List ℕ)) (outcome : Result (Unit {0}) EngineFault)
    → RunsApt makes held contents start end task opened input Unread old new outcome
    → status_after outcome ≡ 1 → Unread
unread_apt makes held contents start end task (Err fault) input Unread old new outcome runs e = runs.2
unread_apt makes held contents start end task (Ok files) input Unread old new outcome (made, making, runs) e =
    unread_made contents task _ input Unread made old new outcome runs e

pub unread : {O F M : Type 0} (opens : O → List ℕ → Option F → O → Type 0)
    (makes : O → List ℕ → Option M → O → Type 0) (held : F → Option (List ℕ)) (contents : M → Option (List ℕ))
    (start end : O) (task : LiveTask) (input : Option (List ℕ)) (Unread : Type 0) (old new : Option (List ℕ))
    (outcome : Result (Unit {0}) EngineFault)
    → RunsLive opens makes held contents start end task input Unread old new outcome
    → status_after outcome ≡ 1 → Unread
unread opens makes held contents start end task input Unread old new outcome runs e =
    unread_apt makes held contents runs.between end task runs.opened input Unread old new outcome runs.runs e

-- if it is 0, all requests were answered by the task's rule
abbrev AnsweredBy : NamedRule → Option (List ℕ) → Option (List ℕ) → Option (List ℕ) → Type 0
AnsweredBy rule input old new =
    (i : InstructionParts) × (h : HistoryParts) × FollowsRule rule h × IsLiveRun (opening i) input old new (Ok tt) h

fault_0 : (outcome : Result (Unit {0}) EngineFault) (fault : EngineFault) → outcome ≡ Err fault
    → status_after outcome ≡ 0 → ⊥
fault_0 outcome fault is e = never_0 fault (ap (λ o. status_after o) (sym is) ∙ e)

first_0 : (kept ran : Result (Unit {0}) EngineFault) → status_after (result_and kept ran) ≡ 0 → ran ≡ Ok tt
first_0 (Ok u) (Ok tt) e = λ n. Ok tt
first_0 (Ok u) (Err fault) e = absurd (never_0 fault e)
first_0 (Err fault) ran e = absurd (never_0 fault e)

answered_0 : (task : LiveTask) (apt input : Option (List ℕ)) (Unread : Type 0) (OfJournal : OfWriter)
    (old new : Option (List ℕ)) (outcome : Result (Unit {0}) EngineFault)
    → AnswersLive task apt input Unread OfJournal old new outcome → status_after outcome ≡ 0
    → AnsweredBy task.rule input old new
answered_0 task apt input Unread OfJournal old new outcome (inl refused) e =
    absurd (fault_0 outcome refused.fault refused.outcome_is e)
answered_0 task apt input Unread OfJournal old new outcome (inr opened) e =
    let i = with_settings task.settings opened.own in
    let ran = first_0 opened.kept opened.ran (ap (λ o. status_after o) (sym opened.outcome_is) ∙ e) in (
      i,
      opened.history,
      opened.by_rule,
      subst (λ (r : Result (Unit {0}) EngineFault). IsLiveRun (opening i) input old new r opened.history) ran opened.run,
    )

answered_made : {M : Type 0} (contents : M → Option (List ℕ)) (task : LiveTask) (apt input : Option (List ℕ))
    (Unread : Type 0) (made : Result (Option M) EngineFault) (old new : Option (List ℕ))
    (outcome : Result (Unit {0}) EngineFault)
    → RunsMade contents task apt input Unread made old new outcome → status_after outcome ≡ 0
    → AnsweredBy task.rule input old new
answered_made contents task apt input Unread (Err fault) old new outcome runs e =
    absurd (fault_0 outcome fault runs.0 e)
answered_made contents task apt input Unread (Ok None) old new outcome runs e =
    answered_0 task apt input Unread _ old new outcome runs e
answered_made contents task apt input Unread (Ok (Some file)) old new outcome (left, runs) e =
    answered_0 task apt input Unread _ old new outcome runs e

answered_apt : {O F M : Type 0} (makes : O → List ℕ → Option M → O → Type 0) (held : F → Option (List ℕ))
    (contents : M → Option (List ℕ)) (start end : O) (task : LiveTask) (opened : Result (F × List F) EngineFault)
    (input : Option (List ℕ)) (Unread : Type 0) (old new : Option (List ℕ)) (outcome : Result (Unit {0}) EngineFault)
    → RunsApt makes held contents start end task opened input Unread old new outcome
    → status_after outcome ≡ 0 → AnsweredBy task.rule input old new
answered_apt makes held contents start end task (Err fault) input Unread old new outcome runs e =
    absurd (fault_0 outcome fault runs.0 e)
answered_apt makes held contents start end task (Ok files) input Unread old new outcome (made, making, runs) e =
    answered_made contents task _ input Unread made old new outcome runs e

pub answered : {O F M : Type 0} (opens : O → List ℕ → Option F → O → Type 0)
    (makes : O → List ℕ → Option M → O → Type 0) (held : F → Option (List ℕ)) (contents : M → Option (List ℕ))
    (start end : O) (task : LiveTask) (input : Option (List ℕ)) (Unread : Type 0) (old new : Option (List ℕ))
    (outcome : Result (Unit {0}) EngineFault)
    → RunsLive opens makes held contents start end task input Unread old new outcome
    → status_after outcome ≡ 0 → AnsweredBy task.rule input old new
answered opens makes held contents start end task input Unread old new outcome runs e =
    answered_apt makes held contents runs.between end task runs.opened input Unread old new outcome runs.runs e
