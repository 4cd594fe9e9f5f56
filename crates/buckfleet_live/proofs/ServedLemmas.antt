-- Runs of requests over files that were opened and made.
use Rattle.buckfleet_live.proofs.Words.{◌≡◌, ℕ, inl, List, Option, Result, Ok, Err, ap, Keeps-refl, EngineFault, AnswersLive}
use Rattle.std.specs.Result.{IsErrAnd}
use Rattle.buckfleet_engine_files.specs.Reading.{IsAptFault}
use Rattle.buckfleet_engine_files.specs.Lent.{of_made}
use Rattle.buckfleet_engine_files.proofs.Made.{nothing_made}
use Rattle.buckfleet_tasks.specs.declared.harvests.LiveTask.{LiveTask}

-- the instruction is refused, or memory runs out
pub unopened : {M : Type 0} (contents : M → Option (List ℕ)) (journal : Option M) (task : LiveTask)
    (apt input : Option (List ℕ)) (Unread : Type 0) (old : Option (List ℕ)) (fault : EngineFault)
    (r : Result (Unit {0}) EngineFault)
    → IsErrAnd r (λ x. x ≡ fault) → IsAptFault apt fault → Unread
    → of_made contents journal (λ o. AnswersLive task apt input Unread o old old r)
unopened contents journal task apt input Unread old fault (Ok u) h a unread = absurd h
unopened contents journal task apt input Unread old fault (Err x) h a unread =
    nothing_made contents journal (λ o. AnswersLive task apt input Unread o old old (Err x)) (λ o kept. inl (record {
      fault = fault;
      is_fault = a;
      outcome_is = ap Err h;
      unread = unread;
      no_journal = kept;
      no_answer = Keeps-refl old;
    }))
