-- How a run of harvesters in turn ends.
use Rattle.std.proofs.Common.{◌≡◌, ◌≢◌, ◌⊎◌, ℕ, ◌+◌, List, [], ◌∷◌, ◌++◌, map, ap, Option, Some, Err, refl, sym, ◌∙◌, subst, inl, inr, arith}
use Rattle.buck_apt.specs.Apt.{apt_of}
use Rattle.buck_book_postings.specs.History.{HistoryParts}
use Rattle.buck_book_journal.specs.Written.{journal_text}
use Rattle.buckfleet_engine_files.specs.declared.fault.EngineFault.{EngineFault}
use Rattle.buckfleet_engine_files.specs.declared.fault.EngineFault.TheVariants.{Read, Write, Apt, Stm, Journal, JournalOf, Replay, ReplayOf, Check, Seats, Full, Memory, Close}
use Rattle.buckfleet_tasks.specs.declared.harvests.Order.{Order}
use Rattle.buckfleet_tasks.specs.declared.harvests.Order.TheVariants.{InTurn}
use Rattle.buckfleet_engine_text.specs.Report.{IsReport}
use Rattle.buckfleet_engine_files.specs.Ruled.{FollowsRule}
use Rattle.buck_rule.specs.declared.named.NamedRule.{NamedRule}
use Rattle.buckfleet_engine_files.specs.Faults.{fault_line, memory_line, status_of}
use Rattle.buckfleet_engine_files.specs.Reading.{ReadsApt}
use Rattle.buckfleet_engine_files.specs.Lent.{OfWriter}
use Rattle.buckfleet_engine.specs.fleet.Running.{AnswersFleet, IsFleetRun, IsInOrder}
use Rattle.buckfleet_engine_input.specs.Harvest.{IsHarvest}
use Rattle.buck_c_calls.specs.declared.turns.Texts.{Texts}
use Rattle.buck_c_calls.specs.Room.{IsPutAs}
use Rattle.buck_c_calls.specs.Turns.{ArePut, AreRefused, AreTexts, AreUsed, IsTurned}

-- what is no failed write is why there is no history
run_fault : (reads : ReadsApt) (order : Order) (ByRule : HistoryParts → Type 0) (apt : Option (List ℕ))
    (stms : List (Option (List ℕ))) (OfJournal : OfWriter) (old new : Option (List ℕ)) (fault : EngineFault)
    → IsFleetRun reads order ByRule apt stms OfJournal old new (Err fault)
    → fault ≢ Write → AnswersFleet reads order (λ _. Unit {0}) apt stms (Err fault)
run_fault reads order ByRule apt stms OfJournal old new (Read n) r w = r.run.0
run_fault reads order ByRule apt stms OfJournal old new Write r w = absurd (w refl)
run_fault reads order ByRule apt stms OfJournal old new (Apt x) r w = r.run.0
run_fault reads order ByRule apt stms OfJournal old new (Stm n x) r w = r.run.0
run_fault reads order ByRule apt stms OfJournal old new (Journal x) r w = r.run.0
run_fault reads order ByRule apt stms OfJournal old new (JournalOf n x) r w = r.run.0
run_fault reads order ByRule apt stms OfJournal old new (Replay x) r w = r.run.0
run_fault reads order ByRule apt stms OfJournal old new (ReplayOf n x) r w = r.run.0
run_fault reads order ByRule apt stms OfJournal old new (Check x) r w = r.run.0
run_fault reads order ByRule apt stms OfJournal old new Seats r w = r.run.0
run_fault reads order ByRule apt stms OfJournal old new Full r w = r.run.0
run_fault reads order ByRule apt stms OfJournal old new Memory r w = r.run.0
run_fault reads order ByRule apt stms OfJournal old new (Close x) r w = r.run.0

behind_nothing : (line : List ℕ) (status : ℕ) (old new : List ℕ) (texts : Texts) (result : ℕ) → texts.journal ≡ 0
    → IsPutAs line status old new texts.report result
    → IsPutAs ([] ++ line) status old new (texts.journal + texts.report) result
behind_nothing line status old new texts result none put =
    let is : texts.report ≡ texts.journal + texts.report = omega (arith, none) in
    subst (λ n. IsPutAs line status old new n result) is put

-- the fault's own line was put, or that of memory, with no journal before it
pub turns_told : (rule : ℕ) (named : NamedRule) (lengths bytes : List ℕ) (fault : EngineFault) (old new : List ℕ)
    (texts : Texts) (result : ℕ)
    → AreUsed rule named lengths bytes → AreRefused lengths bytes fault → texts.journal ≡ 0
    → IsPutAs (fault_line fault) (status_of fault) old new texts.report result
    ⊎ IsPutAs memory_line 3 old new texts.report result
    → ArePut (IsTurned rule lengths bytes) old new texts result
turns_told rule named lengths bytes fault old new texts result used why none (inl put) = (
  [],
  fault_line fault,
  status_of fault,
  inr (named, used, inr (refl, (fault, why, refl, refl))),
  none,
  behind_nothing (fault_line fault) (status_of fault) old new texts result none put,
)
turns_told rule named lengths bytes fault old new texts result used why none (inr put) = (
  [],
  memory_line,
  3,
  inr (named, used, inr (refl, (Memory, inl refl, refl, refl))),
  none,
  behind_nothing memory_line 3 old new texts result none put,
)

-- each file's bytes, which are known
pub known_each : {X : Type 0} (f : X → List ℕ) (xs : List X) → map (λ x. Some (f x)) xs ≡ map Some (map f xs)
known_each f [] = refl
known_each f (x ∷ xs) = ap (λ ys. Some (f x) ∷ ys) (known_each f xs)

-- what a run wrote into nothing are the texts of its history
pub texts_written : {X : Type 0} (rule : NamedRule) (f : X → List ℕ) (apt : List ℕ) (stms : List X) (h : HistoryParts)
    (before journal before_report report text : List ℕ)
    → IsHarvest apt_of (Some apt) (map (λ x. Some (f x)) stms) h → IsInOrder InTurn (FollowsRule rule) h
    → before ≡ [] → journal ≡ before ++ journal_text h.sheets h.postings
    → before_report ≡ [] → report ≡ before_report ++ text → IsReport h text
    → AreTexts rule apt (map f stms) journal report
texts_written rule f apt stms h before journal before_report report text harvest turns none is none_yet is_report
    right = (
      h,
      (subst (λ files. IsHarvest apt_of (Some apt) files h) (known_each f stms) harvest, turns),
      is ∙ ap (λ xs. xs ++ journal_text h.sheets h.postings) none,
      subst (λ xs. IsReport h xs) (sym (is_report ∙ ap (λ xs. xs ++ text) none_yet)) right,
    )

-- and what is no failed write is why there are none
pub texts_refused : {X : Type 0} (f : X → List ℕ) (ByRule : HistoryParts → Type 0) (apt : List ℕ) (stms : List X)
    (OfJournal : OfWriter) (old new : Option (List ℕ)) (fault : EngineFault)
    → IsFleetRun apt_of InTurn ByRule (Some apt) (map (λ x. Some (f x)) stms) OfJournal old new (Err fault)
    → fault ≢ Write → AnswersFleet apt_of InTurn (λ _. Unit {0}) (Some apt) (map Some (map f stms)) (Err fault)
texts_refused f ByRule apt stms OfJournal old new fault run other =
    subst (λ files. AnswersFleet apt_of InTurn (λ _. Unit {0}) (Some apt) files (Err fault)) (known_each f stms)
    (run_fault apt_of InTurn ByRule (Some apt) (map (λ x. Some (f x)) stms) OfJournal old new fault run other)
