-- What a run of a fleet writes.
use Rattle.std.proofs.Common.{◌≡◌, ℕ, inl, inr, List, Option, Result, Ok, Err, length, refl, sym, ap, subst}
use Rattle.std.specs.Result.{IsErrAnd}
use Rattle.std.specs.Io.KnownBytes.{Keeps}
use Rattle.std.proofs.KnownBytes.{Keeps-refl}
use Rattle.buck_book_postings.specs.History.{HistoryParts}
use Rattle.buckfleet_engine_files.specs.declared.fault.EngineFault.{EngineFault}
use Rattle.buckfleet_engine_files.specs.declared.fault.EngineFault.TheVariants.{Write, Seats, Memory}
use Rattle.buckfleet_tasks.specs.declared.harvests.Order.{Order}
use Rattle.buckfleet_tasks.specs.declared.harvests.Order.TheVariants.{AtOnce, InTurn}
use Rattle.buckfleet_engine_files.specs.Reading.{ReadsApt}
use Rattle.buckfleet_engine.specs.fleet.Running.{AnswersFleet, IsFleetRun, IsFullInOrder, IsInOrder, WroteAll, WroteSome}
use Rattle.buckfleet_engine_input.specs.Harvest.{AreNoSeats, IsFleetFault, IsHarvest}
use Rattle.buckfleet_engine_files.specs.Lent.{OfWriter}
use Rattle.buckfleet_engine.specs.inner.Fleet.{AreWritten}
use Rattle.buckfleet_engine_files.proofs.Runs.{no_answer}
use Rattle.buckfleet_engine_input.proofs.ListLemmas.{fleet_fault}

-- nothing is written if there is no history
pub no_texts : (reads : ReadsApt) (order : Order) (ByRule : HistoryParts → Type 0) (apt : Option (List ℕ))
    (stms : List (Option (List ℕ))) (OfJournal : OfWriter) (old : Option (List ℕ)) (fault : EngineFault)
    (r : Result (Unit {0}) EngineFault)
    → (AreNoSeats (length stms) → fault ≡ Seats) → IsErrAnd r (λ x. x ≡ fault) → IsFleetFault apt stms fault
    → IsFullInOrder order stms fault → OfJournal Keeps → IsFleetRun reads order ByRule apt stms OfJournal old old r
no_texts reads order ByRule apt stms OfJournal old fault (Ok u) seats h a full kept = absurd h
no_texts reads order ByRule apt stms OfJournal old fault (Err x) seats h a full kept =
    subst (λ (f : EngineFault). IsFleetRun reads order ByRule apt stms OfJournal old old (Err f)) (sym h)
    (record {
      seats = λ none. ap (λ (f : EngineFault). Err f) (seats none);
      run = no_answer (AnswersFleet reads order ByRule apt stms) (λ h. WroteAll h OfJournal old old)
          (λ h. WroteSome h OfJournal old old) (OfJournal Keeps × Keeps old old) fault (fleet_fault apt stms fault a)
          (a, full) (kept, Keeps-refl old);
    })

memory_not_full : (order : Order) (stms : List (Option (List ℕ))) → IsFullInOrder order stms Memory
memory_not_full AtOnce stms = tt
memory_not_full InTurn stms = λ e. absurd (cc e)

-- the texts of a history are written, or some first bytes of them
of_history : (reads : ReadsApt) (order : Order) (ByRule : HistoryParts → Type 0) (apt : Option (List ℕ))
    (stms : List (Option (List ℕ))) (OfJournal : OfWriter) (old new : Option (List ℕ)) (h : HistoryParts)
    (r : Result (Unit {0}) EngineFault)
    → (AreNoSeats (length stms) → ⊥) → IsHarvest reads apt stms h → IsInOrder order ByRule h
    → AreWritten h OfJournal old new r → IsFleetRun reads order ByRule apt stms OfJournal old new r
of_history reads order ByRule apt stms OfJournal old new h (Ok u) seats is turns all =
    record { seats = λ none. absurd (seats none); run = (h, (is, turns), all) }
of_history reads order ByRule apt stms OfJournal old new h (Err Write) seats is turns some =
    record { seats = λ none. absurd (seats none); run = (h, (is, turns), some) }
of_history reads order ByRule apt stms OfJournal old new h (Err Memory) seats is turns kept =
    record {
      seats = λ none. absurd (seats none);
      run =
          ((inr (inl (inr (inl refl))), memory_not_full order stms), kept);
    }
of_history reads order ByRule apt stms OfJournal old new h (Err fault) seats is turns never = absurd never

-- the same, if they are those of the same history by another name
pub texts_written : (reads : ReadsApt) (order : Order) (ByRule : HistoryParts → Type 0) (apt : Option (List ℕ))
    (stms : List (Option (List ℕ))) (OfJournal : OfWriter) (old new : Option (List ℕ)) (h shown : HistoryParts)
    (r : Result (Unit {0}) EngineFault)
    → (AreNoSeats (length stms) → ⊥) → IsHarvest reads apt stms h → IsInOrder order ByRule h → shown ≡ h
    → AreWritten shown OfJournal old new r → IsFleetRun reads order ByRule apt stms OfJournal old new r
texts_written reads order ByRule apt stms OfJournal old new h shown r seats is turns same written =
    of_history reads order ByRule apt stms OfJournal old new h r seats is turns
    (subst (λ (x : HistoryParts). AreWritten x OfJournal old new r) same written)
