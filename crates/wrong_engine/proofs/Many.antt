-- More stems than a history has room for.
use Rattle.std.proofs.Common.{◌≡◌, ℕ, Bool, true, false, ◌+◌, ◌<◌, ◌≤◌, ◌==◌, cond, List, [], ◌∷◌, length, map, Option, Some, Result, Ok, Err, refl, ap, subst, arith}
use Rattle.std.specs.Result.{is_err}
use Rattle.std.specs.Prelude.{slice_index_or, sum_by}
use Rattle.std.proofs.lemmas.List.{length-map}
use Rattle.buck_stem_shape.specs.Stem.{StemParts}
use Rattle.buck_book_postings.specs.declared.posting.Posting.{Posting}
use Rattle.buck_book_postings.specs.Posting.{harvester_of}
use Rattle.buck_book_postings.specs.History.{HistoryParts}
use Rattle.buck_book_postings.specs.Replies.{stem_cut, replies_from, replies_of}
use Rattle.buck_stem.specs.Stm.{stm_of}
use Rattle.buckfleet_engine_files.specs.declared.fault.EngineFault.{EngineFault}
use Rattle.buckfleet_engine_files.specs.declared.fault.EngineFault.TheVariants.{Full}
use Rattle.buckfleet_tasks.specs.declared.harvests.Order.{Order}
use Rattle.buckfleet_tasks.specs.declared.harvests.Order.TheVariants.{InTurn}
use Rattle.buckfleet_engine_files.specs.Reading.{ReadsApt}
use Rattle.buckfleet_engine_files.specs.Lent.{OfWriter}
use Rattle.buckfleet_engine_files.specs.Listed.{stems_cut_by}
use Rattle.buckfleet_engine.specs.fleet.Running.{IsFleetRun}
use Rattle.buckfleet_engine_input.specs.Harvest.{HaveTooMany}

-- no harvester has more postings than there are
replies_low : (h p : ℕ) (xs : List Posting) → length (replies_from h p xs) ≤ length xs
replies_low h p [] = omega arith
replies_low h p (x ∷ xs) = let rest = replies_low h (p + 1) xs in by_test (harvester_of x == h) rest where
  by_test : (b : Bool) → length (replies_from h (p + 1) xs) ≤ length xs
      → length (cond b ((record { position = p; entry = x }) ∷ replies_from h (p + 1) xs) (replies_from h (p + 1) xs))
      ≤ length (x ∷ xs)
  by_test true rest = omega (arith, rest)
  by_test false rest = omega (arith, rest)

too_many : (harvester : ℕ) (h : HistoryParts) (stems : List StemParts) → stems_cut_by harvester h ≡ map Some stems
    → length h.postings ≤ 1000000
    → 1000000 < length stems → ⊥
too_many harvester h stems cut few many =
    let same : length (stems_cut_by harvester h) ≡ length (map Some stems) = ap (λ (l : List _). length l) cut in
    omega (
      arith,
      same,
      length-map (replies_of harvester h) (λ k. stem_cut k.entry),
      length-map stems Some,
      replies_low harvester 0 h.postings,
      few,
      many,
    )

-- a run over one file of them doesn't end well
pub too_many_in_file : (reads : ReadsApt) (order : Order) (ByRule : HistoryParts → Type 0) (apt : Option (List ℕ))
    (stm : List ℕ) (OfJournal : OfWriter) (old new : Option (List ℕ)) (r : Result (Unit {0}) EngineFault)
    → ((stems : List StemParts) → stm_of stm ≡ Ok stems → 1000000 < length stems)
    → IsFleetRun reads order ByRule apt (Some stm ∷ []) OfJournal old new r → is_err r ≡ false → ⊥
too_many_in_file reads order ByRule apt stm OfJournal old new (Ok u) many ran well =
    let harvest = ran.run.1.0 in
    let cut = harvest.stems 0 (omega arith) in
    too_many 1 ran.run.0 cut.stems cut.are_cut harvest.few (many cut.stems cut.stm_says.1)
too_many_in_file reads order ByRule apt stm OfJournal old new (Err fault) many ran well = cc well

-- few stems of one file aren't too many
pub few_in_file : (reads : ReadsApt) (ByRule : HistoryParts → Type 0) (apt : Option (List ℕ)) (stm : List ℕ)
    (OfJournal : OfWriter) (old new : Option (List ℕ)) (r : Result (Unit {0}) EngineFault)
    → ((stems : List StemParts) → stm_of stm ≡ Ok stems → length stems ≤ 1000000)
    → IsFleetRun reads InTurn ByRule apt (Some stm ∷ []) OfJournal old new r → r ≡ Err Full → ⊥
few_in_file reads ByRule apt stm OfJournal old new r few ran full =
    one_file ((subst
    (λ (x : Result (Unit {0}) EngineFault). IsFleetRun reads InTurn ByRule apt (Some stm ∷ []) OfJournal old new x)
    full ran).run.0.1 refl) where
      one_list : (lists : List (List StemParts)) → length lists ≡ 1
          → sum_by (λ (l : List StemParts). length l) lists ≡ length (slice_index_or lists 0 [])
      one_list [] n = absurd (omega (arith, n))
      one_list (x ∷ []) n = omega arith
      one_list (x ∷ y ∷ more) n = absurd (omega (arith, n))

      one_file : HaveTooMany (Some stm ∷ []) → ⊥
      one_file t =
          omega (
            arith,
            t.many,
            one_list t.stems t.number,
            few (slice_index_or t.stems 0 []) (t.stms_say 0 (omega arith)).1,
          )
