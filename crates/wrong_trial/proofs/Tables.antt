-- What stands in a table of trials, and which fault is reported.
use Rattle.std.proofs.Common.{◌≡◌, ◌≢◌, ◌⊎◌, ℕ, zero, suc, List, [], ◌∷◌, ◌++◌, inl, inr, Option, Some, None, Result, Ok, Err, codes, sym, ap, subst, ◌∙◌, append_assoc, append-nil, arith}
use Rattle.std.specs.Prelude.{slice_get}
use Rattle.std.specs.declared.sync.Arc.{Arc}
use Rattle.std.specs.declared.vec.Vec.{Vec}
use Rattle.std.specs.declared.alloc.Global.{Global}
use Rattle.buck_apt.specs.Apt.{apt_of}
use Rattle.buck_apt_instruction.specs.Instruction.{InstructionParts}
use Rattle.buck_apt_instruction.specs.Wanted.{with_targets}
use Rattle.buck_stem_shape.specs.Stem.{StemParts}
use Rattle.buck_stem_shape.specs.declared.stem.Stem.{Stem}
use Rattle.buck_stem.specs.Stm.{stm_of}
use Rattle.buck_book_postings.specs.History.{HistoryParts}
use Rattle.buck_book_postings.specs.Replies.{stems_at}
use Rattle.buckfleet_trial_draws.specs.declared.orders.Draws.{Draws}
use Rattle.buck_rule.specs.declared.named.NamedRule.{NamedRule}
use Rattle.buckfleet_engine_files.specs.declared.fault.EngineFault.{EngineFault}
use Rattle.buckfleet_engine_files.specs.declared.fault.EngineFault.TheVariants.{Full}
use Rattle.buckfleet_engine_input.specs.Harvest.{HaveTooMany, IsFleetFault}
use Rattle.buckfleet_tasks.specs.declared.combination.Combination.{Combination}
use Rattle.buckfleet_trial_sweep.specs.Sweep.{AreLines}
use Rattle.buckfleet_trial_sweep.specs.Table.{IsLine}
use Rattle.buckfleet_terms_files.specs.declared.fault.TermsFault.{TermsFault}
use Rattle.buckfleet_terms_files.specs.declared.fault.TermsFault.TheVariants.{Run, Targets}
use Rattle.buckfleet_terms_files.specs.Targets.{HasTargets}
use Rattle.buckfleet_trial.specs.Inputs.{IsTargetsStop, SaysInput}
use Rattle.buckfleet_trial.specs.Trial.{AreAllDrawn, AreSpreads, IsBestFor, IsTrial, IsTrialLine, IsTrialRun, drawn_head, starts_of}
use Rattle.wrong_trial.specs.Texts.{StandsIn, own_run}

-- the table that a run wrote, if it ended well
table : (cs : List Combination) (draws : Option Draws) (apt : Option (List ℕ)) (stms : List (Option (List ℕ)))
    (targets : Option (Option (List ℕ) × ℕ)) (old text : List ℕ) (r : Result (Unit {0}) TermsFault) (u : Unit {0})
    → IsTrialRun cs draws apt stms targets (Some old) (Some text) r → old ≡ [] → r ≡ Ok u
    → IsTrial cs draws apt stms targets text
table cs draws apt stms targets old text (Ok v) u run none well =
    subst (λ (t : List ℕ). IsTrial cs draws apt stms targets t)
    (sym (run.2 ∙ ap (λ (o : List ℕ). o ++ run.0) none)) run.1
table cs draws apt stms targets old text (Err fault) u run none well = absurd (cc well)

-- the line at a place
line_at : (IsOne : Combination → List ℕ → Type 0) (cs : List Combination) (lines : List ℕ) (k : ℕ) (c : Combination)
    → AreLines IsOne cs lines → slice_get cs k ≡ Some c → (line : List ℕ) × IsOne c line × StandsIn line lines
line_at IsOne [] lines k c are there = absurd (cc there)
line_at IsOne (d ∷ more) lines zero c (line, rest, is, one, others) there =
    let same : d ≡ c = cc there in
    (line, subst (λ (x : Combination). IsOne x line) same one, ([], rest, is))
line_at IsOne (d ∷ more) lines (suc k) c (line, rest, is, one, others) there =
    let (own, of, (before, after, in_rest)) = line_at IsOne more rest k c others there in
    let whole : lines ≡ (line ++ before) ++ (own ++ after) =
    is ∙ ap (λ (t : List ℕ). line ++ t) in_rest ∙ sym (append_assoc line before (own ++ after)) in
    (own, of, (line ++ before, after, whole))

-- what stands in a part stands in the whole
within : (a b c : List ℕ) → StandsIn a b → StandsIn b c → StandsIn a c
within a b c (x, y, is) (u, v, in_all) = (
  u ++ x,
  y ++ v,
  in_all
      ∙ ap (λ (t : List ℕ). u ++ (t ++ v)) is
      ∙ ap (λ (t : List ℕ). u ++ t) (append_assoc x (a ++ y) v ∙ ap (λ (t : List ℕ). x ++ t) (append_assoc a y v))
      ∙ sym (append_assoc u x (a ++ (y ++ v))),
)

-- the lines stand at the end of a table
in_table : (cs : List Combination) (draws : Option Draws) (apt : Option (List ℕ)) (stms : List (Option (List ℕ)))
    (targets : Option (Option (List ℕ) × ℕ)) (text : List ℕ) (k : ℕ) (c : Combination)
    → (t : IsTrial cs draws apt stms targets text) → slice_get cs k ≡ Some c
    → (line : List ℕ) × IsTrialLine t.instruction t.lists (starts_of draws t.lists) t.is_trial.best c line
    × StandsIn line text
in_table cs draws apt stms targets text k c t there =
    let over = t.is_trial in
    let (line, of, in_lines) = line_at (IsTrialLine t.instruction t.lists (starts_of draws t.lists) over.best) cs
    over.lines k c over.are_lines there in
    let columns = drawn_head (starts_of draws t.lists) in
    let whole : text ≡ (over.head ++ (columns ++ codes "\n")) ++ (over.lines ++ []) =
    over.text_is
    ∙ sym (ap (λ (x : List ℕ). (over.head ++ (columns ++ codes "\n")) ++ x) (append-nil over.lines)
    ∙ append_assoc over.head (columns ++ codes "\n") over.lines
    ∙ ap (λ (x : List ℕ). over.head ++ x) (append_assoc columns (codes "\n") over.lines)) in
    (line, of, within line over.lines text in_lines (over.head ++ (columns ++ codes "\n"), [], whole))

-- no table is a text without what the draws of the run at a place came to
pub without_draws : (cs : List Combination) (draws : Option Draws) (apt : Option (List ℕ))
    (stms : List (Option (List ℕ))) (targets : Option (Option (List ℕ) × ℕ)) (old text wrong : List ℕ)
    (r : Result (Unit {0}) TermsFault) (u : Unit {0}) (k : ℕ) (c : Combination)
    → IsTrialRun cs draws apt stms targets (Some old) (Some text) r → old ≡ [] → r ≡ Ok u → slice_get cs k ≡ Some c
    → ((i : InstructionParts) (lists : List (Vec (Arc Stem Global) Global)) (best : ℕ) (drawn : List _)
    (spreads : List ℕ) → SaysInput apt stms targets i lists → IsBestFor i lists (starts_of draws lists) best
    → AreAllDrawn i lists c (starts_of draws lists) drawn → AreSpreads best drawn spreads
    → StandsIn (spreads ++ codes "\n") wrong → ⊥)
    → text ≡ wrong → ⊥
without_draws cs draws apt stms targets old text wrong r u k c run none well there other same =
    let t = table cs draws apt stms targets old text r u run none well in
    let (line, of, in_text) = in_table cs draws apt stms targets text k c t there in
    let at_end : StandsIn (of.spreads ++ codes "\n") line =
    (of.own, [], of.line_is ∙ ap (λ (x : List ℕ). of.own ++ x) (sym (append-nil (of.spreads ++ codes "\n")))) in
    other t.instruction t.lists t.is_trial.best of.drawn of.spreads t.says t.is_trial.is_best of.are_drawn
    of.are_spreads
    (subst (λ (x : List ℕ). StandsIn (of.spreads ++ codes "\n") x) same (within _ line text at_end in_text))

-- no table is a text without the line of a history that has the targets of the file
pub without_targets : (rule : NamedRule) (cs : List Combination) (draws : Option Draws) (apt stm file : List ℕ)
    (old text wrong : List ℕ) (r : Result (Unit {0}) TermsFault) (u : Unit {0})
    → IsTrialRun cs draws (Some apt) (Some stm ∷ []) (Some (Some file, 2)) (Some old) (Some text) r
    → old ≡ [] → r ≡ Ok u → cs ≡ own_run rule ∷ []
    → ((own : InstructionParts) (wanted : List ℕ) (h : HistoryParts) (line : List ℕ) → apt_of apt ≡ Ok own
    → HasTargets own file wanted → h.instruction ≡ with_targets wanted own → IsLine rule h (line ++ codes "\n")
    → StandsIn line wrong → ⊥)
    → text ≡ wrong → ⊥
without_targets rule cs draws apt stm file old text wrong r u run none well these other same =
    let t = table cs draws (Some apt) (Some stm ∷ []) (Some (Some file, 2)) old text r u run none well in
    let c = own_run rule in
    let first : slice_get cs 0 ≡ Some c = ap (λ (l : List Combination). slice_get l 0) these in
    let (line, of, in_text) = in_table cs draws (Some apt) (Some stm ∷ []) (Some (Some file, 2)) text 0 c t first in
    let (wanted, says, is) = t.says.wanted in
    let at_front : StandsIn of.own line = ([], of.spreads ++ codes "\n", of.line_is) in
    let ran = of.is_run_line in
    other t.says.own wanted ran.history of.own t.says.apt_says.1 says.1 (ran.instruction ∙ is) ran.is_line
    (subst (λ (x : List ℕ). StandsIn of.own x) same (within of.own line text at_front in_text))

-- a file of targets isn't reported if a stem file is refused
pub targets_not_told : (cs : List Combination) (draws : Option Draws) (apt : Option (List ℕ)) (stm : List ℕ)
    (targets : Option (Option (List ℕ) × ℕ)) (old new : Option (List ℕ)) (r : Result (Unit {0}) TermsFault) (why : _)
    → IsTrialRun cs draws apt (Some stm ∷ []) targets old new r → r ≡ Err (Targets why)
    → ((stems : List StemParts) → stm_of stm ≢ Ok stems) → ⊥
targets_not_told cs draws apt stm targets old new r why run is refused =
    told targets
    (subst (λ (x : Result (Unit {0}) TermsFault). IsTrialRun cs draws apt (Some stm ∷ []) targets old new x) is
    run).0.cause where
      told : (targets : Option (Option (List ℕ) × ℕ))
          → ((fault : EngineFault) × (Targets why ≡ Run fault) × IsFleetFault apt (Some stm ∷ []) fault
          × (fault ≡ Full → HaveTooMany (Some stm ∷ [])))
          ⊎ IsTargetsStop apt (Some stm ∷ []) targets (Targets why) → ⊥
      told targets (inl (fault, named, fleet, full)) = absurd (cc named)
      told None (inr stop) = stop
      told (Some file) (inr stop) = refused (stems_at stop.lists 0) (stop.stms_say 0 (omega arith)).1
