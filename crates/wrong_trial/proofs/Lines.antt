-- What stands in a table over files.
use Rattle.std.proofs.Common.{◌≡◌, ◌≤◌, ℕ, List, [], ◌∷◌, ◌++◌, length, Option, Some, Result, Ok, Err, refl, sym, ap, subst, ◌∙◌, append_assoc, arith}
use Rattle.std.specs.Prelude.{sum_by, slice_index_or}
use Rattle.buck_stem_shape.specs.Stem.{StemParts}
use Rattle.buck_stem.specs.Stm.{stm_of}
use Rattle.buckfleet_engine_files.specs.declared.fault.EngineFault.{EngineFault}
use Rattle.buckfleet_engine_files.specs.declared.fault.EngineFault.TheVariants.{Full}
use Rattle.buck_rule.specs.declared.named.NamedRule.{NamedRule}
use Rattle.buckfleet_tasks.specs.declared.combination.Combination.{Combination}
use Rattle.buckfleet_trial_sweep.specs.Sweep.{IsLineOver, IsSweepRun, IsTable}
use Rattle.buckfleet_trial_sweep.specs.Table.{head_line}
use Rattle.wrong_trial.specs.SweepTexts.{StandsIn, own_run}
use Rattle.buckfleet_engine_input.specs.Harvest.{HaveTooMany}

-- the table that a run wrote, if it ended well
table : (cs : List Combination) (apt : Option (List ℕ)) (stms : List (Option (List ℕ))) (old text : List ℕ)
    (r : Result (Unit {0}) EngineFault) (u : Unit {0})
    → IsSweepRun cs apt stms (Some old) (Some text) r → old ≡ [] → r ≡ Ok u → IsTable cs apt stms text
table cs apt stms old text (Ok v) u run none well =
    subst (λ (t : List ℕ). IsTable cs apt stms t) (sym (run.run.2 ∙ ap (λ (o : List ℕ). o ++ run.run.0) none)) run.run.1
table cs apt stms old text (Err fault) u run none well = absurd (cc well)

-- the line of its only run
line_in : (c : Combination) (apt : Option (List ℕ)) (stms : List (Option (List ℕ))) (text : List ℕ)
    → IsTable (c ∷ []) apt stms text → (line : List ℕ) × IsLineOver apt stms c line × StandsIn line text
line_in c apt stms text t =
    let (line, rest, is, one, none) = t.are_lines in
    (line, one, (head_line t.instruction, rest, t.text_is ∙ ap (λ (l : List ℕ). head_line t.instruction ++ l) is))

-- those of its two runs
lines_in : (c d : Combination) (apt : Option (List ℕ)) (stms : List (Option (List ℕ))) (text : List ℕ)
    → IsTable (c ∷ d ∷ []) apt stms text
    → (one : List ℕ) × (two : List ℕ) × IsLineOver apt stms c one × IsLineOver apt stms d two
    × StandsIn (one ++ two) text
lines_in c d apt stms text t =
    let (one, rest, is, first, (two, last, more, second, none)) = t.are_lines in (
      one,
      two,
      first,
      second,
      (
        head_line t.instruction,
        last,
        t.text_is
            ∙ ap (λ (l : List ℕ). head_line t.instruction ++ l)
            (is ∙ ap (λ (l : List ℕ). one ++ l) more ∙ sym (append_assoc one two last)),
      ),
    )

-- no table of one run is a text without its line
pub without_line : (rule : NamedRule) (cs : List Combination) (apt : Option (List ℕ)) (stms : List (Option (List ℕ)))
    (old text wrong : List ℕ) (r : Result (Unit {0}) EngineFault) (u : Unit {0})
    → IsSweepRun cs apt stms (Some old) (Some text) r → old ≡ [] → r ≡ Ok u
    → ((line : List ℕ) → IsLineOver apt stms (own_run rule) line → StandsIn line wrong → ⊥)
    → text ≡ wrong → cs ≡ own_run rule ∷ [] → ⊥
without_line rule cs apt stms old text wrong r u run none well other same these =
    let t = subst (λ (l : List Combination). IsTable l apt stms text) these
    (table cs apt stms old text r u run none well) in
    let (line, one, there) = line_in (own_run rule) apt stms text t in
    other line one (subst (λ (x : List ℕ). StandsIn line x) same there)

-- no table of two runs is a text without their lines, one behind the other
pub without_lines : (first second : NamedRule) (cs : List Combination) (apt : Option (List ℕ))
    (stms : List (Option (List ℕ))) (old text wrong : List ℕ) (r : Result (Unit {0}) EngineFault) (u : Unit {0})
    → IsSweepRun cs apt stms (Some old) (Some text) r → old ≡ [] → r ≡ Ok u
    → ((one two : List ℕ) → IsLineOver apt stms (own_run first) one → IsLineOver apt stms (own_run second) two
    → StandsIn (one ++ two) wrong → ⊥)
    → text ≡ wrong → cs ≡ own_run first ∷ own_run second ∷ [] → ⊥
without_lines first second cs apt stms old text wrong r u run none well other same these =
    let t = subst (λ (l : List Combination). IsTable l apt stms text) these
    (table cs apt stms old text r u run none well) in
    let (one, two, a, b, there) = lines_in (own_run first) (own_run second) apt stms text t in
    other one two a b (subst (λ (x : List ℕ). StandsIn (one ++ two) x) same there)

-- few stems aren't too many
pub not_full : (cs : List Combination) (apt : Option (List ℕ)) (stm : List ℕ) (old new : Option (List ℕ))
    (r : Result (Unit {0}) EngineFault)
    → ((stems : List StemParts) → stm_of stm ≡ Ok stems → length stems ≤ 1000000)
    → IsSweepRun cs apt (Some stm ∷ []) old new r → r ≡ Err Full → ⊥
not_full cs apt stm old new r few run full =
    one_file ((subst (λ (x : Result (Unit {0}) EngineFault). IsSweepRun cs apt (Some stm ∷ []) old new x)
    full run).run.0.1 refl) where
      one_list : (lists : List (List StemParts)) → length lists ≡ 1
          → sum_by (λ (l : List StemParts). length l) lists ≡ length (slice_index_or lists 0 [])
      one_list [] n = absurd (omega (arith, n))
      one_list (x ∷ []) n = omega arith
      one_list (x ∷ y ∷ more) n = absurd (omega (arith, n))

      one_file : HaveTooMany (Some stm ∷ []) → ⊥
      one_file t =
          omega (
            arith,
            t.many,
            one_list t.stems t.number,
            few (slice_index_or t.stems 0 []) (t.stms_say 0 (omega arith)).1,
          )
