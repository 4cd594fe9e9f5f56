-- What stands in a table of wishes.
use Rattle.std.proofs.Common.{◌≡◌, ◌∙◌, ℕ, zero, suc, ◌<◌, List, [], ◌∷◌, ◌++◌, Option, Some, Result, Ok, Err, length, map, slice_index_or, sym, ap, subst, append_assoc, arith}
use Rattle.std.specs.List.{flat_map}
use Rattle.std.proofs.lemmas.List.Concat.{flat_map-cons}
use Rattle.std.specs.declared.sync.Arc.{Arc}
use Rattle.std.specs.declared.vec.Vec.{Vec}
use Rattle.std.specs.declared.alloc.Global.{Global}
use Rattle.buck_apt_instruction.specs.Instruction.{InstructionParts}
use Rattle.buck_apt_instruction.specs.Settings.{SettingsParts, with_settings}
use Rattle.buck_stem_shape.specs.declared.stem.Stem.{Stem}
use Rattle.buck_book_postings.specs.Posting.{opening_targets}
use Rattle.buckfleet_trial_draws.specs.declared.orders.Draws.{Draws}
use Rattle.buck_rule.specs.declared.named.NamedRule.{NamedRule}
use Rattle.buckfleet_terms_files.specs.declared.fault.TermsFault.{TermsFault}
use Rattle.buckfleet_terms_files.specs.Telling.{WritesTerms}
use Rattle.buckfleet_trial.specs.Inputs.{SaysInput}
use Rattle.buckfleet_trial.specs.Trial.{starts_of}
use Rattle.buckfleet_trial_wishes.specs.WishLine.{IsWishLine, whole_line, wishes_head}
use Rattle.buckfleet_trial_wishes.specs.Wishes.{AnswersWishes, AreRunsOf, AreUnsteered, IsTold, IsWishAt, IsWishesTable}
use Rattle.wrong_trial.specs.Texts.{StandsIn}

-- what is made of one of a list, and its bytes among those of all
part_of_all : {T W : Type 0} (all : List T) (made : T → W) (bytes : T → List ℕ) (P : T → Type 0) (w : W) (k : ℕ)
    → ((j : ℕ) (d : T) → j < length all → P (slice_index_or all j d)) → k < length (map made all)
    → slice_index_or (map made all) k w ≡ w
    → (t : T) × P t × (made t ≡ w) × StandsIn (bytes t) (flat_map bytes all)
part_of_all [] made bytes P w k each low is = absurd (omega (arith, low))
part_of_all (t ∷ more) made bytes P w zero each low is =
    (t, each 0 t (omega arith), is, ([], flat_map bytes more, flat_map-cons bytes t more))
part_of_all (t ∷ more) made bytes P w (suc k) each low is =
    let (own, holds, same, (before, after, in_more)) =
    part_of_all more made bytes P w k (λ j d lt. each (suc j) d (omega (arith, lt))) (omega (arith, low)) is in
    let whole : flat_map bytes (t ∷ more) ≡ (bytes t ++ before) ++ (bytes own ++ after) =
    flat_map-cons bytes t more ∙ ap (λ (x : List ℕ). bytes t ++ x) in_more
    ∙ sym (append_assoc (bytes t) before (bytes own ++ after)) in
    (own, holds, same, (bytes t ++ before, after, whole))

-- what stands at the end of a text stands in it
at_end : (a b bytes before inner after text : List ℕ) → text ≡ a ++ (b ++ bytes) → bytes ≡ before ++ (inner ++ after)
    → text ≡ (a ++ (b ++ before)) ++ (inner ++ after)
at_end a b bytes before inner after text whole is =
    whole
    ∙ ap (λ (x : List ℕ). a ++ (b ++ x)) is
    ∙ sym (append_assoc a (b ++ before) (inner ++ after)
    ∙ ap (λ (x : List ℕ). a ++ x) (append_assoc b before (inner ++ after)))

module _ (rule : NamedRule) (settings : SettingsParts) (draws : Option Draws) (apt : Option (List ℕ))
    (stms : List (Option (List ℕ))) (targets : Option (Option (List ℕ) × ℕ)) (old text wrong : List ℕ)
    (r : Result (Unit {0}) TermsFault) (u : Unit {0}) where
  abbrev IsRun : Result (Unit {0}) TermsFault → Type 0
  IsRun outcome = WritesTerms (AnswersWishes rule settings draws apt stms targets) (Some old) (Some text) outcome

  -- the table that a run wrote, if it ended well
  table : (outcome : Result (Unit {0}) TermsFault) → IsRun outcome → old ≡ [] → outcome ≡ Ok u
      → IsWishesTable rule settings draws apt stms targets text
  table (Ok v) run none well =
      subst (λ (t : List ℕ). IsWishesTable rule settings draws apt stms targets t)
      (sym (run.2 ∙ ap (λ (o : List ℕ). o ++ run.0) none)) run.1
  table (Err fault) run none well = absurd (cc well)

  -- no table is a text without the line of a wish
  pub without_wish : (at class : ℕ) → IsRun r → old ≡ [] → r ≡ Ok u
      → ((own : InstructionParts) (lists : List (Vec (Arc Stem Global) Global)) (unsteered : List ℕ)
      → SaysInput apt stms targets own lists → AreUnsteered (with_settings settings own) lists unsteered
      → IsWishAt (with_settings settings own) unsteered at class)
      → ((own : InstructionParts) (lists : List (Vec (Arc Stem Global) Global)) (unsteered moved : List ℕ)
      (whole runs : _) (line : List ℕ) → SaysInput apt stms targets own lists
      → AreUnsteered (with_settings settings own) lists unsteered
      → IsWishLine (with_settings settings own) unsteered moved whole runs
      (record { assortment = at; class = class }) line
      → StandsIn line wrong → ⊥)
      → text ≡ wrong → ⊥
  without_wish at class run none well wish other same =
      let t = table r run none well in
      let over = t.are_wishes in
      let i = with_settings settings t.own in
      let (k, low, is) = over.all at class (wish t.own t.lists over.unsteered t.says over.are_unsteered) in
      let starts = starts_of draws t.lists in
      let head = wishes_head starts in
      let first = whole_line starts over.whole.own in
      let (own, told, named, (before, after, in_lines)) =
      part_of_all over.told (λ d. d.wish) (λ d. d.line.items)
      (λ d. IsTold rule i t.lists starts over.unsteered over.whole d) _ k over.each low is in
      let line = own.line.items in
      let stands : StandsIn line text =
      (head ++ (first ++ before), after, at_end head first _ before line after text over.text_is in_lines) in
      other t.own t.lists over.unsteered told.moved over.whole told.runs line t.says over.are_unsteered
      (subst (λ w. IsWishLine i over.unsteered told.moved over.whole told.runs w line) {x = own.wish} named
      told.is_line)
      (subst (λ (x : List ℕ). StandsIn line x) same stands)

  -- no table is a text without the line of the runs with all wishes
  pub without_whole : IsRun r → old ≡ [] → r ≡ Ok u
      → ((own : InstructionParts) (lists : List (Vec (Arc Stem Global) Global)) (whole : _)
      → SaysInput apt stms targets own lists
      → AreRunsOf rule (with_settings settings own) lists (opening_targets (with_settings settings own))
      (starts_of draws lists) whole
      → StandsIn (whole_line (starts_of draws lists) whole.own) wrong → ⊥)
      → text ≡ wrong → ⊥
  without_whole run none well other same =
      let t = table r run none well in
      let over = t.are_wishes in
      let starts = starts_of draws t.lists in
      let stands : StandsIn (whole_line starts over.whole.own) text =
      (wishes_head starts, flat_map (λ d. d.line.items) over.told, over.text_is) in
      other t.own t.lists over.whole t.says over.are_whole
      (subst (λ (x : List ℕ). StandsIn (whole_line starts over.whole.own) x) same stands)
