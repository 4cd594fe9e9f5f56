-- What an owner's instruction buys of a cutting is a cutting under it.
use Rattle.std.proofs.Common.{◌≡◌, ◌∙◌, ℕ, ◌+◌, ◌≤◌, List, [], ◌∷◌, ap, arith, inl, inr, subst, sym}
use Rattle.buck_apt_instruction.specs.Instruction.{InstructionParts}
use Rattle.buck_stem_shape.specs.Stem.{StemParts}
use Rattle.buck_value.specs.declared.log.Log.{Log}
use Rattle.buck_value.specs.Allowed.{IsAllowed, end_of, top_of, trim_in}
use Rattle.buck_dp.specs.Cutting.{IsCutFrom}
use Rattle.buck_dp.specs.Best.{IsAdmissible, IsBest, cutting_worth}
use Rattle.buck_page_figures.specs.Figures.{base_sheet}
use Rattle.buckfleet_terms_files.specs.Own.{HasShapeOf}
use Rattle.buckfleet_proceeds.specs.Paid.{AreBought}

-- a log that both instructions allow ends at the same place
ends_so : (i own : InstructionParts) (stem : StemParts) (g : Log) → HasShapeOf i own → IsAllowed i stem g
    → IsAllowed own stem g → end_of own g ≡ end_of i g
ends_so i own stem g shape one other =
    ap (λ o. top_of g + trim_in o) other.exists
    ∙ ap (λ n. top_of g + n) (shape.logs g.assortment one.assortment other.assortment one.exists other.exists).trim
    ∙ sym (ap (λ o. top_of g + trim_in o) one.exists)

-- a log ends no earlier than it starts
ends_later : (i : InstructionParts) (g : Log) → g.start ≤ end_of i g
ends_later i g = omega arith

bought_from : (i own : InstructionParts) (stem : StemParts) → HasShapeOf i own → (from low : ℕ) (logs bought : List Log)
    → low ≤ from → IsCutFrom (IsAllowed i stem) (end_of i) from logs → AreBought own stem logs bought
    → IsCutFrom (IsAllowed own stem) (end_of own) low bought
bought_from i own stem shape from low [] bought within cut is =
    subst (λ b. IsCutFrom (IsAllowed own stem) (end_of own) low b) (sym is) tt
bought_from i own stem shape from low (g ∷ more) bought within cut (inl is) =
    subst (λ b. IsCutFrom (IsAllowed own stem) (end_of own) low b) (sym is.2) (
      omega (arith, within, cut.0),
      is.1,
      bought_from i own stem shape (end_of i g) (end_of own g) more is.0
          (omega (arith, ends_so i own stem g shape cut.1 is.1)) cut.2 is.3,
    )
bought_from i own stem shape from low (g ∷ more) bought within cut (inr is) =
    bought_from i own stem shape (end_of i g) low more bought (omega (arith, within, cut.0, ends_later i g)) cut.2 is.1

pub can_be_cut : (i own : InstructionParts) (stem : StemParts) (logs bought : List Log) → HasShapeOf i own
    → IsAdmissible (base_sheet i) stem logs → AreBought own stem logs bought
    → IsAdmissible (base_sheet own) stem bought
can_be_cut i own stem logs bought shape cut is =
    bought_from i own stem shape 0 0 logs bought (omega arith) cut is

pub none_lost : (i own : InstructionParts) (stem : StemParts) (logs bought best : List Log) → HasShapeOf i own
    → IsAdmissible (base_sheet i) stem logs → AreBought own stem logs bought → IsBest (base_sheet own) stem best
    → cutting_worth (base_sheet own) stem bought ≤ cutting_worth (base_sheet own) stem best
none_lost i own stem logs bought best shape cut is greatest =
    greatest.none_outvalues bought (can_be_cut i own stem logs bought shape cut is)
