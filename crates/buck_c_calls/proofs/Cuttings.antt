-- What is known of a cutting that is shown.
use Rattle.std.proofs.Common.{◌≡◌, ℕ, ◌+◌, ◌<◌, ◌≤◌, ◌⊎◌, inl, inr, All, List, Some, length, get_or, set, slice_get, unwrap_or, sym, ap, ◌∙◌, subst, arith}
use Rattle.std.proofs.lemmas.List.{get_or-set_other}
use Rattle.std.proofs.lemmas.Grind.{get_or-set_at}
use Rattle.buck_stem_shape.specs.Stem.{StemParts}
use Rattle.buck_value.specs.declared.log.Log.{Log}
use Rattle.buck_value.specs.Sheet.{SheetParts}
use Rattle.buck_value.specs.Allowed.{IsAllowed}
use Rattle.buck_dp.proofs.Lists.{cut_bounded}
use Rattle.buck_book_postings.specs.Entry.{EntryParts}
use Rattle.buck_book_postings.specs.History.{HistoryParts, in_force}
use Rattle.buck_book_postings.specs.Book.{entry_of}
use Rattle.buck_book_postings.proofs.Cuts.{each_allowed}
use Rattle.buck_book_cutter.specs.Cut.{OfPrices, HasCut}
use Rattle.buck_c_session.specs.Looked.{IsPreview}
use Rattle.buck_c_calls.specs.declared.showing.CutLog.{CutLog}
use Rattle.buck_c_calls.specs.Shown.{IsCutUnder, ShowsLog}

pub few : (sheet : SheetParts) (e : EntryParts) → IsCutUnder sheet e → length e.logs ≤ 80
few sheet e k = (cut_bounded sheet e.stem e.logs k.sheet_valid k.stem_valid k.admissible).0

pub allowed : (sheet : SheetParts) (e : EntryParts) → IsCutUnder sheet e
    → All (IsAllowed sheet.instruction e.stem) e.logs
allowed sheet e k = each_allowed sheet.instruction e.stem 0 e.logs k.admissible

-- what was cut is a cutting under the sheet that was in force
pub cut_under : (P : OfPrices) (harvester : ℕ) (stem : StemParts) (before after : HistoryParts)
    (entry : EntryParts) (sheet : SheetParts)
    → HasCut P harvester stem before after entry → sheet ≡ in_force before → IsCutUnder sheet entry
cut_under P harvester stem before after entry sheet k same =
    subst (λ e. IsCutUnder sheet e) (sym k.entry_is)
    (subst (λ s. IsCutUnder s (entry_of before harvester k.plan)) (k.sheet_in_force ∙ sym same)
    (record {
      sheet_valid = k.is_plan.sheet_valid;
      stem_valid = k.is_plan.stem_valid;
      admissible =
          k.is_plan.first_best.best.admissible;
    }))

-- so is what would be cut
pub preview_under : (h : HistoryParts) (harvester : ℕ) (stem : StemParts) (entry : EntryParts) (sheet : SheetParts)
    → IsPreview h harvester stem entry → sheet ≡ in_force h → IsCutUnder sheet entry
preview_under h harvester stem entry sheet k same =
    subst (λ e. IsCutUnder sheet e) (sym k.entry_is)
    (subst (λ s. IsCutUnder s (entry_of h harvester k.plan)) (k.planned.sheet_in_force ∙ sym same)
    (record {
      sheet_valid = k.planned.is_plan.sheet_valid;
      stem_valid = k.planned.is_plan.stem_valid;
      admissible = k.planned.is_plan.first_best.best.admissible;
    }))

-- the first n logs are shown
abbrev pub AreShown : SheetParts → StemParts → List Log → ℕ → List CutLog → Type 0
AreShown sheet stem logs n out =
    (j : ℕ) (g : Log) (d : CutLog) → j < n → slice_get logs j ≡ Some g → ShowsLog sheet stem g (get_or out j d)

before_or_last : (j k : ℕ) → j < k + 1 → (j < k) ⊎ (j ≡ k)
before_or_last j k lt = grind (arith, lt)

-- and one more
pub shown_more : (sheet : SheetParts) (stem : StemParts) (logs : List Log) (out : List CutLog) (k : ℕ) (x : CutLog)
    (h : Log)
    → k < length out → slice_get logs k ≡ Some h → ShowsLog sheet stem h x → AreShown sheet stem logs k out
    → AreShown sheet stem logs (k + 1) (set out k x)
shown_more sheet stem logs out k x h lt at shows are = λ j g d less is. elim (before_or_last j k less) [
  | inl before ↦
      subst (λ y. ShowsLog sheet stem g y) (sym (get_or-set_other out k j x d (λ e. omega (arith, before, e))))
      (are j g d before is)
  | inr last ↦ subst (λ y. ShowsLog sheet stem g y) (sym (get_or-set_at out k j x d last lt))
      (subst (λ l. ShowsLog sheet stem l x)
      (ap (λ o. unwrap_or o g) (sym at ∙ ap (λ i. slice_get logs i) (sym last) ∙ is)) shows)
]
