-- What a commit adds to a history.
use Rattle.std.proofs.Common.{◌≡◌, ℕ, List, [], ◌∷◌, ◌++◌, Option, IfSome}
use Rattle.std.proofs.lemmas.Option.{IfSome_then}
use Rattle.buck_apt_instruction.specs.Instruction.{InstructionParts}
use Rattle.buck_stem_shape.specs.Stem.{StemParts}
use Rattle.buck_value.specs.Sheet.{SheetParts}
use Rattle.buck_book_postings.specs.declared.posting.Posting.{Posting}
use Rattle.buck_book_postings.specs.declared.posting.Posting.TheVariants.{Cut, Demand}
use Rattle.buck_book_postings.specs.Entry.{EntryParts, DemandParts}
use Rattle.buck_book_postings.specs.History.{HistoryParts, IsLawful, sheets_with, history_with}
use Rattle.buck_book_postings.specs.Pricing.{Calls, AreAnswers}
use Rattle.buck_book_postings.specs.Book.{BookParts, IsNext}
use Rattle.buck_book_postings.proofs.Given.{one_more, same_history}
use Rattle.buck_book_cutter.specs.Cut.{OfPrices, HasAdded, HasCut, HasRetargeted, StaysByRule}

-- a posting was added
pub added : (P : OfPrices) (before after : HistoryParts) (x y : Posting) (next : Option SheetParts) → x ≡ y
    → IsNext before y next → IfSome next (λ s. P before.instruction (before.postings ++ y ∷ []) s.prices)
    → after.instruction ≡ before.instruction → after.sheets ≡ sheets_with before.sheets next
    → after.postings ≡ before.postings ++ x ∷ [] → HasAdded P x before after
added P before after x y next is is_next given instruction sheets postings = record {
  next = next;
  next_is = rw is is_next;
  by_rule = rw is given;
  after_is = same_history after (history_with before x next) instruction sheets postings;
}

-- with one posting more a book stays by its rule
pub still_by_rule : {F : Type 0} (g : Calls F) (b a : BookParts F) (x : Posting) → IsLawful b.history
    → a.rule ≡ b.rule → HasAdded (AreAnswers g b.rule) x b.history a.history → StaysByRule g b a
still_by_rule g b a x lawful rule added by =
    rw (rule, added.after_is) (one_more g b.rule b.history x added.next lawful added.next_is added.by_rule by)

pub as_before : {F : Type 0} (g : Calls F) (b a : BookParts F) → a.rule ≡ b.rule → a.history ≡ b.history
    → StaysByRule g b a
as_before g b a rule history by = rw (rule, history) by

-- what holds of the prices may be said of less
less_added : (P Q : OfPrices) (x : Posting) (before after : HistoryParts)
    → ((i : InstructionParts) (ps : List Posting) (prices : List ℕ) → P i ps prices → Q i ps prices)
    → HasAdded P x before after → HasAdded Q x before after
less_added P Q x before after less added = record {
  next = added.next;
  next_is = added.next_is;
  by_rule = IfSome_then added.next added.by_rule
      (λ s. less before.instruction (before.postings ++ x ∷ []) s.prices);
  after_is = added.after_is;
}

pub less_cut : (P Q : OfPrices) (harvester : ℕ) (stem : StemParts) (before after : HistoryParts) (entry : EntryParts)
    → ((i : InstructionParts) (ps : List Posting) (prices : List ℕ) → P i ps prices → Q i ps prices)
    → HasCut P harvester stem before after entry → HasCut Q harvester stem before after entry
less_cut P Q harvester stem before after entry less cut = record {
  who = cut.who;
  plan = cut.plan;
  is_plan = cut.is_plan;
  same_stem = cut.same_stem;
  sheet_in_force = cut.sheet_in_force;
  entry_is = cut.entry_is;
  added = less_added P Q (Cut entry) before after less cut.added;
}

pub less_retargeted : (P Q : OfPrices) (harvester : ℕ) (targets : List ℕ) (before after : HistoryParts)
    (demand : DemandParts)
    → ((i : InstructionParts) (ps : List Posting) (prices : List ℕ) → P i ps prices → Q i ps prices)
    → HasRetargeted P harvester targets before after demand → HasRetargeted Q harvester targets before after demand
less_retargeted P Q harvester targets before after demand less done = record {
  who = done.who;
  valid = done.valid;
  demand_is = done.demand_is;
  added = less_added P Q (Demand demand) before after less done.added;
}
