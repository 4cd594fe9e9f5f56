-- Answers of a closure that answers by a named rule.
use Rattle.std.proofs.Common.{◌≡◌, ℕ, List, Result, Ok, Err, IfOk, ap, ◌∙◌}
use Rattle.buck_apt_instruction.specs.Instruction.{InstructionParts}
use Rattle.buck_stem_shape.specs.Stem.{StemParts}
use Rattle.buck_rule.specs.declared.named.NamedRule.{NamedRule}
use Rattle.buck_rule.specs.Named.{price_by}
use Rattle.buck_rule.specs.GivenBy.{GivesBy}
use Rattle.buck_book_postings.specs.declared.posting.Posting.{Posting}
use Rattle.buck_book_postings.specs.declared.demand.DemandRefusal.{DemandRefusal}
use Rattle.buck_book_postings.specs.declared.ready.CutFault.{CutFault}
use Rattle.buck_book_postings.specs.Entry.{DemandParts, EntryParts}
use Rattle.buck_book_postings.specs.History.{HistoryParts}
use Rattle.buck_book_postings.specs.Pricing.{Calls, AreAnswers}
use Rattle.buck_book_cutter.specs.Cut.{HasCut, HasRetargeted}
use Rattle.buck_book_cutter.proofs.Adding.{less_cut, less_retargeted}
use Rattle.buck_c_session.specs.Kept.{ArePricesBy}

-- they are the rule's prices
by_rule : {F : Type 0} (g : Calls F) (f : F) (rule : NamedRule) → GivesBy g f rule
    → (i : InstructionParts) (ps : List Posting) (prices : List ℕ) → AreAnswers g f i ps prices
    → ArePricesBy rule i ps prices
by_rule g f rule gives i ps prices answers = λ c k.
    let a = answers c k in gives.by_rule a.shown _ a.says.met ∙ ap (λ s. price_by rule s) a.shows

pub cut_by : {F : Type 0} (g : Calls F) (f : F) (rule : NamedRule) (who : ℕ) (stem : StemParts)
    (before after old new : HistoryParts) (r : Result EntryParts CutFault)
    → GivesBy g f rule → before ≡ old → after ≡ new → IfOk r (HasCut (AreAnswers g f) who stem before after)
    → IfOk r (HasCut (ArePricesBy rule) who stem old new)
cut_by g f rule who stem before after old new (Ok e) gives was is cut =
    less_cut (AreAnswers g f) (ArePricesBy rule) who stem old new e (by_rule g f rule gives) (rw (was, is) at cut)
cut_by g f rule who stem before after old new (Err fault) gives was is cut = tt

pub retargeted_by : {F : Type 0} (g : Calls F) (f : F) (rule : NamedRule) (who : ℕ) (targets : List ℕ)
    (before after old new : HistoryParts) (r : Result DemandParts DemandRefusal)
    → GivesBy g f rule → before ≡ old → after ≡ new → IfOk r (HasRetargeted (AreAnswers g f) who targets before after)
    → IfOk r (HasRetargeted (ArePricesBy rule) who targets old new)
retargeted_by g f rule who targets before after old new (Ok d) gives was is done =
    less_retargeted (AreAnswers g f) (ArePricesBy rule) who targets old new d (by_rule g f rule gives)
    (rw (was, is) at done)
retargeted_by g f rule who targets before after old new (Err fault) gives was is done = tt
