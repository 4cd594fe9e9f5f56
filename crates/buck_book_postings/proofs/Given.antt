-- Sheets whose prices are a closure's answers, and one posting more.
use Rattle.std.proofs.Common.{◌≡◌, ℕ, ◌+◌, ◌<◌, inl, inr, [], ◌∷◌, ◌++◌, length, take, Option, Some, None, refl, sym, ap, subst, ◌∙◌, arith}
use Rattle.std.specs.Prelude.{IfSome}
use Rattle.std.proofs.lemmas.List.{take_all, take-append-le, length_push, get_or_push}
use Rattle.buck_book_postings.specs.declared.posting.Posting.{Posting}
use Rattle.buck_book_postings.specs.declared.posting.Posting.TheVariants.{Cut}
use Rattle.buck_book_postings.specs.Entry.{EntryParts}
use Rattle.buck_book_postings.specs.Plan.{PlanParts}
use Rattle.buck_book_postings.specs.Posting.{ends_of}
use Rattle.buck_book_postings.specs.History.{HistoryParts, IsLawful, IsEnd, prices_at, sheets_with, history_with}
use Rattle.buck_book_postings.specs.Pricing.{Calls, AreAnswers, AreAnswersWith, AreSheetsBy}
use Rattle.buck_book_postings.specs.Book.{BookParts, ReadyParts, SameContent, IsReadyFor, IsNext, entry_of}
use Rattle.buck_book_postings.proofs.Ends.{ends_past}
use Rattle.buck_book_postings.proofs.Extend.{slice_get-push, prices_stay}

-- before any posting there was no end
pub none_given : {F : Type 0} (g : Calls F) (f : F) (h : HistoryParts) → h.postings ≡ [] → AreSheetsBy g f h
none_given g f h none = record { answers = λ k x at. absurd (cc (none, at)) }

-- the prices of the next sheet, if the posting is an end
next_given : {F : Type 0} (g : Calls F) (f : F) (h : HistoryParts) (x : Posting) (next : _) → IsLawful h
    → IsNext h x next
    → IfSome next (λ s. AreAnswers g f h.instruction (h.postings ++ x ∷ []) s.prices) → IsEnd h.instruction h.postings x
    → AreAnswers g f h.instruction (h.postings ++ x ∷ [])
    (prices_at (sheets_with h.sheets next) (ends_of h.instruction h.postings + 1))
next_given g f h x None l n given e = absurd (n e)
next_given g f h x (Some s) l n given e =
    rw (sym l.sheets_number, get_or_push h.sheets s.prices [] (length h.sheets) refl) given

pub one_more : {F : Type 0} (g : Calls F) (f : F) (h : HistoryParts) (x : Posting) (next : _) → IsLawful h → IsNext h x next
    → IfSome next (λ s. AreAnswers g f h.instruction (h.postings ++ x ∷ []) s.prices) → AreSheetsBy g f h
    → AreSheetsBy g f (history_with h x next)
one_more g f h x next l n given by = record {
  answers = λ k y at e.
      let i = h.instruction in
      elim (slice_get-push h.postings x y k at) [
        | inl old ↦
            let before : take k (h.postings ++ x ∷ []) ≡ take k h.postings =
            take-append-le k h.postings (x ∷ []) (omega (arith, old.0)) in
            let with_it : take (k + 1) (h.postings ++ x ∷ []) ≡ take (k + 1) h.postings =
            take-append-le (k + 1) h.postings (x ∷ []) (omega (arith, old.0)) in
            let e' : IsEnd i (take k h.postings) y = subst (λ xs. IsEnd i xs y) before e in
            let low : ends_of i (take k h.postings) + 1 < length h.sheets =
            omega (arith, l.sheets_number, ends_past i h.postings k y old.1 e') in
            rw (before, with_it, prices_stay h.sheets next (ends_of i (take k h.postings) + 1) low)
            (by.answers k y old.1 e')
        | inr new ↦
            let before : take k (h.postings ++ x ∷ []) ≡ h.postings =
            take-append-le k h.postings (x ∷ []) (omega (arith, new.0))
            ∙ take_all k h.postings (omega (arith, new.0)) in
            let with_it : take (k + 1) (h.postings ++ x ∷ []) ≡ h.postings ++ x ∷ [] =
            take_all (k + 1) (h.postings ++ x ∷ []) (omega (arith, new.0, length_push h.postings x)) in
            let e' : IsEnd i h.postings x =
            subst (λ z. IsEnd i h.postings z) new.1 (subst (λ xs. IsEnd i xs y) before e) in
            rw (before, with_it) (next_given g f h x next l n given e')
      ];
}

if_some : {A : Type 0} (P Q : A → Type 0) (o : Option A) → ((x : A) → P x → Q x) → IfSome o P → IfSome o Q
if_some P Q None f p = p
if_some P Q (Some x) f p = f x p

pub same_history : (h k : HistoryParts) → h.instruction ≡ k.instruction → h.sheets ≡ k.sheets → h.postings ≡ k.postings
    → h ≡ k
same_history h k i s p = λ n. record { instruction = i n; sheets = s n; postings = p n }

-- the commit of a plan
pub commit_given : {F : Type 0} (g : Calls F) (b m a : BookParts F) (harvester : ℕ) (plan : PlanParts)
    (ready : ReadyParts) (entry : EntryParts)
    → IsLawful b.history → SameContent b m → IsReadyFor m ready plan
    → IfSome ready.next (λ s. AreAnswersWith g b.rule b.history plan s.prices)
    → entry ≡ entry_of m.history harvester plan → a.rule ≡ m.rule → a.history.instruction ≡ m.history.instruction
    → a.history.sheets ≡ sheets_with m.history.sheets ready.next
    → a.history.postings ≡ m.history.postings ++ Cut entry ∷ []
    → AreSheetsBy g b.rule b.history → AreSheetsBy g a.rule a.history
commit_given g b m a harvester plan ready entry lawful content is_ready given entry_is rule instruction sheets postings
    by =
    let h = b.history in
    let e : entry ≡ entry_of h harvester plan = entry_is ∙ ap (λ h. entry_of h harvester plan) content.history in
    let x = Cut (entry_of h harvester plan) in
    let after : a.history ≡ history_with h x ready.next = same_history a.history (history_with h x ready.next)
    (instruction ∙ ap (λ (h : HistoryParts). h.instruction) content.history)
    (sheets ∙ ap (λ (h : HistoryParts). sheets_with h.sheets ready.next) content.history)
    (postings ∙ ap (λ (h : HistoryParts). h.postings ++ Cut entry ∷ []) content.history
    ∙ ap (λ (e : EntryParts). h.postings ++ Cut e ∷ []) e) in
    let is_next : IsNext h x ready.next =
    subst (λ h. IsNext h (Cut (entry_of h harvester plan)) ready.next) content.history
    (is_ready.to_add.next_is harvester) in
    let answers =
    if_some (λ s. AreAnswersWith g b.rule h plan s.prices)
    (λ s. AreAnswers g b.rule h.instruction (h.postings ++ x ∷ []) s.prices)
    ready.next (λ s all. all harvester) given in
    subst (λ f. AreSheetsBy g f a.history) (sym (rule ∙ content.rule))
    (subst (λ (k : HistoryParts). AreSheetsBy g b.rule k) (sym after)
    (one_more g b.rule h x ready.next lawful is_next answers by))
