-- How classes stand after some postings, and prices in the relation, class by class.
use Rattle.buck_book_postings.proofs.Words.{◌≡◌, ℕ, List, Option, Some, None, length, ◌∙◌, arith, rules, IfNone, Class, IsClass, classes, Standing, Meets, Posting, targets_of, standing_of, PricesMeet, AreAnswers, Calls, StandsAfter}
use Rattle.buck_book_postings.proofs.Words.{IsWrongPrice, AreCounts, StandingsParts, StandsAt, standing_by, ArePriced, AreBelow, IsFirstWrong}
use Rattle.buck_book_postings.proofs.Places.{place_lt, ClassAt, class_at}
use Rattle.buck_book_postings.proofs.Standings.{standing_is}

module _ (s : StandingsParts) (ps : List Posting) (wanted : s.targets ≡ targets_of s.instruction ps)
    (counts : AreCounts s.instruction ps s.by_class s.by_assortment) where
  stands : (c : Class) (k : IsClass s.instruction c)
      → standing_by s k.assortment c ≡ standing_of s.instruction k.assortment c ps
  stands c k = standing_is s.instruction s.targets s.by_class s.by_assortment ps c wanted counts k

  pub stands_after : (place : ℕ) (t : Standing) → StandsAt s place t → StandsAfter s.instruction ps place t
  stands_after place t at = λ c k is. at.each c k is ∙ stands c k

  -- answers to how the classes stand by the counts are answers to how they stand after the postings
  pub are_answers : {F : Type 0} (g : Calls F) (f : F) (prices : List ℕ) → ArePriced g f s prices (classes s.instruction)
      → AreAnswers g f s.instruction ps prices
  are_answers g f prices priced = λ c k.
      rw (stands c k) at (priced.answered.each c k (place_lt s.instruction c k)).given

  -- by running counts that are right, the prices of all classes keep the relation after the postings
  pub none_wrong : (prices : List ℕ) (o : Option ℕ) → length prices ≡ classes s.instruction
      → IfNone o (AreBelow Meets s prices (classes s.instruction)) → IfNone o (PricesMeet s.instruction ps prices)
  none_wrong prices None all met = grind (arith, stands, place_lt)
  none_wrong prices (Some x) all met = met

  pub is_wrong : (prices : List ℕ) (at : ℕ) → IsFirstWrong s prices at → IsWrongPrice s.instruction ps prices at
  is_wrong prices at w =
      let c : ClassAt s.instruction at = class_at s.instruction at w.within in
      record {
        class = c.class;
        exists = c.is_class;
        place = c.place;
        wrong = search (rules, stands);
        least = λ d k lt. rw (stands d k) at (w.least.each d k lt);
      }
