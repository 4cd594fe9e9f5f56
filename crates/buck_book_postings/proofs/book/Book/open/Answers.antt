use Rattle.buck_book_postings.proofs.Words.{◌≡◌, ℕ, ◌∙◌, ◌≤◌, List, [], ◌∷◌, replicate, get_or-replicate, length-replicate, refl, arith, common_steps, InstructionParts, SheetParts, sheet_of, base_prices}
use Rattle.buck_book_postings.proofs.Words.{book_of, Running, Tells, Keeps}
use Rattle.buck_book_postings.proofs.book.Book.open.Goals as goal

opened : {F : Type 0} (rule : F) (i : InstructionParts) (base : SheetParts) (n : Running) (calls : List ℕ)
    (capacity room sheet_room most : ℕ) → capacity ≤ 1000000 → base ≡ sheet_of 0 i (base_prices i) → Tells i [] n
    → most ≡ 64 → calls ≡ replicate most 0
    → Keeps (book_of rule i (base.prices ∷ []) [] capacity room sheet_room) (base ∷ []) n calls
opened rule i base n calls capacity room sheet_room most le is told m none =
    grind (arith, common_steps, get_or-replicate, length-replicate)

pub invariant_of-result : goal.invariant_of-result
invariant_of-result g c =
    rw (c.new-2.ensures.items, c.push_reserved.ensures.items, c.in_ok-sheets.ensures.items)
    (opened _ _ _ _ _ _ _ _ 64 c.requires.1
    (c.in_ok-base-2.ensures.ok ∙ (rw c.in_ok-clone.ensures.cases at c.in_ok-base.ensures))
    (rw c.deref.ensures at c.in_ok-running.ensures) refl (c.in_ok-calls.ensures.items_if_clones_equal (λ y e. e)))
