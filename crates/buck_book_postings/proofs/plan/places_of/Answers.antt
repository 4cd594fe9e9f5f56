use Rattle.buck_book_postings.proofs.Words.{◌≡◌, ℕ, ◌+◌, ◌<◌, List, [], ◌∷◌, ◌++◌, length, take, get_or, InstructionParts, StemParts, Log, ArePlaces, class_place, classes, arith, common_steps, rules}
use Rattle.buck_book_postings.proofs.plan.places_of.Goals as goal

more : (i : InstructionParts) (stem : StemParts) (logs : List Log) (places : List ℕ) (k p : ℕ) (d : Log)
    → k < length logs → p ≡ class_place i stem (get_or logs k d) → p < classes i
    → ArePlaces i stem (take k logs) places → ArePlaces i stem (take (k + 1) logs) (places ++ p ∷ [])
more i stem logs places k p d lt is within was = grind (arith, common_steps)

pub loop-log-preserved : goal.loop-log-preserved
loop-log-preserved c =
    let none : Log = record { start = 0; length = 0; assortment = 0 } in record {
      are = rw c.push_reserved.ensures.items
          (more _ _ _ _ _ _ none c.loop-log-test.true (search rules) (search rules) c.loop-log.invariant.are);
      room = omega arith;
    }

pub unreachable-requires : goal.unreachable-requires
unreachable-requires c = c.in_default.ensures.none (c.requires c.loop-log.log-index _ c.loop-log-test.true)
