-- what a closed fleet hands out of its book
use Rattle.buck_fleet.proofs.Words.{◌≡◌, ℕ, ◌-◌, List, [], length, arith, common_steps, All, slice_index_or, slice_get, Some, sum_by, InstructionParts, Posting, HistoryParts, IsFirst, CloseFault, Kept, SeatParts, ClosedParts, IsHandedOut}
use Rattle.buck_fleet.proofs.Words.{IsCloseFault}

-- what `close` hands out, by what it takes in: the kept lists, and the history with the first of the best cuttings
pub handed_out : (n : ℕ) (seats : List SeatParts) (c : ClosedParts) (h : HistoryParts) (lists : List (List Kept))
    → c.history ≡ h → c.kept ≡ lists → length lists ≡ n
    → All (λ s. slice_index_or lists (s.harvester - 1) [] ≡ s.kept) seats → length h.postings ≡ sum_by length lists
    → ((k : ℕ) (x : Posting) → slice_get h.postings k ≡ Some x → IsFirst h x) → IsHandedOut n seats c
handed_out n seats c h lists eh ek len all total firsts = grind (arith, common_steps)

pub fault_at : (i j : InstructionParts) (n m : ℕ) (c : ClosedParts) (f : CloseFault) → i ≡ j → n ≡ m
    → IsCloseFault i n c f → IsCloseFault j m c f
fault_at i j n m c f ei en h = grind arith
