-- An operator's own logs, three numbers at a time.
use Rattle.buckfleet_live.proofs.Words.{◌≡◌, ℕ, true, ◌+◌, ◌<◌, ◌≤◌, List, length, drop, get_or, sym, ap, ◌∙◌, leb-true, three, are_low}
use Rattle.buck_record.proofs.PassLemmas.{both}
use Rattle.buckfleet_live.specs.declared.slots.TheConstants.{HIGHEST_ASSORTMENT}

-- the numbers of the log at a place are low, and so are those after it
pub low_at : (ns : List ℕ) (i : ℕ) → i + 2 < length ns → are_low (drop i ns) ≡ true
    → (get_or ns (i + 2) 0 ≤ HIGHEST_ASSORTMENT) × (are_low (drop (i + 3) ns) ≡ true)
low_at ns i lt low =
    let first = both _ _ (sym (ap are_low (three ns i 0 lt)) ∙ low) in
    let third = both _ _ (both _ _ first.1).1 in
    (leb-true _ _ third.0, third.1)
