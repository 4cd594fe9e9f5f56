-- What logs come to under an owner's instruction, at its base prices: a log that it doesn't allow isn't bought.
use Rattle.std.specs.Prelude.{◌≡◌, ◌⊎◌, ℕ, ◌+◌, List, [], ◌∷◌, length, sum_by, slice_get, Some}
use Rattle.buck_apt_instruction.specs.Instruction.{InstructionParts}
use Rattle.buck_stem_shape.specs.Stem.{StemParts}
use Rattle.buck_value.specs.declared.log.Log.{Log}
use Rattle.buck_value.specs.Allowed.{IsAllowed}
use Rattle.buck_book_postings.specs.declared.posting.Posting.{Posting}
use Rattle.buck_book_postings.specs.declared.posting.Posting.TheVariants.{Cut, Demand}
use Rattle.buck_book_postings.specs.Counts.{assortment_logs_in}
use Rattle.buck_page_figures.specs.Figures.{at_base_in, logs_in, volume_in}
use Rattle.buck_page_figures.specs.Assorted.{part_at_base_in, part_volume_in}
use Rattle.buckfleet_proceeds.specs.declared.paid.Paid.{Paid}

-- of logs, those that an owner's instruction buys
abbrev pub AreBought : InstructionParts → StemParts → List Log → List Log → Type 0
AreBought own stem [] bought = bought ≡ []
AreBought own stem (g ∷ more) bought =
    ((rest : List Log) × IsAllowed own stem g × (bought ≡ g ∷ rest) × AreBought own stem more rest)
    ⊎ ((IsAllowed own stem g → ⊥) × AreBought own stem more bought)

-- the same posting with only those of its logs that are bought
abbrev pub IsBought : InstructionParts → Posting → Posting → Type 0
IsBought own (Cut e) (Cut b) =
    (b.harvester ≡ e.harvester) × (b.stem ≡ e.stem) × AreBought own e.stem e.logs b.logs
IsBought own (Demand d) (Demand b) = b ≡ d
IsBought own (Cut e) (Demand b) = ⊥
IsBought own (Demand d) (Cut b) = ⊥

-- all postings with only their bought logs, one for one
pub record AreAllBought (own : InstructionParts) (ps bought : List Posting) : Type 0 where
  pub same_number : length bought ≡ length ps
  pub each : (k : ℕ) (x b : Posting) → slice_get ps k ≡ Some x → slice_get bought k ≡ Some b → IsBought own x b

-- what postings come to, given the same with only their bought logs, by how logs, volume and worth are counted
pub record IsPaid (logs volume worth : Posting → ℕ) (ps bought : List Posting) (p : Paid) : Type 0 where
  pub number : p.logs ≡ sum_by logs ps
  pub unbought : p.unbought + sum_by logs bought ≡ sum_by logs ps
  pub cubic : p.volume ≡ sum_by volume ps
  pub money : p.worth ≡ sum_by worth bought

-- over all logs, and over those of the assortment at a place
abbrev pub IsPaidFor : InstructionParts → List Posting → List Posting → Paid → Type 0
IsPaidFor own ps bought p = IsPaid logs_in volume_in (at_base_in own) ps bought p

abbrev pub IsPaidOf : InstructionParts → ℕ → List Posting → List Posting → Paid → Type 0
IsPaidOf own a ps bought p =
    IsPaid (assortment_logs_in a) (part_volume_in a) (part_at_base_in own a) ps bought p
