-- Stem files in their plain order: `1 2`, and then for each stem `951 1`, `952 1`, `953 1` and perhaps `954 1`. Items
-- of no slot of the table may stand anywhere.
use Rattle.std.specs.Prelude.{◌≡◌, ℕ, List, [], ◌∷◌, ◌++◌, map, Option, Some, None, Ok}
use Rattle.std.specs.List.{flat_map}
use Rattle.std.specs.Option.{unwrap_or}
use Rattle.buck_record.specs.Item.{ItemParts}
use Rattle.buck_record.specs.bytes.Record.{numbers_of}
use Rattle.buck_record.specs.pass.Cursor.{HasItemsIn, item_in}
use Rattle.buck_record.specs.declared.slot.Slot.{Slot}
use Rattle.buck_stem.specs.declared.draft.Draft.{Draft}
use Rattle.buck_stem_shape.specs.declared.slots.TheConstants.{STEM, SPECIES, SAMPLES, ZONES}
use Rattle.buck_stem_shape.specs.Stem.{StemParts}
use Rattle.buck_stem.specs.Stm.{parts_of, table, stm_of}
use Rattle.buck_stem.specs.inner.Ready.{IsReadyDraft}

-- the zones' item, if there is one
abbrev pub zones_item : Option (List ℕ) → List ItemParts
zones_item None = []
zones_item (Some text) = item_in ZONES text ∷ []

-- a stem's items, with these texts
abbrev pub group_of : List ℕ → List ℕ → List ℕ → Option (List ℕ) → List ItemParts
group_of number species samples zones =
    item_in STEM number ∷ item_in SPECIES species ∷ item_in SAMPLES samples ∷ zones_item zones

-- what a stem says, in texts and in numbers, which are right
pub record Plain : Type 0 where
  pub draft : Draft
  pub number : List ℕ
  pub species : List ℕ
  pub samples : List ℕ
  pub zones : Option (List ℕ)
  pub numbers : numbers_of number ≡ Ok draft.number
  pub kinds : numbers_of species ≡ Ok draft.species
  pub diameters : numbers_of samples ≡ Ok draft.samples
  pub grades : numbers_of (unwrap_or zones []) ≡ Ok draft.zones
  pub ready : IsReadyDraft draft

abbrev pub group_in : Plain → List ItemParts
group_in p = group_of p.number p.species p.samples p.zones

abbrev pub all_drafts : List Plain → List Draft
all_drafts ps = map (λ (p : Plain). p.draft) ps

-- the items of stems, one stem after the other, and the stems
abbrev pub all_items : List Plain → List ItemParts
all_items ps = flat_map group_in ps

abbrev pub all_stems : List Plain → List StemParts
all_stems ps = map parts_of (all_drafts ps)

-- the text's items of the table
abbrev pub HasKept : List ℕ → List ItemParts → Type 0
HasKept text items = HasItemsIn table text items

-- the text begins with the items, and `left` has the others
abbrev pub LeadsItems : List ℕ → List ItemParts → List ℕ → Type 0
LeadsItems text first left = (items : List ItemParts) → HasKept left items → HasKept text (first ++ items)

-- the text begins with an item of the slot that says these numbers, and `left` has the other items
abbrev pub LeadsNumbers : Slot → List ℕ → List ℕ → List ℕ → Type 0
LeadsNumbers s text ns left = (t : List ℕ) × (numbers_of t ≡ Ok ns) × LeadsItems text (item_in s t ∷ []) left

-- the text begins with an item of zones that says these numbers, and `left` has the other items; or there are none, and
-- `left` has all items
pub record LeadsZones (text ns left : List ℕ) : Type 0 where
  pub item : Option (List ℕ)
  pub read : numbers_of (unwrap_or item []) ≡ Ok ns
  pub next : LeadsItems text (zones_item item) left

-- the text begins with the items of the stems, and `left` has the others
abbrev pub LeadsStems : List ℕ → List StemParts → List ℕ → Type 0
LeadsStems text stems left = (ps : List Plain) × (all_stems ps ≡ stems) × LeadsItems text (all_items ps) left

-- the items of the text are those of the stems
abbrev pub HasStems : List ℕ → List StemParts → Type 0
HasStems text stems = (ps : List Plain) × (all_stems ps ≡ stems) × HasKept text (all_items ps)

-- whatever stems the text has are those of the file
abbrev pub IsBodyOf : List ℕ → List ℕ → Type 0
IsBodyOf bytes body = (stems : List StemParts) → HasStems body stems → stm_of bytes ≡ Ok stems
