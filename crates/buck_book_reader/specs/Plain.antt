-- Journals that are gone through item by item, with no list of the items.
use Rattle.std.specs.Prelude.{◌≡◌, ℕ, ◌+◌, ◌≤◌, Bool, true, List, [], ◌∷◌, ◌++◌, length, Ok}
use Rattle.buck_record.specs.Item.{ItemParts}
use Rattle.buck_record.specs.bytes.Record.{numbers_of, number_of}
use Rattle.buck_record.specs.pass.Cursor.{HasItems, Leads, item_in}
use Rattle.buck_record.specs.declared.slot.Slot.{Slot}
use Rattle.buck_record.specs.checking.Rules.{slot}
use Rattle.buck_book_postings.specs.declared.posting.Posting.{Posting}
use Rattle.buck_book_journal.specs.Reading.{is_first, sheets_from, postings_from, journal_of}
use Rattle.buck_book_postings.specs.declared.posting.TheConstants.{MOST_POSTINGS}

-- the text begins with an item of the slot that says these numbers, and `left` has the other items
pub record LeadsNumbers (s : Slot) (text ns left : List ℕ) : Type 0 where
  pub rest : List ℕ
  pub read : numbers_of rest ≡ Ok ns
  pub leads : Leads text (item_in s rest) left

-- the text begins with a worth
pub record LeadsWorth (text : List ℕ) (worth : ℕ) (left : List ℕ) : Type 0 where
  pub rest : List ℕ
  pub read : number_of 18446744073709551615 rest ≡ Ok worth
  pub leads : Leads text (item_in (slot 981 6) rest) left

-- the first item, if there is one, begins a posting
abbrev pub begins : List ItemParts → Bool
begins [] = true
begins (item ∷ more) = is_first item

-- at the end of a file the items are read as these postings, if as many are let in
pub record ArePostings (items : List ItemParts) (ps : List Posting) : Type 0 where
  pub begin : begins items ≡ true
  pub read : (k before : ℕ) → before + length ps ≤ MOST_POSTINGS → postings_from k before items ≡ Ok ps

-- and as these sheets and postings
pub record AreParts (ps : List Posting) (items : List ItemParts) (sheets : List (List ℕ)) : Type 0 where
  pub sheets_read : (k : ℕ) → sheets_from k items ≡ Ok sheets
  pub postings_read : (k : ℕ) → postings_from k 0 items ≡ Ok ps

-- the text begins with items, and `left` has the others; whatever these are read as, all are read as the list and it
pub record LeadsTo {P X : Type 0} (Are : P → List ItemParts → List X → Type 0) (text : List ℕ) (xs : List X)
    (left : List ℕ) : Type 0 where
  pub items : List ItemParts
  pub leads : (more : List ItemParts) → HasItems left more → HasItems text (items ++ more)
  pub read : (p : P) (more : List ItemParts) (others : List X)
      → Are p more others → Are p (items ++ more) (xs ++ others)

-- so with postings, and with sheets before any postings
abbrev pub LeadsPostings : List ℕ → List Posting → List ℕ → Type 0
LeadsPostings text ps left = LeadsTo {P = Unit {0}} (λ _ items qs. ArePostings items qs) text ps left

abbrev pub LeadsSheets : List ℕ → List (List ℕ) → List ℕ → Type 0
LeadsSheets text sheets left = LeadsTo AreParts text sheets left

-- the items of the text are those of the postings
pub record HasPostings (text : List ℕ) (ps : List Posting) : Type 0 where
  pub left : List ℕ
  pub leads : LeadsPostings text ps left
  pub none : HasItems left []

-- whatever postings the rest has, if they aren't too many, the file has these sheets and them
abbrev pub BeginsJournal : List ℕ → List (List ℕ) → List ℕ → Type 0
BeginsJournal bytes sheets rest =
    (ps : List Posting) → length ps ≤ MOST_POSTINGS → HasPostings rest ps
    → journal_of bytes ≡ Ok (record { sheets = sheets; entries = ps })
