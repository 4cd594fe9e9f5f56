-- What is read of a text so far: items that are kept, and numbers, one at a time and four at a time.
use Rattle.std.specs.Prelude.{◌≡◌, ℕ, Bool, ◌+◌, ◌*◌, ◌<◌, ◌≤◌, ◌-◌, List, [], ◌∷◌, Result, length, take, drop, slice_index, Some, if◌then◌else◌}
use Rattle.buck_record.specs.Item.{ItemParts}
use Rattle.buck_record.specs.declared.slot.Slot.{Slot}
use Rattle.buck_record.specs.Reading.{with_front, each_from}
use Rattle.buck_record.specs.bytes.White.{first_word, after_word, words}
use Rattle.buck_record.specs.bytes.Record.{number_at_most, pieces}
use Rattle.buck_record.specs.checking.Table.{only_in}

-- the items that are kept of those that were read: every one, or those in the slots
abbrev pub kept : Bool → List Slot → Result (List ItemParts) ℕ → Result (List ItemParts) ℕ
kept every slots read = if every then read else only_in slots read

-- the numbers so far, with those of the words that are left
unfoldable pub adds_on : List ℕ → List ℕ → Result (List ℕ) ℕ
adds_on now rest = with_front now (each_from (number_at_most 4294967295) (length now + 1) (words rest))

-- the bytes of a text from one place on, up to another
unfoldable pub span : List ℕ → ℕ → ℕ → List ℕ
span text start i = take (i - start) (drop start text)

-- the text's first word is the number v, and `left` is what stands after it
pub record IsFront (text : List ℕ) (v : ℕ) (left : List ℕ) : Type 0 where
  pub filled : 0 < length (first_word text)
  pub value : number_at_most 4294967295 (first_word text) ≡ Some v
  pub after : left ≡ after_word text

-- a list of so many numbers, with room for so many in all, takes the numbers of so many bytes: one for each two
abbrev pub HasRoom : ℕ → ℕ → ℕ → Type 0
HasRoom len capacity bytes = 2 * len + bytes + 1 ≤ 2 * capacity

-- four bytes, the first the lowest, are three digits and a space, and the digits write v
pub record IsThree (group v : ℕ) : Type 0 where
  pub a : ℕ
  pub b : ℕ
  pub c : ℕ
  pub digits : (a ≤ 9) × (b ≤ 9) × (c ≤ 9)
  pub bytes : group ≡ (48 + a) + 256 * (48 + b) + 65536 * (48 + c) + 16777216 * 32
  pub value : v ≡ 100 * a + 10 * b + c

-- four numbers, number i being f i
pub record HasFour (xs : List ℕ) (f : ℕ → ℕ) : Type 0 where
  pub len : length xs ≡ 4
  pub lanes : (i : ℕ) → i < 4 → slice_index xs i ≡ f i

-- the four numbers of a list
abbrev pub four_of : List ℕ → List ℕ
four_of xs = slice_index xs 0 ∷ slice_index xs 1 ∷ slice_index xs 2 ∷ slice_index xs 3 ∷ []

-- the text's first four words are four numbers of three digits
pub record HasFronts (text values : List ℕ) : Type 0 where
  pub long : 16 ≤ length text
  pub fronts : (i : ℕ) → i < 4 → IsFront (drop (4 * i) text) (slice_index values i) (drop (4 * i + 4) text)

-- a text that is cut at its first tilde, and the first part trimmed
pub record IsCut (text piece left : List ℕ) : Type 0 where
  pub shorter : 0 < length text → length left < length text
  pub first : 0 < length piece → pieces text ≡ piece ∷ pieces left
  pub none : length piece ≡ 0 → pieces text ≡ pieces left
