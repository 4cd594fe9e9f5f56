-- Files of items, and lists of numbers.
use Rattle.std.specs.Prelude.{ℕ, Bool, ◌&&◌, ◌==◌, List, [], ◌∷◌, filter, map, nat_le, Option, Some, None, option_and_then, Result, Ok, Err, if◌then◌else◌}
use Rattle.std.specs.List.{slice_split, list_all}
use Rattle.std.specs.Char.{is_ascii_digit}
use Rattle.std.specs.Str.Parse.{digits_value}
use Rattle.buck_record.specs.Item.{ItemParts}
use Rattle.buck_record.specs.bytes.White.{is_filled, trim, first_word, after_word, words}
use Rattle.buck_record.specs.Reading.{each_from}

-- what f gives of a value, if there is one
infixl 10 ◌>>=◌
abbrev ◌>>=◌ : {A B : Type 0} → Option A → (A → Option B) → Option B
o >>= f = option_and_then f o

-- the number that a word of digits stands for, if it is at most `most`
unfoldable pub number_at_most : ℕ → List ℕ → Option ℕ
number_at_most most word =
    if is_filled word && (list_all is_ascii_digit word && nat_le (digits_value 10 word) most)
    then Some (digits_value 10 word) else None

-- the tilde
abbrev pub is_tilde : ℕ → Bool
is_tilde b = b == 126

-- the parts of a file, trimmed, without the empty ones
abbrev pub filled_parts : List (List ℕ) → List (List ℕ)
filled_parts parts = filter is_filled (map trim parts)

-- the pieces between tildes
abbrev pub pieces : List ℕ → List (List ℕ)
pieces bytes = filled_parts (slice_split is_tilde bytes)

-- the item of a piece, if it has a head: a number, a kind, and what follows them
unfoldable pub item_of : List ℕ → Option ItemParts
item_of piece = do
  number ← number_at_most 65535 (first_word piece)
  let tail = trim (after_word piece)
  kind ← number_at_most 65535 (first_word tail)
  Some (record { number = number; kind = kind; rest = trim (after_word tail) })

-- the items of a file, or the place of the first piece with no head
unfoldable pub items_of : List ℕ → Result (List ItemParts) ℕ
items_of bytes = each_from item_of 1 (pieces bytes)

-- the numbers of a text, or the place of the first word that isn't one
unfoldable pub numbers_of : List ℕ → Result (List ℕ) ℕ
numbers_of text = each_from (number_at_most 4294967295) 1 (words text)

-- a first word's number, if there is one and no word follows: else the place of the word that is wrong
abbrev pub only_number : Option ℕ → List (List ℕ) → Result ℕ ℕ
only_number None more = Err 1
only_number (Some n) [] = Ok n
only_number (Some n) (word ∷ more) = Err 2

-- the one number of some words: no word is the fault of place 1, and more than one that of place 2
abbrev pub one_number : ℕ → List (List ℕ) → Result ℕ ℕ
one_number most [] = Err 1
one_number most (word ∷ more) = only_number (number_at_most most word) more

-- the one number of a text
unfoldable pub number_of : ℕ → List ℕ → Result ℕ ℕ
number_of most text = one_number most (words text)
