-- The lines of the input.
use Rattle.std.specs.Prelude.{ℕ, Bool, true, ◌&&◌, ◌==◌, List, [], ◌∷◌, length, reverse, find, not, nat_le, Option, Some, None, if◌then◌else◌}
use Rattle.std.specs.List.{slice_split}
use Rattle.buck_record.specs.bytes.White.{is_white}

-- the most bytes that a line may have before its line feed
abbrev pub longest_line : ℕ
longest_line = 1048576

abbrev pub is_feed : ℕ → Bool
is_feed b = b == 10

-- a line that a line feed ended, by its bytes before that; none if it is too long
abbrev pub ended_line : List ℕ → Option (List ℕ)
ended_line bytes = if nat_le (length bytes) longest_line then Some bytes else None

abbrev pub is_end_of_item : Option ℕ → Bool
is_end_of_item None = true
is_end_of_item (Some b) = b == 126

-- the last byte that isn't white
abbrev pub last_byte : List ℕ → Option ℕ
last_byte bytes = find (λ b. not (is_white b)) (reverse bytes)

-- whitespace aside, some bytes end with a tilde, or there are none
abbrev pub is_finished : List ℕ → Bool
is_finished bytes = is_end_of_item (last_byte bytes)

-- the bytes after the last line feed are a line if they aren't too long and whoever wrote them came to an end
abbrev pub last_line : List ℕ → Option (List ℕ)
last_line bytes = if nat_le (length bytes) longest_line && is_finished bytes then Some bytes else None

abbrev pub lines_in : List (List ℕ) → List (Option (List ℕ))
lines_in [] = []
lines_in (bytes ∷ []) = last_line bytes ∷ []
lines_in (bytes ∷ next ∷ more) = ended_line bytes ∷ lines_in (next ∷ more)

-- the lines of an input, none in the place of one that is too long or cut off
abbrev pub lines_of : List ℕ → List (Option (List ℕ))
lines_of input = lines_in (slice_split is_feed input)
