-- Lines of words and numbers, and items on lines of their own.
use Rattle.std.specs.Prelude.{ℕ, List, ◌++◌, codes}
use Rattle.buck_record.specs.writing.Written.{spelled}

-- words, then each number after a space
abbrev pub line_of : List ℕ → List ℕ → List ℕ
line_of words numbers = words ++ (spelled numbers ++ codes "\n")

-- an item: its head, what it says, a tilde and a line feed
abbrev pub item_text : List ℕ → List ℕ → List ℕ
item_text head says = head ++ (says ++ codes "~\n")
