-- A line that is read, byte by byte.
use Rattle.std.specs.Prelude.{◌≡◌, ℕ, Bool, true, false, ◌+◌, ◌++◌, List, [], ◌∷◌, All, take, Option, Some, None, IfSome}
use Rattle.std.specs.Io.KnownBytes.{Consumes, IsAtEnd}
use Rattle.buckfleet_live.specs.Lines.{ended_line, is_feed, last_line, longest_line, lines_of}

-- the next byte of an input was read, or there is none
abbrev pub ReadsByte : Option (List ℕ) → Option (List ℕ) → Option ℕ → Type 0
ReadsByte old new None = Consumes old new [] × IsAtEnd new
ReadsByte old new (Some b) = Consumes old new (b ∷ [])

-- bytes of a line were read, of which one more are held than a line may have, if there are so many
pub record HasRead (old new : Option (List ℕ)) (held : List ℕ) : Type 0 where
  pub bytes : List ℕ
  pub no_feed : All (λ b. is_feed b ≡ false) bytes
  pub taken : Consumes old new bytes
  pub held_is : held ≡ take (longest_line + 1) bytes

-- these are the lines of an input, as far as it is known
abbrev pub HasLines : Option (List ℕ) → List (Option (List ℕ)) → Type 0
HasLines input lines = IfSome input (λ bytes. lines_of bytes ≡ lines)

-- lines of an input were taken: before whatever lines are left
abbrev pub AreTaken : Option (List ℕ) → List (Option (List ℕ)) → Option (List ℕ) → Type 0
AreTaken input lines left = (more : List (Option (List ℕ))) → HasLines left more → HasLines input (lines ++ more)

-- the line that is held, and a line feed ended it, or the input
abbrev pub held_line : Bool → List ℕ → Option (List ℕ)
held_line true held = ended_line held
held_line false held = last_line held

-- the next line was read
abbrev pub IsRead : Option (List ℕ) → Option (List ℕ) → Option (List ℕ) → Bool → Type 0
IsRead old new line true = AreTaken old (line ∷ []) new
IsRead old new line false = HasLines old (line ∷ [])
