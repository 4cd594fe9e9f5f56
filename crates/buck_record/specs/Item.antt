-- An item of a file as clauses see it.
use Rattle.std.specs.Prelude.{ℕ, List}

pub record ItemParts : Type 0 where
  pub number : ℕ
  pub kind : ℕ
  pub rest : List ℕ  -- what follows the head, trimmed
