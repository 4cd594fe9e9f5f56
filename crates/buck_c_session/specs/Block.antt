-- What a block of a caller's memory owns.
use Rattle.std.specs.Prelude.{ℕ, ◌≡◌, ◌≢◌, Option, Some, None, IsSome}
use base.Fml.{Fml, ftrue}
use denote.RattleType.{RattleType}
use denote.RawPtr.{Ptr}
use Rattle.std.specs.Box.Ownership.{box_owns}
use Rattle.std.specs.Global.{Global}
use Rattle.std.specs.contracts.impls.GlobalAllocator.TheImpl.{ghosts}

-- the heap, which has one handle
abbrev pub heap : Global
heap = record { memory = record { seal = tt } }

-- a value in a block of its own, and the right to free it
abbrev pub boxed_at : (R : RattleType) → Ptr → R.Denot → Fml
boxed_at R p x = box_owns (ghosts.dealloc_token heap) R p x

-- what is owned if a value is there
abbrev pub where_some : {X : Type 0} → (X → Fml) → Option X → Fml
where_some owned None = ftrue
where_some owned (Some x) = owned x

-- what stands in a block that holds a value: no other block is taken for one
abbrev pub mark : ℕ
mark = 7094686100856205163

-- a block is marked exactly if it holds a value
pub record IsMarked {X : Type 0} (stands : ℕ) (held : Option X) : Type 0 where
  pub some : stands ≡ mark → IsSome held
  pub none : stands ≢ mark → held ≡ None
