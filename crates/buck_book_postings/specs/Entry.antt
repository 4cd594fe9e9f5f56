-- What stands in a history, as clauses see it: an entry is what was cut of one stem, a demand puts targets in force.
use Rattle.std.specs.Prelude.{ℕ, List}
use Rattle.buck_stem_shape.specs.Stem.{StemParts}
use Rattle.buck_value.specs.declared.log.Log.{Log}

pub record EntryParts : Type 0 where
  pub harvester : ℕ
  pub number : ℕ  -- which of its harvester's postings it is, from 1
  pub stem : StemParts
  pub version : ℕ  -- of the sheet that it was planned under
  pub logs : List Log
  pub worth : ℕ  -- millionths of the price unit

pub record DemandParts : Type 0 where
  pub harvester : ℕ
  pub number : ℕ  -- which of its harvester's postings it is, from 1
  pub version : ℕ  -- of the sheet in force before it
  pub targets : List ℕ  -- the target of each class from here on, towards which all logs count
