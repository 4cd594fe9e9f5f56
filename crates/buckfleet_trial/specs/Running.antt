-- How a run over what files say ends.
use Rattle.std.specs.Prelude.{List, ℕ, Result, Ok, Err}
use Rattle.std.specs.declared.sync.Arc.{Arc}
use Rattle.std.specs.declared.vec.Vec.{Vec}
use Rattle.std.specs.declared.alloc.Global.{Global}
use Rattle.buck_stem_shape.specs.declared.stem.Stem.{Stem}
use Rattle.buckfleet_engine_files.specs.declared.fault.EngineFault.{EngineFault}
use Rattle.buckfleet_trial_sweep.specs.Runs.{IsStop}
use Rattle.buckfleet_terms_files.specs.declared.fault.TermsFault.{TermsFault}
use Rattle.buckfleet_terms_files.specs.declared.fault.TermsFault.TheVariants.{Run}

-- a fault of a run, as one of a run over such files
abbrev pub in_terms : {X : Type 0} → Result X EngineFault → Result X TermsFault
in_terms (Ok x) = Ok x
in_terms (Err fault) = Err (Run fault)

-- a text over lists, or why they aren't cut
abbrev pub AnswersOver : List (Vec (Arc Stem Global) Global) → (List ℕ → Type 0) → Result (List ℕ) EngineFault → Type 0
AnswersOver lists IsText (Ok text) = IsText text
AnswersOver lists IsText (Err fault) = IsStop lists fault
