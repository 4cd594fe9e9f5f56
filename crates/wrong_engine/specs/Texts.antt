-- The texts that wrong bodies would print of a bucking.
use Rattle.std.specs.Prelude.{ℕ, ◌/◌, List, [], ◌∷◌, ◌++◌, length, take, drop, codes}
use Rattle.std.specs.List.{flat_map}
use Rattle.buck_stem_shape.specs.Stem.{StemParts, diameter_at}
use Rattle.buck_value.specs.declared.log.Log.{Log}
use Rattle.buck_value.specs.Sheet.{SheetParts}
use Rattle.buck_value.specs.Allowed.{class_of, worth_of}
use Rattle.buck_dp.specs.Best.{cutting_worth}
use Rattle.buckfleet_engine_text.specs.Bucking.{CutStem, log_line, logs_of, name_of, named_line_of, stem_line, total_line, worth_of_all}

-- a LOG line with the diameter where the log begins in the place of the one where it ends
abbrev pub butt_line : SheetParts → StemParts → Log → List ℕ
butt_line sheet stem g =
    named_line_of
    (codes "LOG")
    (g.start ∷ g.length ∷ diameter_at stem.samples g.start
    ∷ (class_of sheet.instruction stem g).row ∷ (class_of sheet.instruction stem g).column
    ∷ worth_of sheet stem g ∷ [])
    (name_of sheet.instruction g)

-- the line of a stem, and lines of its logs
abbrev pub lines_with : SheetParts → CutStem → List ℕ → List ℕ
lines_with sheet cut logs = stem_line cut.stem (length cut.logs) (cutting_worth sheet cut.stem cut.logs) ++ logs

-- the lines of a stem with such LOG lines
abbrev pub butt_lines : SheetParts → CutStem → List ℕ
butt_lines sheet cut = lines_with sheet cut (flat_map (butt_line sheet cut.stem) cut.logs)

-- the lines of a stem without those of the second half of its logs
abbrev pub half_lines : SheetParts → CutStem → List ℕ
half_lines sheet cut =
    lines_with sheet cut (flat_map (log_line sheet cut.stem) (take (length cut.logs / 2) cut.logs))

-- such lines of all stems, and the total
abbrev pub text_with : (CutStem → List ℕ) → SheetParts → List CutStem → List ℕ
text_with lines sheet cuts = flat_map lines cuts ++ total_line (length cuts) (logs_of cuts) (worth_of_all sheet cuts)

-- the worth of the last stem
abbrev pub last_worth : SheetParts → List CutStem → ℕ
last_worth sheet [] = 0
last_worth sheet (cut ∷ []) = cutting_worth sheet cut.stem cut.logs
last_worth sheet (cut ∷ next ∷ more) = last_worth sheet (next ∷ more)

-- the total with it alone
abbrev pub last_total : SheetParts → List CutStem → List ℕ
last_total sheet cuts = total_line (length cuts) (logs_of cuts) (last_worth sheet cuts)

-- the first half of the stems
abbrev pub first_half : List CutStem → List CutStem
first_half cuts = take (length cuts / 2) cuts

-- the second half before the first
abbrev pub halves_swapped : List CutStem → List CutStem
halves_swapped cuts = drop (length cuts / 2) cuts ++ first_half cuts
