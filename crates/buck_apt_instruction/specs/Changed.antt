-- Copies of an assortment and of an instruction that differ in their lists alone.
use Rattle.std.specs.Prelude.{ℕ, List, [], ◌∷◌, take, drop}
use Rattle.buck_apt_instruction.specs.Instruction.{AssortmentParts, InstructionParts, classes_of}

-- the assortment with these grades, base prices and targets in the place of its own
abbrev pub with_lists : List ℕ → List ℕ → List ℕ → AssortmentParts → AssortmentParts
with_lists grades prices targets a = record {
  name = a.name;
  species = a.species;
  grades = grades;
  price_kind = a.price_kind;
  diameters = a.diameters;
  upper = a.upper;
  lengths = a.lengths;
  prices = prices;
  targets = targets;
  trim = a.trim;
}

-- the instruction with these assortments in the place of its own
abbrev pub with_assortments : InstructionParts → List AssortmentParts → InstructionParts
with_assortments i assortments = record {
  «module» = i.«module»;
  period = i.period;
  limit = i.limit;
  assortments = assortments;
}

-- assortments, each changed by as many of the numbers as it has classes: the first by the first ones
abbrev pub each_with : (List ℕ → AssortmentParts → AssortmentParts) → List ℕ → List AssortmentParts
    → List AssortmentParts
each_with change numbers [] = []
each_with change numbers (a ∷ more) =
    change (take (classes_of a) numbers) a ∷ each_with change (drop (classes_of a) numbers) more
