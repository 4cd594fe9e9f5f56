-- What an instruction is made of: lists of numbers, and whether they are ready to be one.
use Rattle.std.specs.Prelude.{◌≡◌, length, All, map, slice_index}
use Rattle.buck_apt_instruction.specs.Instruction.{AssortmentParts, InstructionParts, IsAssortment, IsInstruction}
use Rattle.buck_apt_instruction.specs.declared.draft.Draft.{Draft}
use Rattle.buck_apt_instruction.specs.declared.draft.FileDraft.{FileDraft}

-- the assortment that the numbers say
abbrev pub assortment_of : Draft → AssortmentParts
assortment_of d = record {
  name = d.name;
  species = slice_index d.species 0;
  grades = d.grades;
  price_kind = slice_index d.price_kind 0;
  diameters = d.diameters;
  upper = slice_index d.upper 0;
  lengths = d.lengths;
  prices = d.prices;
  targets = d.targets;
  trim = slice_index d.trim 0;
}

-- the instruction that the numbers say
abbrev pub instruction_of : FileDraft → InstructionParts
instruction_of file = record {
  «module» = slice_index file.«module» 0;
  period = slice_index file.period 0;
  limit = slice_index file.limit 0;
  assortments = map assortment_of file.drafts;
}

-- one number if there is to be one, and all within the limits
pub record IsReadyDraft (d : Draft) : Type 0 where
  pub species : length d.species ≡ 1
  pub price_kind : length d.price_kind ≡ 1
  pub upper : length d.upper ≡ 1
  pub trim : length d.trim ≡ 1
  pub valid : IsAssortment (assortment_of d)

pub record IsReadyFile (s : FileDraft) : Type 0 where
  pub «module» : length s.«module» ≡ 1
  pub period : length s.period ≡ 1
  pub limit : length s.limit ≡ 1
  pub drafts : All IsReadyDraft s.drafts
  pub valid : IsInstruction (instruction_of s)
