-- The world: a history, the front, and what each harvester is at.
use Rattle.std.specs.Prelude.{◌≡◌, ℕ, ◌-◌, ◌≤◌, List, [], ◌∷◌, length, slice_index_or, slice_set, replicate, Option}
use Rattle.buck_apt_instruction.specs.Instruction.{InstructionParts}
use Rattle.buck_value.specs.Sheet.{SheetParts, base_prices}
use Rattle.buck_book_postings.specs.declared.posting.Posting.{Posting}
use Rattle.buck_book_postings.specs.History.{HistoryParts, version_of, history_with}
use Rattle.buck_fleet_world.specs.declared.stage.Stage.TheVariants.{Idle, Answered}
use Rattle.buck_fleet_world.specs.declared.harvester.Harvester.{Harvester}

pub record WorldParts : Type 0 where
  pub history : HistoryParts
  pub front : ℕ  -- the newest version that is shown
  pub harvesters : List Harvester  -- from 1 on

-- what each harvester is at in the beginning
abbrev pub newcomer : Harvester
newcomer = record { stage = Idle; seen = 0; stale = 0 }

-- the opening: no posting, the base sheet, and so many newcomers
abbrev pub opening : InstructionParts → ℕ → WorldParts
opening i harvesters = record {
  history = record { instruction = i; sheets = base_prices i ∷ []; postings = [] };
  front = 0;
  harvesters = replicate harvesters newcomer;
}

abbrev pub IsHarvester : WorldParts → ℕ → Type 0
IsHarvester w h = (1 ≤ h) × (h ≤ length w.harvesters)

-- what harvester h is at
abbrev pub at : WorldParts → ℕ → Harvester
at w h = slice_index_or w.harvesters (h - 1) newcomer

abbrev pub IsAnswered : WorldParts → ℕ → Type 0
IsAnswered w h = (at w h).stage ≡ Answered

abbrev pub NobodyAnswered : WorldParts → Type 0
NobodyAnswered w = (h : ℕ) → IsHarvester w h → IsAnswered w h → ⊥

-- the world in which harvester h alone is at something else
abbrev pub with_harvester : WorldParts → ℕ → Harvester → WorldParts
with_harvester w h x = record w { harvesters = slice_set w.harvesters (h - 1) x }

-- the world in which h's posting was added, with the next sheet if there is one, and the front not yet raised
abbrev pub with_posting : WorldParts → ℕ → Posting → Option SheetParts → WorldParts
with_posting w h x next = record w {
  history = history_with w.history x next;
  harvesters = slice_set w.harvesters (h - 1) (record (at w h) { stage = Answered });
}

-- the world in which h raised the front to the version in force
abbrev pub with_front : WorldParts → ℕ → WorldParts
with_front w h = record w {
  front = version_of w.history;
  harvesters = slice_set w.harvesters (h - 1) (record { stage = Idle; seen = version_of w.history; stale = 0 });
}
