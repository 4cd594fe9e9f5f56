-- What each wish costs: a wish is a class whose target isn't the share of logs that the class has unsteered.
use Rattle.std.specs.Prelude.{◌≡◌, ◌≢◌, ◌+◌, ◌-◌, ◌*◌, ◌/◌, ◌%◌, ◌<◌, ◌⊎◌, ℕ, List, [], ◌∷◌, ◌++◌, length, map, max, min, sum, sum_by, slice_get, slice_index, slice_index_or, slice_set, All, Option, Some, None, Result, Ok, Err}
use Rattle.std.specs.List.{AllZip, Contains, flat_map}
use Rattle.std.specs.declared.sync.Arc.{Arc}
use Rattle.std.specs.declared.vec.Vec.{Vec}
use Rattle.std.specs.declared.alloc.Global.{Global}
use Rattle.buck_apt_instruction.specs.Instruction.{AssortmentParts, InstructionParts, classes_of}
use Rattle.buck_apt_instruction.specs.Settings.{SettingsParts, with_settings}
use Rattle.buck_apt_instruction.specs.Wanted.{with_targets}
use Rattle.buck_stem_shape.specs.declared.stem.Stem.{Stem}
use Rattle.buck_book_postings.specs.Counts.{AreClassCounts}
use Rattle.buck_book_postings.specs.Degree.{part_of}
use Rattle.buck_book_postings.specs.History.{HistoryParts}
use Rattle.buck_book_postings.specs.Posting.{opening_targets}
use Rattle.buck_page_figures.specs.Figures.{at_base_in}
use Rattle.buck_rule.specs.declared.named.NamedRule.{NamedRule}
use Rattle.buck_rule.specs.declared.named.NamedRule.TheVariants.{Steady}
use Rattle.buckfleet_trial_sweep.specs.Runs.{HasCut}
use Rattle.buck_page_text.specs.Words.{half_up}
use Rattle.buckfleet_terms_files.specs.declared.fault.TermsFault.{TermsFault}
use Rattle.buckfleet_trial_draws.specs.declared.orders.Draws.{Draws}
use Rattle.buckfleet_trial_sweep.specs.Table.{IsLeast}
use Rattle.buckfleet_trial_wishes.specs.declared.outcome.Outcome.{Outcome}
use Rattle.buckfleet_trial_wishes.specs.declared.outcome.Runs.{Runs}
use Rattle.buckfleet_trial_wishes.specs.declared.wish.Told.{Told}
use Rattle.buckfleet_trial_wishes.specs.declared.wish.Wish.{Wish}
use Rattle.buckfleet_trial.specs.Inputs.{IsInputFault, SaysInput}
use Rattle.buckfleet_trial.specs.Light.{AreDegrees, AreOrdered}
use Rattle.buckfleet_trial.specs.Trial.{starts_of}
use Rattle.buckfleet_trial_wishes.specs.WishLine.{IsWishLine, whole_line, wishes_head}

-- the most that a target may be, and all targets of an assortment together
abbrev pub most_target : ℕ
most_target = 1000000

abbrev pub most_targets : ℕ
most_targets = 1000000000

-- what is wanted of the classes of an assortment and what they have unsteered: something of both, and of a class not in
-- the same share
abbrev pub IsWish : List ℕ → List ℕ → ℕ → Type 0
IsWish targets unsteered class =
    (0 < sum targets) × (0 < sum unsteered)
    × (slice_index targets class * sum unsteered ≢ slice_index unsteered class * sum targets)

-- the share that a class has unsteered, in the units of the targets, rounded up
abbrev pub far : List ℕ → List ℕ → ℕ → ℕ
far targets unsteered class =
    slice_index unsteered class * sum targets / sum unsteered
    + min 1 (slice_index unsteered class * sum targets % sum unsteered)

abbrev pub greatest : List ℕ → ℕ
greatest [] = 0
greatest (t ∷ more) = max t (greatest more)

-- by how much all targets are multiplied before one is moved
abbrev pub factor : List ℕ → List ℕ → ℕ → ℕ
factor targets unsteered class =
    max (min (most_target / max (greatest targets) (far targets unsteered class))
    (most_targets / (sum targets + far targets unsteered class))) 1

-- the target of a class, moved half way to the share that it has unsteered, within what it may be
abbrev pub moved_target : List ℕ → List ℕ → ℕ → ℕ
moved_target targets unsteered class =
    min (min (half_up
    (factor targets unsteered class
    * (slice_index targets class * sum unsteered + slice_index unsteered class * sum targets)) (2 * sum unsteered))
    most_target)
    (most_targets - factor targets unsteered class * (sum targets - slice_index targets class))

-- the targets of an assortment with that of a class moved
abbrev pub moved_part : List ℕ → List ℕ → ℕ → List ℕ
moved_part targets unsteered class =
    slice_set (map (λ t. factor targets unsteered class * t) targets) class (moved_target targets unsteered class)

-- the targets of all classes with that of a class of the assortment at a place moved
pub record IsMoved (i : InstructionParts) (targets unsteered : List ℕ) (at class : ℕ) (moved : List ℕ) : Type 0 where
  pub one_each : length moved ≡ length targets
  pub here : (a : AssortmentParts) → slice_get i.assortments at ≡ Some a
      → part_of i a at moved ≡ moved_part (part_of i a at targets) (part_of i a at unsteered) class
  pub elsewhere : (k : ℕ) (a : AssortmentParts) → k ≢ at → slice_get i.assortments k ≡ Some a
      → part_of i a k moved ≡ part_of i a k targets

-- what a run of an instruction by a rule in an order came to: what was cut is worth at base prices, the degree of each
-- assortment by these targets, and the least of these
pub record IsRunOf (rule : NamedRule) (i : InstructionParts) (lists : List (Vec (Arc Stem Global) Global))
    (targets : List ℕ) (order : Option ℕ) (run : Outcome) : Type 0 where
  pub ordered : List (Vec (Arc Stem Global) Global)
  pub history : HistoryParts
  pub counts : List ℕ
  pub are_ordered : AreOrdered order lists ordered
  pub instruction : history.instruction ≡ i
  pub has_cut : HasCut rule ordered history
  pub at_base_is : run.at_base ≡ sum_by (at_base_in i) history.postings
  pub are_counts : AreClassCounts i history.postings counts
  pub are_degrees : AreDegrees i targets counts run.degrees.items
  pub is_least : IsLeast run.degrees.items run.least

-- the runs of an instruction: in the files' own order, and in that of the draw that begins at each state
pub record AreRunsOf (rule : NamedRule) (i : InstructionParts) (lists : List (Vec (Arc Stem Global) Global))
    (targets starts : List ℕ) (runs : Runs) : Type 0 where
  pub own : IsRunOf rule i lists targets None runs.own
  pub drawn : AllZip (λ start run. IsRunOf rule i lists targets (Some start) run) starts runs.drawn.items

-- how many logs the best cuttings have of each class: those of a run by steady prices
pub record AreUnsteered (i : InstructionParts) (lists : List (Vec (Arc Stem Global) Global)) (unsteered : List ℕ)
    : Type 0 where
  pub history : HistoryParts
  pub instruction : history.instruction ≡ i
  pub has_cut : HasCut Steady lists history
  pub are_counts : AreClassCounts i history.postings unsteered

-- the class at a place of the assortment at a place is a wish, by the targets and the logs of all classes
pub record IsWishIn (i : InstructionParts) (targets unsteered : List ℕ) (at class : ℕ) : Type 0 where
  pub assortment : AssortmentParts
  pub exists : slice_get i.assortments at ≡ Some assortment
  pub within : class < classes_of assortment
  pub is_wish : IsWish (part_of i assortment at targets) (part_of i assortment at unsteered) class

-- by the instruction's own targets
abbrev pub IsWishAt : InstructionParts → List ℕ → ℕ → ℕ → Type 0
IsWishAt i unsteered at class = IsWishIn i (opening_targets i) unsteered at class

-- what the runs of a wish are put in order by: what was cut in the draws, or, if there are none, in the files' order.
-- The runs with all wishes are the same for each, so that what cuts more gains more
abbrev pub worth_in : Outcome → List Outcome → ℕ
worth_in own [] = own.at_base
worth_in own (run ∷ more) = sum_by (λ r. r.at_base) (run ∷ more)

-- what is known of a wish: its runs, with its target moved, beside those with all wishes
pub record IsTold (rule : NamedRule) (i : InstructionParts) (lists : List (Vec (Arc Stem Global) Global))
    (starts unsteered : List ℕ) (whole : Runs) (told : Told) : Type 0 where
  pub is_wish : IsWishAt i unsteered told.wish.assortment told.wish.class
  pub moved : List ℕ
  pub is_moved : IsMoved i (opening_targets i) unsteered told.wish.assortment told.wish.class moved
  pub runs : Runs
  pub are_runs : AreRunsOf rule (with_targets moved i) lists (opening_targets i) starts runs
  pub worth_is : told.worth ≡ worth_in runs.own runs.drawn.items
  pub is_line : IsWishLine i unsteered moved whole runs told.wish told.line.items

-- the lower class first: an assortment has at most 1024
abbrev pub place_of : Wish → ℕ
place_of wish = wish.assortment * 1024 + wish.class

-- what gains more comes first, and of equals the lower class
abbrev pub IsBefore : Told → Told → Type 0
IsBefore one next = (next.worth < one.worth) ⊎ ((next.worth ≡ one.worth) × (place_of one.wish < place_of next.wish))

-- the table of wishes over an instruction and stems, with the draws that begin at these states: the names of the
-- columns, the line of the runs with all wishes, and one for each wish
pub record AreWishes (rule : NamedRule) (i : InstructionParts) (lists : List (Vec (Arc Stem Global) Global))
    (starts text : List ℕ) : Type 0 where
  pub unsteered : List ℕ
  pub are_unsteered : AreUnsteered i lists unsteered
  pub whole : Runs
  pub are_whole : AreRunsOf rule i lists (opening_targets i) starts whole
  pub told : List Told
  pub each : All (IsTold rule i lists starts unsteered whole) told
  pub all : (at class : ℕ) → IsWishAt i unsteered at class
      → Contains (map (λ t. t.wish) told) (record { assortment = at; class = class })
  pub in_order : (k : ℕ) (d : Told) → k + 1 < length told
      → IsBefore (slice_index_or told k d) (slice_index_or told (k + 1) d)
  pub text_is : text ≡ wishes_head starts ++ (whole_line starts whole.own ++ flat_map (λ t. t.line.items) told)

-- over the files of a trial
pub record IsWishesTable (rule : NamedRule) (settings : SettingsParts) (draws : Option Draws) (apt : Option (List ℕ))
    (stms : List (Option (List ℕ))) (targets : Option (Option (List ℕ) × ℕ)) (text : List ℕ) : Type 0 where
  pub own : InstructionParts
  pub lists : List (Vec (Arc Stem Global) Global)
  pub says : SaysInput apt stms targets own lists
  pub are_wishes : AreWishes rule (with_settings settings own) lists (starts_of draws lists) text

-- the table, or why there is none
abbrev pub AnswersWishes : NamedRule → SettingsParts → Option Draws → Option (List ℕ) → List (Option (List ℕ))
    → Option (Option (List ℕ) × ℕ) → Result (List ℕ) TermsFault → Type 0
AnswersWishes rule settings draws apt stms targets (Ok text) = IsWishesTable rule settings draws apt stms targets text
AnswersWishes rule settings draws apt stms targets (Err fault) = IsInputFault apt stms targets fault
