-- The run of a draw, and the runs that are planned.
use Rattle.std.proofs.Common.{◌≡◌, ◌∙◌, ℕ, List, length, Option, ap, subst, sym}
use Rattle.std.specs.Prelude.{sum_by}
use Rattle.std.specs.declared.sync.Arc.{Arc}
use Rattle.std.specs.declared.vec.Vec.{Vec}
use Rattle.std.specs.declared.alloc.Global.{Global}
use Rattle.buck_apt_instruction.specs.Instruction.{InstructionParts}
use Rattle.buck_apt_instruction.specs.Settings.{with_settings}
use Rattle.buck_stem_shape.specs.declared.stem.Stem.{Stem}
use Rattle.buck_book_postings.specs.Counts.{AreClassCounts}
use Rattle.buck_book_postings.specs.Degree.{IsDegreeBy}
use Rattle.buck_book_postings.specs.History.{HistoryParts}
use Rattle.buck_book_postings.specs.Posting.{targets_of}
use Rattle.buck_page_figures.specs.Figures.{at_base_in}
use Rattle.buckfleet_tasks.specs.declared.combination.Combination.{Combination}
use Rattle.buckfleet_trial_sweep.specs.Runs.{HasCut}
use Rattle.buckfleet_trial_sweep.specs.Table.{IsLeast}
use Rattle.buckfleet_trial.specs.declared.trial.Drawn.{Drawn}
use Rattle.buckfleet_trial.specs.Light.{AreDegrees, AreDrawn}
use Rattle.buckfleet_trial.specs.Trial.{IsDrawn}
use Rattle.std.specs.List.{AllZip}
use Rattle.buckfleet_trial.specs.declared.trial.Planned.{Planned}
use Rattle.buckfleet_trial.specs.Lines.{AreDrawnFor, all_draws}
use Rattle.buckfleet_trial.specs.inner.Lines.{AreRun, runs_of}
use Rattle.buckfleet_trial.proofs.Each.{zip_made}

pub drawn_is : (i own : InstructionParts) (lists order : List (Vec (Arc Stem Global) Global)) (c : Combination)
    (start : ℕ) (d : Drawn) (h : HistoryParts) (targets counts : List ℕ) (degrees : List (Option ℕ))
    → AreDrawn start lists order → h.instruction ≡ own → own ≡ with_settings c.settings i → HasCut c.rule order h
    → targets ≡ targets_of h.instruction h.postings → AreClassCounts h.instruction h.postings counts
    → AreDegrees own targets counts degrees → d.at_base ≡ sum_by (at_base_in h.instruction) h.postings
    → IsLeast degrees d.least → IsDrawn i lists c start d
drawn_is i own lists order c start d h targets counts degrees drawn same is cut wanted count are worth least = record {
  order = order;
  history = h;
  are_drawn = drawn;
  instruction = same ∙ is;
  has_cut = cut;
  at_base = worth;
  degrees = degrees;
  one_each = are.one_each ∙ ap (λ (x : InstructionParts). length x.assortments) is;
  are_degrees = λ at degree there. record {
    counts = counts;
    are_counts = count;
    degree_is =
        subst (λ (ts : List ℕ). IsDegreeBy h.instruction ts counts at degree) wanted
        (subst (λ (x : InstructionParts). IsDegreeBy x targets counts at degree) (sym same)
        (are.each at degree there));
  };
  is_least = least;
}

-- what all draws of each combination came to
pub all_drawn : (i : InstructionParts) (lists : List (Vec (Arc Stem Global) Global)) (cs : List Combination)
    (starts : List ℕ) (planned p_slice : List Planned) (drawn d_slice : List Drawn) → p_slice ≡ planned
    → d_slice ≡ drawn → runs_of planned ≡ all_draws cs starts → AreRun i lists p_slice drawn
    → AreDrawnFor i lists cs starts d_slice
all_drawn i lists cs starts planned p_slice drawn d_slice p_is d_is plan run =
    let R = λ (p : Combination × ℕ) (d : Drawn). IsDrawn i lists p.0 p.1 d in
    let of : Planned → Combination × ℕ = λ p. (p.combination.now, p.start) in
    let made : AllZip R (runs_of planned) drawn =
    zip_made R of planned drawn (subst (λ (l : List Planned). AreRun i lists l drawn) p_is run) in
    subst (λ (l : List Drawn). AreDrawnFor i lists cs starts l) (sym d_is)
    (subst (λ (l : List (Combination × ℕ)). AllZip R l drawn) plan made)
