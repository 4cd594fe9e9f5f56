-- What an owner pays for runs, and the lines that say it.
use Rattle.std.proofs.Common.{◌≡◌, ℕ, ◌+◌, ◌<◌, ◌≤◌, List, [], ◌∷◌, ◌++◌, length, take, drop, get_or, Option, Result, Ok, Err, refl, sym, ap, subst, ◌∙◌, arith, append_assoc, append-nil}
use Rattle.std.specs.Prelude.{◌==◌, Bool, codes, not, false}
use Rattle.std.specs.List.{AllZip}
use Rattle.std.specs.Result.{OnOk}
use Rattle.std.specs.declared.sync.Arc.{Arc}
use Rattle.std.specs.declared.vec.Vec.{Vec}
use Rattle.std.specs.declared.alloc.Global.{Global}
use Rattle.std.proofs.lemmas.Bool.Decides.{nat_tests}
use Rattle.std.proofs.lemmas.List.{drop_more, length-map, take_all}
use Rattle.buck_apt_instruction.specs.Instruction.{InstructionParts}
use Rattle.buck_apt_instruction.specs.Settings.{with_settings}
use Rattle.buck_stem_shape.specs.declared.stem.Stem.{Stem}
use Rattle.buck_book_postings.specs.History.{HistoryParts}
use Rattle.buck_page_cells.specs.declared.change.Change.{Change}
use Rattle.buck_page_cells.specs.declared.spread.Spread.{Spread}
use Rattle.buck_page_cells.specs.Cells.{spread_cells}
use Rattle.buck_page_cells.specs.Spread.{IsSpread}
use Rattle.buck_page_figures.specs.Journals.{postings_of}
use Rattle.buck_book_journal.specs.Journal.{JournalParts, history_of}
use Rattle.buckfleet_tasks.specs.declared.combination.Combination.{Combination}
use Rattle.buckfleet_trial_sweep.specs.Runs.{IsRunLine}
use Rattle.buckfleet_trial_sweep.specs.Sweep.{AreLines}
use Rattle.buckfleet_trial_sweep.specs.Table.{head_line}
use Rattle.buckfleet_trial_sweep.proofs.Tables.{lines_both}
use Rattle.buckfleet_trial_owned.specs.declared.outcome.OwnRun.{OwnRun}
use Rattle.buckfleet_trial.specs.declared.trial.Drawn.{Drawn}
use Rattle.buckfleet_trial_owned.specs.Owned.{AreLosses, IsOwnRun, IsOwnTail, IsOwnedLine, IsOwnedOver, losses_in, own_head}
use Rattle.buckfleet_trial.specs.Trial.{IsBestFor, IsDrawn, IsFromNothing, drawn_head}
use Rattle.buckfleet_trial.specs.Light.{HasCutOf}
use Rattle.buckfleet_trial.specs.Lines.{AreDrawnFor, AreLinesFor, IsPut, all_draws, columns_of, draws_of}
use Rattle.buckfleet_trial_owned.specs.inner.Owned.{AreTails, IsFirstLine, IsPaidFor, IsPutOwned, own_columns}
use Rattle.buckfleet_trial.proofs.Each.{zip_drop, zip_length, zip_of_made, zip_split}
use Rattle.buckfleet_trial.proofs.Lined.{at_place, columns_are, line_ends}

-- one journal has its own postings
one_journal : (j : JournalParts) → postings_of (j ∷ []) ≡ j.entries
one_journal j = refl

pub one_is : (h : HistoryParts) (j : JournalParts) (js : List JournalParts) → js ≡ j ∷ []
    → history_of h.instruction j ≡ h → postings_of js ≡ h.postings
one_is h j js one is =
    ap (λ (l : List JournalParts). postings_of l) one ∙ one_journal j ∙ ap (λ (x : HistoryParts). x.postings) is

-- what a run brings
pub own_run_is : (own i run : InstructionParts) (lists : List (Vec (Arc Stem Global) Global)) (c : Combination)
    (order : Option ℕ) (o : OwnRun) (h : HistoryParts) → run ≡ with_settings c.settings i
    → HasCutOf c.rule run lists order h → IsPaidFor own h.postings o → IsOwnRun own i lists c order o
own_run_is own i run lists c order o h is cut paid = record {
  ordered = cut.ordered;
  history = h;
  appraisal = paid.appraisal;
  are_ordered = cut.are_ordered;
  instruction = cut.instruction ∙ is;
  has_cut = cut.has_cut;
  is_appraisal = paid.is_appraisal;
  worth = paid.worth;
  best = paid.best;
  unbought = paid.unbought;
}

-- the losses of draws were put
pub put_some : {E : Type 0} (drawn : List OwnRun) (ls slice : List (Option Change)) (s : Option Spread)
    (old new : List ℕ) (r : Result (Unit {0}) E) → 0 < length drawn → AllZip IsFromNothing (losses_in drawn) ls
    → slice ≡ ls → IsSpread slice s → OnOk r (new ≡ old ++ spread_cells s)
    → OnOk r ((x : List ℕ) × AreLosses drawn x × (new ≡ old ++ x))
put_some drawn ls slice s old new (Err e) some losses same is put = tt
put_some [] ls slice s old new (Ok u) some losses same is put = absurd (omega (arith, some))
put_some (o ∷ more) ls slice s old new (Ok u) some losses same is put = (
  spread_cells s,
  record {
    changes = ls;
    from_nothing = losses;
    spread = s;
    is_spread = subst (λ (l : List (Option Change)). IsSpread l s) same is;
    text_is = refl;
  },
  put,
)

-- what belongs to an element at a place
zip_at : {A B : Type 0} (R : A → B → Type 0) (xs : List A) (ys : List B) (k : ℕ) (y : B) (lt : k < length xs)
    → AllZip R xs ys → y ≡ get_or ys k y → R (at_place xs k lt).one y
zip_at {A} {B} R xs ys k y lt all is =
    let at = at_place xs k lt in
    let long = zip_length R xs ys all in
    let here : drop k ys ≡ y ∷ drop (k + 1) ys =
    drop_more ys k y (omega (arith, lt, long)) ∙ ap (λ l. l ∷ drop (k + 1) ys) (sym is) in
    let both : AllZip R (at.one ∷ drop (k + 1) xs) (y ∷ drop (k + 1) ys) =
    subst (λ (l : List B). AllZip R (at.one ∷ drop (k + 1) xs) l) here
    (subst (λ (l : List A). AllZip R l (drop k ys)) at.back (zip_drop R k xs ys all)) in
    both.0

module _ (own i : InstructionParts) (lists : List (Vec (Arc Stem Global) Global)) (cs : List Combination)
    (starts : List ℕ) (best : ℕ) where
  -- behind some first text stand the lines of the first combinations
  pub record AreOwnedPut (first : List ℕ) (k : ℕ) (text : List ℕ) : Type 0 where
    pub lines : List ℕ
    pub text_is : text ≡ first ++ lines
    pub are_lines : AreLines (IsOwnedLine own i lists starts best) (take k cs) lines

  -- the draws of the combination at a place
  its_draws : (k : ℕ) (rest : List Drawn) (lt : k < length cs) → AreDrawnFor i lists (drop k cs) starts rest
      → AllZip (IsDrawn i lists (at_place cs k lt).one) starts (take (length starts) rest)
  its_draws k rest lt drawn =
      let at = at_place cs k lt in
      let split = zip_split (λ p d. IsDrawn i lists p.0 p.1 d) (draws_of at.one starts)
      (all_draws (drop (k + 1) cs) starts) rest
      (subst (λ (l : List Combination). AreDrawnFor i lists l starts rest) at.back drawn) in
      zip_of_made (λ p d. IsDrawn i lists p.0 p.1 d) (λ s. (at.one, s)) starts (take (length starts) rest)
      (subst (λ (n : ℕ). AllZip (λ p d. IsDrawn i lists p.0 p.1 d) (draws_of at.one starts) (take n rest))
      (length-map starts (λ s. (at.one, s))) split.0)

  -- the line of a combination more
  pub owned_more : (k : ℕ) (lines tails : List (Vec ℕ Global)) (rest : List Drawn) (line tail : Vec ℕ Global)
      (first old new : List ℕ) → k < length cs → AreLinesFor i lists cs lines → line ≡ get_or lines k line
      → AreTails own i lists starts cs tails → tail ≡ get_or tails k tail
      → AreDrawnFor i lists (drop k cs) starts rest → AreOwnedPut first k old
      → IsPutOwned best line.items (take (length starts) rest) tail.items old new → AreOwnedPut first (k + 1) new
  owned_more k lines tails rest line tail first old new lt all is ends_all tail_is drawn put next =
      let at = at_place cs k lt in
      let run = zip_at (λ c l. IsRunLine i lists c l.items) cs lines k line lt all is in
      let last = zip_at (λ c t. IsOwnTail own i lists starts c t.items) cs tails k tail lt ends_all tail_is in
      let ends = line_ends at.one.rule run.history line.items run.is_line in
      let put_ = next ends.0 ends.1 in
      let front = ends.0 ++ put_.0 in
      let text = front ++ (tail.items ++ codes "\n") in
      let one : IsOwnedLine own i lists starts best at.one text = record {
        front = front;
        tail = tail.items;
        is_trial_line = record {
          own = ends.0;
          drawn = take (length starts) rest;
          spreads = put_.0;
          is_run_line = subst (λ (l : List ℕ). IsRunLine i lists at.one l) ends.1 run;
          are_drawn = its_draws k rest lt drawn;
          are_spreads = put_.1;
          line_is = append_assoc ends.0 put_.0 (codes "\n");
        };
        is_tail = last;
        line_is = refl;
      } in
      record {
        lines = put.lines ++ text;
        text_is = put_.2 ∙ ap (λ (l : List ℕ). l ++ text) put.text_is ∙ append_assoc first put.lines text;
        are_lines =
            subst (λ (l : List Combination). AreLines (IsOwnedLine own i lists starts best) l (put.lines ++ text))
            (sym at.front)
            (lines_both (IsOwnedLine own i lists starts best) (take k cs) (at.one ∷ []) put.lines text put.are_lines
            (text, [], sym (append-nil text), one, refl));
      }

  -- the whole table
  pub owned_whole : (k : ℕ) (head first columns last text : List ℕ) → length cs ≤ k → head_line i ≡ head ++ codes "\n"
      → first ≡ (head ++ columns) ++ (last ++ codes "\n") → columns ≡ drawn_head starts → last ≡ own_head starts
      → IsBestFor i lists starts best → AreOwnedPut first k text → IsOwnedOver own i lists cs starts text
  owned_whole k head first columns last text le head_is first_is columns_are last_is best_is put = record {
    head = head;
    head_is = head_is;
    best = best;
    is_best = best_is;
    lines = put.lines;
    are_lines =
        subst (λ (l : List Combination). AreLines (IsOwnedLine own i lists starts best) l put.lines) (take_all k cs le)
        put.are_lines;
    text_is = put.text_is
        ∙ ap (λ (l : List ℕ). l ++ put.lines)
        (first_is ∙ ap (λ (c : List ℕ). (head ++ c) ++ (last ++ codes "\n")) columns_are
        ∙ ap (λ (c : List ℕ). (head ++ drawn_head starts) ++ (c ++ codes "\n")) last_is)
        ∙ simp append_assoc;
  }

-- the last columns
pub last_are : (starts : List ℕ) (none : Bool) → none ≡ (length starts == 0) → own_columns (not none) ≡ own_head starts
last_are [] none is = ap (λ b. own_columns (not b)) is
last_are (s ∷ more) none is =
    let some : (length (s ∷ more) == 0) ≡ false = grind (arith, nat_tests) in
    ap (λ b. own_columns (not b)) (is ∙ some)

-- a line was put with something behind it
pub behind_put : {E : Type 0} (best : ℕ) (line : List ℕ) (drawn : List Drawn) (tail none front slice old new : List ℕ)
    (r : Result (Unit {0}) E) → none ≡ [] → IsPut best line drawn none front → slice ≡ front
    → OnOk r ((xs : List ℕ) → slice ≡ xs ++ codes "\n" → new ≡ old ++ (xs ++ (tail ++ codes "\n")))
    → OnOk r (IsPutOwned best line drawn tail old new)
behind_put best line drawn tail none front slice old new (Err e) empty put same behind = tt
behind_put best line drawn tail none front slice old new (Ok u) empty put same behind = λ own ends.
    let said = put own ends in (
      said.0,
      said.1,
      behind (own ++ said.0)
          (same ∙ said.2 ∙ ap (λ (l : List ℕ). l ++ (own ++ (said.0 ++ codes "\n"))) empty
          ∙ sym (append_assoc own said.0 (codes "\n"))),
    )

-- and so was the first line
pub columns_put : {E : Type 0} (i : InstructionParts) (draws : Bool) (none first slice names n_slice old new : List ℕ)
    (r : Result (Unit {0}) E) → none ≡ []
    → ((own : List ℕ) → head_line i ≡ own ++ codes "\n" → first ≡ none ++ (own ++ (columns_of draws ++ codes "\n")))
    → slice ≡ first → names ≡ own_columns draws → n_slice ≡ names
    → OnOk r ((xs : List ℕ) → slice ≡ xs ++ codes "\n" → new ≡ old ++ (xs ++ (n_slice ++ codes "\n")))
    → OnOk r (IsFirstLine i draws old new)
columns_put i draws none first slice names n_slice old new (Err e) empty put same is n_same behind = tt
columns_put i draws none first slice names n_slice old new (Ok u) empty put same is n_same behind = λ head ends.
    behind (head ++ columns_of draws)
    (same ∙ put head ends ∙ ap (λ (l : List ℕ). l ++ (head ++ (columns_of draws ++ codes "\n"))) empty
    ∙ sym (append_assoc head (columns_of draws) (codes "\n")))
    ∙ ap (λ (l : List ℕ). old ++ ((head ++ columns_of draws) ++ (l ++ codes "\n"))) (n_same ∙ is)
