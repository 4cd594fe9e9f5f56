-- The lines of a trial, one after the other.
use Rattle.std.proofs.Common.{◌≡◌, ℕ, zero, suc, ◌+◌, ◌<◌, List, [], ◌∷◌, ◌++◌, length, take, drop, get_or, refl, sym, ap, subst, ◌∙◌, arith, append_assoc, append-nil, length-append, ◌≤◌}
use Rattle.std.specs.Prelude.{◌==◌, Bool, codes, false, not}
use Rattle.std.proofs.lemmas.Bool.Decides.{nat_tests}
use Rattle.std.specs.List.{AllZip}
use Rattle.std.specs.declared.sync.Arc.{Arc}
use Rattle.std.specs.declared.vec.Vec.{Vec}
use Rattle.std.specs.declared.alloc.Global.{Global}
use Rattle.std.proofs.lemmas.List.{drop_more, length-map, take_all}
use Rattle.buck_apt_instruction.specs.Instruction.{InstructionParts}
use Rattle.buck_stem_shape.specs.declared.stem.Stem.{Stem}
use Rattle.buck_book_postings.specs.History.{HistoryParts}
use Rattle.buck_rule.specs.declared.named.NamedRule.{NamedRule}
use Rattle.buck_rule.specs.Named.{rule_name}
use Rattle.buckfleet_tasks.specs.declared.combination.Combination.{Combination}
use Rattle.buckfleet_trial_sweep.specs.Runs.{IsRunLine}
use Rattle.buckfleet_trial_sweep.specs.Sweep.{AreLines}
use Rattle.buckfleet_trial_sweep.specs.Table.{IsLine, apart_of, back_of, cells, degree_heads, front_of, head_line, line_of, pair_heads, volumes_of, wholes_of}
use Rattle.buck_page_figures.specs.Figures.{worth_in}
use Rattle.std.specs.Prelude.{sum_by}
use Rattle.buckfleet_trial_sweep.proofs.Tables.{lines_both}
use Rattle.buckfleet_trial.specs.declared.trial.Drawn.{Drawn}
use Rattle.buckfleet_trial.specs.Trial.{IsBestFor, IsDrawn, IsTrialLine, IsTrialOver, drawn_head}
use Rattle.buckfleet_trial.specs.Lines.{AreDrawnFor, AreLinesFor, IsPut, all_draws, columns_of, draws_of}
use Rattle.buckfleet_trial.proofs.Each.{zip_drop, zip_length, zip_of_made, zip_split}

regroup : (a b c d e f z : List ℕ)
    → a ++ (b ++ (c ++ (d ++ (e ++ (f ++ z))))) ≡ (a ++ (b ++ (c ++ (d ++ (e ++ f))))) ++ z
regroup a b c d e f z = sym (simp append_assoc)

-- a line of a sweep ends in a line feed
pub line_ends : (rule : NamedRule) (h : HistoryParts) (line : List ℕ) → IsLine rule h line
    → (own : List ℕ) × (line ≡ own ++ codes "\n")
unfolding line_of
line_ends rule h line is =
    let a = is.assorted in
    let best = sum_by worth_in is.unsteered in (
      rule_name rule
          ++ (cells (front_of h)
          ++ (cells (wholes_of a.degrees)
          ++ (cells (a.least ∷ back_of h best)
          ++ (cells (volumes_of a.cut a.unsteered) ++ cells (apart_of a.degrees))))),
      is.line_is
          ∙ regroup (rule_name rule) (cells (front_of h)) (cells (wholes_of a.degrees))
          (cells (a.least ∷ back_of h best))
          (cells (volumes_of a.cut a.unsteered)) (cells (apart_of a.degrees)) (codes "\n"),
    )

-- and so does the first line
pub head_ends : (i : InstructionParts) → (own : List ℕ) × (head_line i ≡ own ++ codes "\n")
unfolding head_line
head_ends i = (
  codes "rule,period,limit,versions,"
      ++ (degree_heads 0 i.assortments
      ++ (codes "least_degree,base_worth_millionths,best_base_worth_millionths,cost_ten_thousandths,volume_cm3"
      ++ (pair_heads (codes "volume_cm3_") (codes "unsteered_volume_cm3_") 0 i.assortments
      ++ pair_heads (codes "diameter_degree_") (codes "length_degree_") 0 i.assortments))),
  sym (simp append_assoc),
)

-- the element at a place, between those before it and those behind it
pub record At {X : Type 0} (xs : List X) (k : ℕ) : Type 0 where
  pub one : X
  pub front : take (k + 1) xs ≡ take k xs ++ one ∷ []
  pub back : drop k xs ≡ one ∷ drop (k + 1) xs

pub at_place : {X : Type 0} (xs : List X) (k : ℕ) → k < length xs → At xs k
at_place [] k lt = absurd (omega (arith, lt))
at_place (x ∷ xs) zero lt = record { one = x; front = refl; back = refl }
at_place (x ∷ xs) (suc k) lt =
    let more = at_place xs k (omega (arith, lt)) in
    let next : suc k + 1 ≡ suc (k + 1) = omega arith in
    record {
      one = more.one;
      front = ap (λ n. take n (x ∷ xs)) next ∙ ap (λ l. x ∷ l) more.front;
      back = more.back ∙ ap (λ l. more.one ∷ l) (sym (ap (λ n. drop n (x ∷ xs)) next));
    }

module _ (i : InstructionParts) (lists : List (Vec (Arc Stem Global) Global)) (cs : List Combination)
    (starts : List ℕ) (best : ℕ) where
  -- behind some first text stand the lines of the first combinations
  pub record ArePut (first : List ℕ) (k : ℕ) (text : List ℕ) : Type 0 where
    pub lines : List ℕ
    pub text_is : text ≡ first ++ lines
    pub are_lines : AreLines (IsTrialLine i lists starts best) (take k cs) lines

  -- what is left after the draws of a combination
  pub rest_more : (k : ℕ) (rest : List Drawn) → k < length cs → AreDrawnFor i lists (drop k cs) starts rest
      → AreDrawnFor i lists (drop (k + 1) cs) starts (drop (length starts) rest)
  rest_more k rest lt drawn =
      let at = at_place cs k lt in
      let split = zip_split (λ p d. IsDrawn i lists p.0 p.1 d) (draws_of at.one starts)
      (all_draws (drop (k + 1) cs) starts) rest
      (subst (λ (l : List Combination). AreDrawnFor i lists l starts rest) at.back drawn) in
      subst (λ (n : ℕ). AreDrawnFor i lists (drop (k + 1) cs) starts (drop n rest))
      (length-map starts (λ s. (at.one, s))) split.1

  -- there are enough of them
  pub rest_enough : (k : ℕ) (rest : List Drawn) → k < length cs → AreDrawnFor i lists (drop k cs) starts rest
      → length starts ≤ length rest
  rest_enough k rest lt drawn =
      let at = at_place cs k lt in
      let long = zip_length (λ p d. IsDrawn i lists p.0 p.1 d)
      (draws_of at.one starts ++ all_draws (drop (k + 1) cs) starts)
      rest (subst (λ (l : List Combination). AreDrawnFor i lists l starts rest) at.back drawn) in
      let pairs : length (draws_of at.one starts) ≡ length starts = length-map starts (λ s. (at.one, s)) in
      omega (arith, long, pairs, length-append (draws_of at.one starts) (all_draws (drop (k + 1) cs) starts))

  -- the line of a combination more
  pub line_more : (k : ℕ) (lines : List (Vec ℕ Global)) (rest : List Drawn) (line : Vec ℕ Global)
      (first old new : List ℕ) → k < length cs → AreLinesFor i lists cs lines → line ≡ get_or lines k line
      → AreDrawnFor i lists (drop k cs) starts rest → ArePut first k old
      → IsPut best line.items (take (length starts) rest) old new → ArePut first (k + 1) new
  line_more k lines rest line first old new lt all is drawn put next =
      let at = at_place cs k lt in
      let long = zip_length (λ c l. IsRunLine i lists c l.items) cs lines all in
      let here : drop k lines ≡ line ∷ drop (k + 1) lines =
      drop_more lines k line (omega (arith, lt, long)) ∙ ap (λ l. l ∷ drop (k + 1) lines) (sym is) in
      let of_rest : AllZip (λ c l. IsRunLine i lists c l.items) (at.one ∷ drop (k + 1) cs) (line ∷ drop (k + 1) lines) =
      subst (λ (l : List (Vec ℕ Global)). AllZip (λ c x. IsRunLine i lists c x.items) (at.one ∷ drop (k + 1) cs) l) here
      (subst (λ (l : List Combination). AllZip (λ c x. IsRunLine i lists c x.items) l (drop k lines)) at.back
      (zip_drop (λ c x. IsRunLine i lists c x.items) k cs lines all)) in
      let run = of_rest.0 in
      let ends = line_ends at.one.rule run.history line.items run.is_line in
      let own = ends.0 in
      let put_ = next own ends.1 in
      let spreads = put_.0 in
      let split = zip_split (λ p d. IsDrawn i lists p.0 p.1 d) (draws_of at.one starts)
      (all_draws (drop (k + 1) cs) starts) rest
      (subst (λ (l : List Combination). AreDrawnFor i lists l starts rest) at.back drawn) in
      let its : AllZip (IsDrawn i lists at.one) starts (take (length starts) rest) =
      zip_of_made (λ p d. IsDrawn i lists p.0 p.1 d) (λ s. (at.one, s)) starts (take (length starts) rest)
      (subst (λ (n : ℕ). AllZip (λ p d. IsDrawn i lists p.0 p.1 d) (draws_of at.one starts) (take n rest))
      (length-map starts (λ s. (at.one, s))) split.0) in
      let text = own ++ (spreads ++ codes "\n") in
      let one : IsTrialLine i lists starts best at.one text = record {
        own = own;
        drawn = take (length starts) rest;
        spreads = spreads;
        is_run_line = subst (λ (l : List ℕ). IsRunLine i lists at.one l) ends.1 run;
        are_drawn = its;
        are_spreads = put_.1;
        line_is = refl;
      } in
      record {
        lines = put.lines ++ text;
        text_is = put_.2 ∙ ap (λ (l : List ℕ). l ++ text) put.text_is ∙ append_assoc first put.lines text;
        are_lines =
            subst (λ (l : List Combination). AreLines (IsTrialLine i lists starts best) l (put.lines ++ text))
            (sym at.front)
            (lines_both (IsTrialLine i lists starts best) (take k cs) (at.one ∷ []) put.lines text put.are_lines
            (text, [], sym (append-nil text), one, refl));
      }

  -- the whole table
  pub whole_text : (k : ℕ) (head first columns text : List ℕ) → length cs ≤ k → head_line i ≡ head ++ codes "\n"
      → first ≡ head ++ (columns ++ codes "\n") → columns ≡ drawn_head starts → IsBestFor i lists starts best
      → ArePut first k text → IsTrialOver i lists cs starts text
  whole_text k head first columns text le head_is first_is columns_are best_is put = record {
    head = head;
    head_is = head_is;
    best = best;
    is_best = best_is;
    lines = put.lines;
    are_lines =
        subst (λ (l : List Combination). AreLines (IsTrialLine i lists starts best) l put.lines) (take_all k cs le)
        put.are_lines;
    text_is = put.text_is
        ∙ ap (λ (l : List ℕ). l ++ put.lines) (first_is ∙ ap (λ (c : List ℕ). head ++ (c ++ codes "\n")) columns_are)
        ∙ simp append_assoc;
  }

-- columns of draws, if there are draws
pub columns_are : (starts : List ℕ) (none : Bool) → none ≡ (length starts == 0)
    → columns_of (not none) ≡ drawn_head starts
columns_are [] none is = ap (λ b. columns_of (not b)) is
columns_are (s ∷ more) none is =
    let some : (length (s ∷ more) == 0) ≡ false = grind (arith, nat_tests) in
    ap (λ b. columns_of (not b)) (is ∙ some)
