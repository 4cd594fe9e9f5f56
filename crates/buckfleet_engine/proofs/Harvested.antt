-- What a fleet has cut that was opened, run to the end of all lists, and closed.
use Rattle.std.proofs.Common.{◌≡◌, ℕ, zero, suc, ◌+◌, ◌-◌, ◌<◌, ◌≤◌, List, [], ◌∷◌, ◌++◌, length, map, take, get_or, refl, sym, ap, subst, ◌∙◌, arith, take_all}
use Rattle.std.specs.Prelude.{All, Some, None}
use Rattle.std.specs.List.{sum_by}
use Rattle.std.specs.declared.sync.Arc.{Arc}
use Rattle.std.specs.declared.vec.Vec.{Vec}
use Rattle.std.specs.declared.alloc.Global.{Global}
use Rattle.std.proofs.Math.Seq.{take-suc}
use Rattle.std.proofs.lemmas.List.Sums.{sum_by-append}
use Rattle.buck_apt_instruction.specs.Instruction.{InstructionParts}
use Rattle.buck_stem_shape.specs.Stem.{StemParts}
use Rattle.buck_stem_shape.specs.declared.stem.Stem.{Stem}
use Rattle.buck_book_postings.specs.declared.posting.Posting.{Posting}
use Rattle.buck_board.specs.declared.board.Board.{Board}
use Rattle.buck_book_postings.specs.declared.posting.Kept.{Kept}
use Rattle.buck_fleet.specs.Seat.{SeatParts}
use Rattle.buck_fleet.specs.Fleet.{FleetParts}
use Rattle.buck_fleet.specs.Crew.{AreOpened}
use Rattle.buck_fleet.specs.Run.{HaveRun, HasRun}
use Rattle.buck_book_postings.specs.Replies.{stem_cut, stems_at, replies_from, replies_of}
use Rattle.buck_fleet.specs.Closed.{ClosedParts, kept_by, IsOneHistory}
use Rattle.buckfleet_engine.specs.inner.Fleet.{HasCutLists}
use Rattle.buckfleet_engine.proofs.Owned.{owned, all_of_them}

-- the first n kept lists are as long as what the harvesters 1 to n have
kept_as_owned : (n : ℕ) (lists : List (List Kept)) (ps : List Posting) → n ≤ length lists
    → ((h : ℕ) → 0 < h → h ≤ n → get_or lists (h - 1) [] ≡ replies_from h 0 ps)
    → sum_by length (take n lists) ≡ owned n 0 ps
kept_as_owned zero lists ps le are = refl
kept_as_owned (suc n) lists ps le are =
    let more = take-suc lists n [] (omega (arith, le)) in
    let sums = sum_by-append (λ (l : List Kept). length l) (take n lists) (get_or lists n [] ∷ []) in
    let so_far = kept_as_owned n lists ps (omega (arith, le)) (λ h pos low. are h pos (omega (arith, low))) in
    let last : length (get_or lists n []) ≡ length (replies_from (suc n) 0 ps) =
    (let back : suc n - 1 ≡ n = omega arith in let e =
    ap (λ (l : List Kept). length l) (are (suc n) (omega arith) (omega arith)) in
    subst (λ (k : ℕ). length (get_or lists k []) ≡ length (replies_from (suc n) 0 ps)) back e) in
    ap (λ (l : List (List Kept)). sum_by length l) more ∙ sums ∙ (omega (arith, so_far, last))

-- an element of a list that has one
first_of : {A : Type 0} (xs : List A) → 0 < length xs → A
first_of [] lt = absurd (omega (arith, lt))
first_of (x ∷ xs) lt = x

-- what a seat that had nothing has kept of a whole list
whole_list : (stems : List StemParts) (before after : SeatParts) → before.kept ≡ [] → after.stopped ≡ None
    → HasRun stems before after → map (λ k. stem_cut k.entry) after.kept ≡ map Some stems
whole_list stems before after new stopped run =
    let cut = run.whole stopped in
    ap (map (λ (k : Kept). stem_cut k.entry)) (cut.kept.kept_are ∙ ap (λ (l : List Kept). l ++ cut.more) new)
    ∙ cut.each
    ∙ ap (map Some) (take_all (length stems) stems (omega arith))

pub has_cut_lists : (i : InstructionParts) (f : FleetParts) (b : Board) (lists : List (Vec (Arc Stem Global) Global))
    (before after : List SeatParts) (c : ClosedParts)
    → f.instruction ≡ i
    → f.seats ≡ length lists
    → 0 < length lists
    → AreOpened b (length lists) before
    → HaveRun f lists before after
    → All (λ x. x.stopped ≡ None) after
    → IsOneHistory f.instruction f.seats after c × (length c.history.postings ≤ 1000000)
    → HasCutLists i lists c.history
has_cut_lists i f b lists before after c same seats some opened run stopped (one, few) =
    let long : length before ≡ length lists = opened.number in
    let longer : length after ≡ length lists = run.number ∙ long in
    let number : length c.kept ≡ length lists = one.handed_out.number ∙ seats in
    let replies : (h : ℕ) → 0 < h → h ≤ length lists → kept_by h c ≡ replies_of h c.history =
    λ h pos low. one.replies h pos (omega (arith, low, seats)) in
    let d : SeatParts = first_of after (omega (arith, longer, some)) in
    record {
      same_instruction = one.same_instruction ∙ same;
      lawful = one.lawful;
      few = few;
      firsts = one.handed_out.first_best;
      stems = λ k lt. (
          let new = opened.each k d lt in
          let has_run = run.runs k d (omega (arith, lt, long)) in
          let s = get_or after k d in
          let kept_it : map (λ x. stem_cut x.entry) s.kept ≡ map Some (stems_at lists k) =
          whole_list (stems_at lists k) (get_or before k d) s new.nothing_kept
          (stopped k d (omega (arith, lt, longer))) has_run in
          let harvester : s.harvester ≡ k + 1 = has_run.beginning.1.kept.same_harvester ∙ new.harvester_is in
          let listed : kept_by s.harvester c ≡ s.kept = one.handed_out.lists k d (omega (arith, lt, longer)) in
          let listed_here : kept_by (k + 1) c ≡ s.kept = subst (λ (h : ℕ). kept_by h c ≡ s.kept) harvester listed in
          let kept_here : replies_of (k + 1) c.history ≡ s.kept =
          sym (replies (k + 1) (omega arith) (omega (arith, lt))) ∙ listed_here in
          ap (map (λ (x : Kept). stem_cut x.entry)) kept_here ∙ kept_it);
      nobody_else =
          let all : take (length lists) c.kept ≡ c.kept = take_all (length lists) c.kept (omega (arith, number)) in
          let sums = kept_as_owned (length lists) c.kept c.history.postings (omega (arith, number)) replies in
          all_of_them (length lists) 0 c.history.postings
          (sym sums ∙ ap (λ (l : List (List Kept)). sum_by length l) all ∙ sym one.handed_out.total);
    }
