-- What a harvester has seen never falls, and what is added along a run.
use Rattle.buck_fleet_world.proofs.Words.{inl, inr, ◌≡◌, ℕ, ◌≤◌, List, [], ◌∷◌, ◌++◌, sym, refl, ap, ◌∙◌, append_assoc, append-nil, arith, le_refl, rules, common_steps, cases_eq, Posting, Event, WorldParts, at, Step, Move, IsRun, last}
use Rattle.buck_fleet_world.proofs.Words.{harvester_of_event, added_at, added, IsSound}
use Rattle.buck_fleet_world.proofs.Sound.{is_in, move_of, stays_sound}
use Rattle.buck_fleet_world.proofs.Kept.{same_number}
use Rattle.buck_fleet_world.proofs.Counting.{at_here, foreign}

step_no_less : (w w' : WorldParts) (e : Event) (h : ℕ) → IsSound w → Step w e w' → 1 ≤ h
    → (at w h).seen ≤ (at w' h).seen
step_no_less w w' e h s step low = elim (cases_eq h (harvester_of_event e)) [
  | inl own ↦ let move = move_of w w' e s step in
      rw (own, at_here w w' w' _ move.now refl move.harvesters_are (is_in w e step.0)) move.no_less
  | inr other ↦ rw (foreign w w' e h s step low other) (le_refl _)
]

pub run_to : (w : WorldParts) (before : List Move) (h : ℕ) (after : List Move) → IsSound w → IsRun w (before ++ after)
    → 1 ≤ h → (at w h).seen ≤ (at (last w before) h).seen
run_to w [] h after s r low = le_refl (at w h).seen
run_to w (m ∷ before) h after s r low =
    grind (arith, step_no_less, (run_to m.after before h after (stays_sound w m.after m.event s r.0) r.1 low))

-- a run up to a move, the move, and what comes after it
pub moment : (w : WorldParts) (before after : List Move) (m : Move) → IsSound w → IsRun w (before ++ m ∷ after)
    → IsSound (last w before) × Step (last w before) m.event m.after × IsSound m.after × IsRun m.after after
moment w [] after m s r = (s, r.0, stays_sound w m.after m.event s r.0, r.1)
moment w (b ∷ before) after m s r = moment b.after before after m (stays_sound w b.after b.event s r.0) r.1

step_added : (w w' : WorldParts) (e : Event) → Step w e w' → w'.history.postings ≡ w.history.postings ++ added_at w e w'
step_added w w' e step = grind (arith, common_steps)

pub run_added : (w : WorldParts) (moves : List Move) → IsRun w moves
    → (last w moves).history.postings ≡ w.history.postings ++ added w moves
run_added w [] r = sym (append-nil w.history.postings)
run_added w (m ∷ ms) r = run_added m.after ms r.1
    ∙ ap (λ (xs : List Posting). xs ++ added m.after ms) (step_added w m.after m.event r.0)
    ∙ append_assoc w.history.postings (added_at w m.event m.after) (added m.after ms)

-- the instruction stays
pub run_instruction : (w : WorldParts) (moves : List Move) → IsSound w → IsRun w moves
    → (last w moves).history.instruction ≡ w.history.instruction
run_instruction w [] s r = refl
run_instruction w (m ∷ ms) s r =
    search (rules, same_number, (run_instruction m.after ms (stays_sound w m.after m.event s r.0) r.1))
