-- What a step does, and what holds of each world that a run reaches.
use Rattle.buck_fleet_world.proofs.Words.{IsWorld, ◌≡◌, ◌≢◌, ⊎_elim, inl, inr, ℕ, ◌+◌, ◌-◌, ◌<◌, ◌≤◌, List, [], ◌∷◌, length, length-set, get_or, set, slice_get, Option, Some, None, sym, refl, ap, subst, ◌∙◌, arith, le_refl, le_trans, rules}
use Rattle.buck_fleet_world.proofs.Words.{common_steps, get_or-replicate, length-replicate, length_push, cases_eq, InstructionParts, SheetParts, Posting, Cut, harvester_of, planned_version, PlanParts, HistoryParts, IsLawful, version_of}
use Rattle.buck_fleet_world.proofs.Words.{sheets_with, history_with, entry_of, one_more, slice_get-push, version_within, prices_stay, Stage, Idle, Planned, Answered, Harvester, Event, Read, Plan, Try, Locked, Retarget, Raise, Leave}
use Rattle.buck_fleet_world.proofs.Words.{WorldParts, newcomer, opening, IsHarvester, at, IsAnswered, NobodyAnswered, with_front, IsPlanUnder, Adds, Becomes, Allowed, Step, IsFit, IsGoing, Move, IsRun, last, harvester_of_event, IsPlaced}
use Rattle.buck_fleet_world.proofs.Words.{IsSound}
use Rattle.buck_book_postings.specs.History as history
use Rattle.buck_fleet_world.proofs.Lists.{here, elsewhere, each_of, after_set}

pub is_in : (w : WorldParts) (e : Event) → Allowed w e → IsHarvester w (harvester_of_event e)
is_in w (Read h v) a = a.0
is_in w other a = a.0

-- a history one posting longer has as many sheets, or one more
grown : (sheets : List (List ℕ)) (next : Option SheetParts)
    → (length sheets ≤ length (sheets_with sheets next)) × (length (sheets_with sheets next) ≤ length sheets + 1)
grown sheets None = (omega arith, omega arith)
grown sheets (Some s) = let e = length_push sheets s.prices in (omega arith, omega arith)

-- what holds of harvester h
abbrev IsRight : HistoryParts → ℕ → ℕ → Harvester → Type 0
IsRight s front h x = IsFit s front x × IsPlaced s h x

-- what a step does: its harvester alone changes, and has seen no less; the instruction stays, and so does what is kept
pub record IsMove (w : WorldParts) (h : ℕ) (w' : WorldParts) : Type 0 where
  pub now : Harvester
  pub harvesters_are : w'.harvesters ≡ set w.harvesters (h - 1) now
  pub same_instruction : w'.history.instruction ≡ w.history.instruction
  pub no_less : (at w h).seen ≤ now.seen
  pub sound : IsSound w'

-- harvester h became x, and the others stayed
moved : (w w' : WorldParts) (h : ℕ) (x : Harvester) (s : HistoryParts) (front : ℕ)
    → w' ≡ record { history = s; front = front; harvesters = set w.harvesters (h - 1) x }
    → s.instruction ≡ w.history.instruction → (at w h).seen ≤ x.seen → IsSound w → IsHarvester w h
    → IsLawful s → front ≤ version_of s → version_of s ≤ front + 1 → IsRight s front h x
    → ((g : ℕ) → IsHarvester w g → g ≢ h → IsRight s front g (at w g))
    → (x.stage ≡ Answered → (g : ℕ) → IsHarvester w g → g ≢ h → IsAnswered w g → ⊥)
    → (x.stage ≢ Answered → ((g : ℕ) → IsHarvester w g → g ≢ h → IsAnswered w g → ⊥) → front ≡ version_of s)
    → IsMove w h w'
moved w w' h x s front is same no_less sound h_in lawful low next own others only forced =
    subst (λ (y : WorldParts). IsMove w h y) (sym is) record {
      now = x;
      harvesters_are = refl;
      same_instruction = same;
      no_less = no_less;
      sound = record { world = world; next = next; placed = λ g g_in. (all g g_in).1 };
    }
  where
    all : (g : ℕ) → (1 ≤ g) × (g ≤ length (set w.harvesters (h - 1) x))
        → IsRight s front g (get_or (set w.harvesters (h - 1) x) (g - 1) newcomer)
    all = after_set (λ g y. IsRight s front g y) w.harvesters h x newcomer h_in.0 h_in.1 own others

    forth : (g : ℕ) → IsHarvester w g → (1 ≤ g) × (g ≤ length (set w.harvesters (h - 1) x))
    forth g t = (t.0, subst (λ (j : ℕ). g ≤ j) (sym (length-set w.harvesters (h - 1) x)) t.1)

    self : (g : ℕ) → g ≡ h → (get_or (set w.harvesters (h - 1) x) (g - 1) newcomer).stage ≡ Answered
        → x.stage ≡ Answered
    self g e g_is = grind (arith, here)

    back : (g : ℕ) → (1 ≤ g) × (g ≤ length (set w.harvesters (h - 1) x))
        → (get_or (set w.harvesters (h - 1) x) (g - 1) newcomer).stage ≡ Answered → g ≢ h
        → IsHarvester w g × IsAnswered w g
    back g g_in g_is other = grind (arith, each_of)

    world : IsWorld (record { history = s; front = front; harvesters = set w.harvesters (h - 1) x })
    world = record {
      lawful = lawful;
      fits = λ g g_in. (all g g_in).0;
      one_answered = λ g j g_in j_in g_is j_is. elim (cases_eq g h) [
        | inl e ↦ elim (cases_eq j h) [
          | inl f ↦ e ∙ sym f
          | inr o ↦ let b = back j j_in j_is o in absurd (only (self g e g_is) j b.0 o b.1)
        ]
        | inr n ↦ let a = back g g_in g_is n in elim (cases_eq j h) [
          | inl f ↦ absurd (only (self j f j_is) g a.0 n a.1)
          | inr o ↦ let b = back j j_in j_is o in sound.world.one_answered g j a.0 b.0 a.1 b.1
        ]
      ];
      front_low = low;
      front_in_force = λ nobody. forced
          (λ e. nobody h (forth h h_in) (rw (here w.harvesters h x newcomer h_in.0 h_in.1) e))
          (λ g g_in other g_is. nobody g (forth g g_in)
          (rw (elsewhere w.harvesters h g x newcomer h_in.0 g_in.0 other) g_is));
    }

-- h alone changes, and is answered neither before nor after
quiet : (w w' : WorldParts) (h : ℕ) (stage : Stage) (seen stale : ℕ) → IsSound w → IsHarvester w h
    → (at w h).stage ≢ Answered → stage ≢ Answered
    → ((p : PlanParts) → stage ≡ Planned p → IsPlanUnder w.history seen p)
    → (at w h).seen ≤ seen → seen ≤ w.front → stale ≤ 3 → (IsGoing stage → stale < 3) → Becomes w h stage seen stale w'
    → IsMove w h w'
quiet w w' h stage seen stale s h_in before after plan no_less low few going is =
    let k = s.world in
    let now : Harvester = record { stage = stage; seen = seen; stale = stale } in
    moved w w' h now w.history w.front is refl no_less s h_in k.lawful k.front_low s.next
    (record { plan = plan; seen = low; stale = few }, search (rules, le_trans))
    (λ g g_in other. (k.fits g g_in, s.placed g g_in))
    (λ is. absurd (after is))
    (search (rules, cases_eq))

-- a plan's sheet stays at its place
under_after : (s : HistoryParts) (x : Posting) (next : Option SheetParts) (v : ℕ) (p : PlanParts) → v < length s.sheets
    → IsPlanUnder s v p → IsPlanUnder (history_with s x next) v p
under_after s x next v p low under = grind (arith, prices_stay)

-- a version that was seen has a sheet
seen_low : (w : WorldParts) (v : ℕ) → IsSound w → v ≤ w.front → v < length w.history.sheets
seen_low w v s low = let count = s.world.lawful.sheets_number in let front = s.world.front_low in omega arith

-- the entry of a plan under the sheet in force may follow
entry_follows : (h : HistoryParts) (n : ℕ) (p : PlanParts) → IsPlanUnder h (version_of h) p
    → history.Follows h.instruction h.sheets h.postings (Cut (entry_of h n p))
entry_follows h n p under = grind (arith, common_steps)

-- h's posting is added if nobody is answered
added : (w w' : WorldParts) (h : ℕ) (x : Posting) → IsSound w → IsHarvester w h → NobodyAnswered w → harvester_of x ≡ h
    → history.Follows w.history.instruction w.history.sheets w.history.postings x → Adds w h x w' → IsMove w h w'
added w w' h x s h_in nobody by_h follows (next, is_next, is) =
    let k = s.world in
    let lawful = one_more w.history x next k.lawful follows is_next in
    let up = grown w.history.sheets next in
    let n = k.lawful.sheets_number in
    let m = lawful.sheets_number in
    let own = k.fits h h_in in
    let now : Harvester = record { stage = Answered; seen = (at w h).seen; stale = (at w h).stale } in
    moved w w' h now (history_with w.history x next) w.front is refl (le_refl _) s h_in lawful (omega arith) (omega arith) (
      record { plan = λ p e. absurd (cc); seen = own.seen; stale = own.stale },
      record { going = λ f. absurd f; replied = λ idle. absurd (idle refl) },
    )
    (λ g g_in other. let fit = k.fits g g_in in let placed = s.placed g g_in in (
      record {
        plan = λ p e. under_after w.history x next (at w g).seen p (seen_low w (at w g).seen s fit.seen) (fit.plan p e);
        seen = fit.seen;
        stale = fit.stale;
      },
      record {
        going = placed.going;
        replied = λ idle i p there by_g. ⊎_elim
            (λ t. placed.replied idle i p t.1 by_g)
            (λ t. absurd (other (sym by_g ∙ ap harvester_of t.1 ∙ by_h)))
            (slice_get-push w.history.postings x p i there);
      },
    ))
    (λ is g g_in other g_is. nobody g g_in g_is)
    (λ not. absurd (not refl))

-- a posting's version is at most the version in force
version_low : (w : WorldParts) → IsSound w → (i : ℕ) (p : Posting) → slice_get w.history.postings i ≡ Some p
    → planned_version p ≤ version_of w.history
version_low w s i p there = let v = version_within w.history i p s.world.lawful there in omega arith

-- h raises the front
raised : (w w' : WorldParts) (h : ℕ) → IsSound w → IsHarvester w h → IsAnswered w h → w' ≡ with_front w h → IsMove w h w'
raised w w' h s h_in was is =
    let k = s.world in
    let version = version_of w.history in
    let now : Harvester = record { stage = Idle; seen = version; stale = 0 } in
    moved w w' h now w.history version is refl (le_trans (k.fits h h_in).seen k.front_low) s h_in k.lawful (le_refl version) (omega arith) (
      record { plan = λ p e. absurd (cc); seen = le_refl version; stale = omega arith },
      record { going = λ f. absurd f; replied = λ idle i p there by_h. version_low w s i p there },
    )
    (λ g g_in other. let fit = k.fits g g_in in
    (record { plan = fit.plan; seen = le_trans fit.seen k.front_low; stale = fit.stale }, s.placed g g_in))
    (λ is. absurd (cc))
    (λ not none. refl)

going_of : (x : Stage) (p : PlanParts) → x ≡ Planned p → IsGoing x
going_of x p e = subst (λ (s : Stage). IsGoing s) (sym e) tt

pub move_of : (w w' : WorldParts) (e : Event) → IsSound w → Step w e w' → IsMove w (harvester_of_event e) w'
move_of w w' (Read h v) s (a, f) = search (rules, quiet)
move_of w w' (Plan h stem) s (a, (p, is_stem, under, f)) = search (rules, quiet, le_refl)
move_of w w' (Try h) s (a, (p, is, t)) = let fit = s.world.fits h a.0 in ⊎_elim
    (λ (k : ((at w h).seen ≡ version_of w.history) × Adds w h (Cut (entry_of w.history h p)) w').
    added w w' h (Cut (entry_of w.history h p)) s a.0 a.2 refl
    (entry_follows w.history h p (subst (λ (v : ℕ). IsPlanUnder w.history v p) k.0 (fit.plan p is))) k.1)
    (search (rules, going_of, quiet, le_refl))
    t
move_of w w' (Locked h stem) s (a, (p, is_stem, under, f)) = search (rules, added, entry_follows)
move_of w w' (Retarget h targets) s (a, (valid, f)) = search (rules, added)
move_of w w' (Raise h) s (a, f) = raised w w' h s a.0 a.1 f
move_of w w' (Leave h) s (a, f) = search (rules, quiet, le_refl)

pub stays_sound : (w w' : WorldParts) (e : Event) → IsSound w → Step w e w' → IsSound w'
stays_sound w w' e s step = (move_of w w' e s step).sound

run_sound : (w : WorldParts) (moves : List Move) → IsSound w → IsRun w moves → IsSound (last w moves)
run_sound w [] s r = s
run_sound w (m ∷ ms) s r = run_sound m.after ms (stays_sound w m.after m.event s r.0) r.1

pub opening_sound : (i : InstructionParts) (n : ℕ) → IsSound (opening i n)
opening_sound i n = grind (arith, get_or-replicate, length-replicate)

pub reached : (i : InstructionParts) (n : ℕ) (moves : List Move) → IsRun (opening i n) moves
    → IsSound (last (opening i n) moves)
reached i n moves r = run_sound (opening i n) moves (opening_sound i n) r
