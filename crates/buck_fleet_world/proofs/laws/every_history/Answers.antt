use Rattle.buck_fleet_world.proofs.Words.{◌≡◌, ◌≢◌, ⊎_elim, ℕ, ◌+◌, ap, ◌∙◌, Cut, version_of, sheet_at, entry_of, Idle, Try, WorldParts, opening, at, Adds, Becomes, last}
use Rattle.buck_fleet_world.proofs.Sound.{reached, opening_sound}
use Rattle.buck_fleet_world.proofs.Rising.{moment, run_added, run_instruction}
use Rattle.buck_fleet_world.proofs.laws.every_history.Goals as goal

pub returns-clause-lawful : goal.returns-clause-lawful
returns-clause-lawful c i n moves r =
    ((reached i n moves r).world.lawful, run_instruction (opening i n) moves (opening_sound i n) r)

pub returns-clause-added : goal.returns-clause-added
returns-clause-added c i n moves r = run_added (opening i n) moves r

pub returns-clause-no_old_plan : goal.returns-clause-no_old_plan
returns-clause-no_old_plan c i n before after h x p r holds other =
    let m = moment (opening i n) before after record { event = Try h; after = x } (opening_sound i n) r in
    let u = last (opening i n) before in
    ⊎_elim
    (λ (k : ((at u h).seen ≡ version_of u.history) × Adds u h (Cut (entry_of u.history h m.1.1.0)) x).
    absurd (other (((m.0.world.fits h m.1.0.0).plan p holds).sheet_is
    ∙ ap (λ (v : ℕ). sheet_at u.history.instruction u.history.sheets v) k.0)))
    (λ (k : ((at u h).seen ≢ version_of u.history) × Becomes u h Idle (at u h).seen ((at u h).stale + 1) x).
    ap (λ (z : WorldParts). z.history) k.1)
    m.1.1.2
