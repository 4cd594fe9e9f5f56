-- Each event keeps what the type of worlds keeps.
use Rattle.buck_fleet_world.proofs.Words.{ap, ◌∙◌, ◌≡◌, ℕ, ◌+◌, ◌-◌, ◌≤◌, List, [], ◌∷◌, length, length-set, get_or, replicate, sym, subst, arith, rules, Result, Ok, Err, OnOk, OnErr, length_push, length-replicate, All-map, All-from_get_or}
use Rattle.buck_fleet_world.proofs.Words.{InstructionParts, IsInstruction, base_prices, HistoryParts, ends-le, Harvester, Event, StepFault, WorldParts, newcomer, opening, Allowed, Follows, Step, RuledWorld, HasRoom, IsSound, Keeps}
use Rattle.buck_fleet_world.proofs.Words.{world_of}
use Rattle.buck_fleet_world.proofs.Sound.{move_of, stays_sound, opening_sound}

-- the front is at most the version in force, which is at most the number of postings
front_low : (w : WorldParts) → IsSound w → w.front ≤ length w.history.postings
front_low w s = grind (arith, ends-le)

keeps_all : {F : Type 0} (r : RuledWorld F) → IsSound r.world → IsInstruction r.world.history.instruction
    → length r.world.history.postings ≤ r.capacity → r.capacity ≤ 1000000 → length r.world.harvesters ≤ 64 → Keeps r
keeps_all r s valid within range few = record {
  sound = s;
  kept = record {
    valid = valid;
    world = s.world;
    front_rule = record {
      bounded = let low = front_low r.world s in omega arith;
      newest = All-map (λ v. v ≤ r.world.front) (λ (x : Harvester). x.seen) r.world.harvesters
          (All-from_get_or (λ (x : Harvester). x.seen ≤ r.world.front) r.world.harvesters newcomer
          (λ k low. let same : k + 1 - 1 ≡ k = omega arith in
          subst (λ (j : ℕ). (get_or r.world.harvesters j newcomer).seen ≤ r.world.front) same
          (s.world.fits (k + 1) (omega arith, omega arith)).seen));
    };
    within = within;
    capacity_range = range;
    harvesters_range = few;
  };
}

within_after : {F : Type 0} (r : RuledWorld F) (e : Event) (w' : WorldParts)
    → length r.world.history.postings ≤ r.capacity → Step r.world e w' → HasRoom r e
    → length w'.history.postings ≤ r.capacity
within_after r e w' low step room = grind (arith, length_push)

-- neither the instruction nor the number of harvesters changes
pub same_number : (w w' : WorldParts) (e : Event) → IsSound w → Step w e w'
    → (length w'.harvesters ≡ length w.harvesters) × (w'.history.instruction ≡ w.history.instruction)
same_number w w' e s step = let move = move_of w w' e s step in
    (ap length move.harvesters_are ∙ length-set _ _ _, move.same_instruction)

pub keeps_step : {F : Type 0} (r : RuledWorld F) (rule : F) (capacity : ℕ) (e : Event) (w' : WorldParts) → Keeps r
    → capacity ≡ r.capacity → Step r.world e w' → HasRoom r e
    → Keeps {F = F} record { rule = rule; capacity = capacity; world = w' }
keeps_step r rule capacity e w' k same step room =
    let n = same_number r.world w' e k.sound step in
    let number = n.0 in
    let few = k.kept.harvesters_range in
    let range = k.kept.capacity_range in
    let within = within_after r e w' k.kept.within step room in
    keeps_all record { rule = rule; capacity = capacity; world = w' } (stays_sound r.world w' e k.sound step)
    (subst (λ (i : InstructionParts). IsInstruction i) (sym n.1) k.kept.valid) (omega arith) (omega arith) (omega arith)

pub keeps_opening : {F : Type 0} (rule : F) (capacity : ℕ) (s : HistoryParts) (xs : List Harvester)
    (i : InstructionParts) (n : ℕ)
    → s.instruction ≡ i → s.sheets ≡ base_prices i ∷ [] → s.postings ≡ [] → xs ≡ replicate n newcomer
    → IsInstruction s.instruction → capacity ≤ 1000000 → n ≤ 64
    → Keeps {F = F} record { rule = rule; capacity = capacity; world = world_of s 0 xs }
keeps_opening {F} rule capacity s xs i n same sheets none all valid range few =
    let l = length-replicate n newcomer in
    let is : world_of s 0 xs ≡ opening i n = grind arith in
    subst (λ (w : WorldParts). Keeps {F = F} record { rule = rule; capacity = capacity; world = w }) (sym is)
    (keeps_all record { rule = rule; capacity = capacity; world = opening i n } (opening_sound i n)
    (subst (λ (k : InstructionParts). IsInstruction k) same valid) (omega arith) range (omega arith))

-- what an allowed event leaves, be it refused or not
pub keeps_act : {F : Type 0} (r : RuledWorld F) (e : Event) (rule : F) (capacity : ℕ) (w' : WorldParts)
    (result : Result (Unit {0}) StepFault)
    → Keeps r → Allowed r.world e → capacity ≡ r.capacity → OnOk result (Follows r.world e w')
    → OnOk result (HasRoom r e) → OnErr result (w' ≡ r.world)
    → Keeps {F = F} record { rule = rule; capacity = capacity; world = w' }
keeps_act r e rule capacity w' (Ok x) k allowed same follows room left =
    keeps_step r rule capacity e w' k same (allowed, follows) room
keeps_act {F} r e rule capacity w' (Err f) k allowed same follows room left = search (rules, keeps_all)
