use Rattle.std.proofs.Common.{◌≡◌, ◌⊎◌, ℕ, List, inl, inr, Option, Some, Result, Ok, Err, rules, subst}
use Rattle.buck_apt.specs.Apt.{apt_of}
use Rattle.buck_apt_instruction.specs.Instruction.{InstructionParts}
use Rattle.buckfleet_trial_draws.specs.declared.orders.Draws.{Draws}
use Rattle.buckfleet_tasks.specs.declared.combination.Combination.{Combination}
use Rattle.buckfleet_terms_files.specs.declared.fault.OwnFault.{OwnFault}
use Rattle.buckfleet_terms_files.specs.declared.fault.TermsFault.{TermsFault}
use Rattle.buckfleet_terms_files.specs.declared.fault.TermsFault.TheVariants.{Own}
use Rattle.buckfleet_terms_files.specs.Targets.{HasTargets}
use Rattle.buckfleet_terms_files.specs.Telling.{WritesTerms}
use Rattle.buckfleet_trial.specs.Inputs.{IsInputFault}
use Rattle.buckfleet_trial_owned.specs.Owned.{AnswersOwned, IsOwnStop}
use Rattle.wrong_trial.proofs.files.contract_told_before_the_targets.Goals as goal

-- a contract isn't, if the file of targets is refused
contract_not_told : (cs : List Combination) (draws : Option Draws) (apt : List ℕ) (stms : List (Option (List ℕ)))
    (targets : List ℕ) (number : ℕ) (own : Option (List ℕ) × ℕ) (old new : Option (List ℕ))
    (r : Result (Unit {0}) TermsFault) (why : OwnFault)
    → WritesTerms (AnswersOwned cs draws (Some apt) stms (Some (Some targets, number)) own) old new r
    → r ≡ Err (Own why)
    → ((i : InstructionParts) (wanted : List ℕ) → apt_of apt ≡ Ok i → HasTargets i targets wanted → ⊥) → ⊥
contract_not_told cs draws apt stms targets number own old new r why run is refused =
    told
    (subst (λ (x : Result (Unit {0}) TermsFault). WritesTerms
    (AnswersOwned cs draws (Some apt) stms (Some (Some targets, number)) own) old new x) is run).0 where
      told : IsInputFault (Some apt) stms (Some (Some targets, number)) (Own why)
          ⊎ IsOwnStop (Some apt) stms (Some (Some targets, number)) own (Own why) → ⊥
      told (inl stop) = elim stop.cause [
        | inl (fault, named, fleet, full) ↦ absurd (cc named)
        | inr last ↦ elim last.is_fault [
          | inl (inl read) ↦ absurd (cc read)
          | inl (inr memory) ↦ absurd (cc memory)
          | inr (fault, named, said) ↦ absurd (cc named)
        ]
      ]
      told (inr stop) =
          let wanted = stop.says.wanted in refused stop.says.own wanted.0 stop.says.apt_says.1 wanted.1.1

pub prove-unreachable-requires : goal.prove-unreachable-requires
prove-unreachable-requires g c =
    let files = c.in-Some.ensures in
    let run = rw (files.apt, files.targets) at c.run_owned-outcome.ensures in
    let same : c.run_owned-outcome.result ≡ Err (Own c.in-Err-Own._why) = search rules in
    contract_not_told c.args.task.now.combinations.items c.args.task.now.draws c.args.apt.now _ c.args.targets.now 2
    (Some c.in-Some.files.own.0.now, c.in-Some.files.own.1) (Some c.args.out.now.items)
    (Some c.run_owned-outcome.new.out.items) c.run_owned-outcome.result c.in-Err-Own._why run same c.requires.refused
