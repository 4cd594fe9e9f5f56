-- Numbers and rules that a run may not have.
use Rattle.std.proofs.Common.{◌≡◌, ◌≤◌, ℕ, List, [], ◌∷◌, Option, Some, None, refl, sym, ap, ◌∙◌, subst, arith}
use Rattle.std.specs.Prelude.{IfSome}
use Rattle.std.specs.List.{AllZip}
use Rattle.std.proofs.lemmas.Option.{none-some}
use Rattle.buck_apt_instruction.specs.Instruction.{IsWithin}
use Rattle.buck_apt_instruction.specs.Settings.{SettingsParts}
use Rattle.buckfleet_tasks.specs.declared.combination.Combination.{Combination}
use Rattle.buck_c_calls.specs.declared.asked.Numbers.{Numbers}
use Rattle.buck_c_calls.specs.declared.asked.Run.{Run}
use Rattle.buck_c_calls.specs.Asked.{AreSettings, IsCombination, told}
use Rattle.buck_c_calls.specs.Books.{rule_of}

pub limit_1001 : (n : Numbers) (s : SettingsParts) → n.limit ≡ 1001 → AreSettings n s → ⊥
limit_1001 n s is (same, valid) =
    let limit : s.limit ≡ Some 1001 = ap (λ (t : SettingsParts). t.limit) same ∙ ap (λ (k : ℕ). told k) is in
    let range : 1001 ≤ 1000 = subst (λ (o : Option ℕ). IfSome o (λ l. l ≤ 1000)) limit valid.limit_range in
    omega (arith, range)

pub period_0 : (n : Numbers) (s : SettingsParts) → n.period ≡ 0 → AreSettings n s → ⊥
period_0 n s is (same, valid) =
    let period : s.period ≡ Some 0 = ap (λ (t : SettingsParts). t.period) same ∙ ap (λ (k : ℕ). told k) is in
    let range : IsWithin 1 1000 0 =
    subst (λ (o : Option ℕ). IfSome o (λ p. IsWithin 1 1000 p)) period valid.period_range in
    omega (arith, range.0)

no_rule : (run : Run) (c : Combination) (n : ℕ) → rule_of n ≡ None → run.rule ≡ n → IsCombination run c → ⊥
no_rule run c n none is by = none-some c.rule (sym none ∙ ap (λ (k : ℕ). rule_of k) (sym is) ∙ by.0)

pub rule_4 : (run : Run) (c : Combination) → run.rule ≡ 4 → IsCombination run c → ⊥
rule_4 run c is by = no_rule run c 4 refl is by

pub first_by_any : (run : Run) (more : List Run) (cs : List Combination) → run.rule ≡ 255
    → AllZip IsCombination (run ∷ more) cs → ⊥
first_by_any run more [] is all = all
first_by_any run more (c ∷ cs) is all = no_rule run c 255 refl is all.0
