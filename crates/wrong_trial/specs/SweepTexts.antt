-- The texts that wrong bodies would print of runs.
use Rattle.std.specs.Prelude.{◌≡◌, ◌++◌, ℕ, List}
use Rattle.buck_apt_instruction.specs.Settings.{own_numbers}
use Rattle.buck_rule.specs.declared.named.NamedRule.{NamedRule}
use Rattle.buckfleet_tasks.specs.declared.combination.Combination.{Combination}

-- a rule with the instruction's own numbers
abbrev pub own_run : NamedRule → Combination
own_run rule = record { rule = rule; settings = own_numbers }

-- some bytes stand in a text
abbrev pub StandsIn : List ℕ → List ℕ → Type 0
StandsIn bytes text = (before : List ℕ) × (after : List ℕ) × (text ≡ before ++ (bytes ++ after))
