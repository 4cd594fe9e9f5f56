-- Which runs a table has a line for, and in which order.
use Rattle.std.specs.Prelude.{ℕ, ◌≤◌, List, map, All, Option, IfSome}
use Rattle.std.specs.List.{flat_map}
use Rattle.buck_apt_instruction.specs.Instruction.{IsWithin}
use Rattle.buck_rule.specs.declared.named.NamedRule.{NamedRule}
use Rattle.buckfleet_tasks.specs.declared.combination.Combination.{Combination}

-- a rule and a period with each limit
abbrev pub with_limits : List (Option ℕ) → NamedRule → Option ℕ → List Combination
with_limits limits rule period =
    map (λ limit. record { rule = rule; settings = record { period = period; limit = limit } }) limits

-- a rule with each period, and that with each limit
abbrev pub with_periods : List (Option ℕ) → List (Option ℕ) → NamedRule → List Combination
with_periods periods limits rule = flat_map (with_limits limits rule) periods

-- each rule with each period, and that with each limit
abbrev pub combinations_of : List NamedRule → List (Option ℕ) → List (Option ℕ) → List Combination
combinations_of rules periods limits = flat_map (with_periods periods limits) rules

-- the given periods and limits may stand in an instruction
abbrev pub AreNumbers : List (Option ℕ) → List (Option ℕ) → Type 0
AreNumbers periods limits =
    All (λ p. IfSome p (λ n. IsWithin 1 1000 n)) periods × All (λ l. IfSome l (λ n. n ≤ 1000)) limits
