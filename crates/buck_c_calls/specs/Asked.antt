-- What C asks of runs over files.
use Rattle.std.specs.Prelude.{◌≡◌, ◌==◌, ℕ, cond, Option, Some, None}
use Rattle.buck_apt_instruction.specs.Settings.{SettingsParts, IsSettings}
use Rattle.buck_rule.specs.declared.named.NamedRule.{NamedRule}
use Rattle.buckfleet_tasks.specs.declared.journals.CrossCheck.{CrossCheck}
use Rattle.buckfleet_trial_draws.specs.declared.orders.Draws.{Draws}
use Rattle.buckfleet_tasks.specs.declared.combination.Combination.{Combination}
use Rattle.buck_c_calls.specs.declared.asked.Numbers.{Numbers}
use Rattle.buck_c_calls.specs.declared.asked.Run.{Run}
use Rattle.buck_c_calls.specs.declared.asked.Orders.{Orders}
use Rattle.buck_c_calls.specs.Books.{rule_of}

-- a number, but for the one that leaves the instruction's own
abbrev pub told : ℕ → Option ℕ
told n = cond (n == 4294967295) None (Some n)

-- numbers that may be put in the place of an instruction's own
abbrev pub AreSettings : Numbers → SettingsParts → Type 0
AreSettings n s = (s ≡ record { period = told n.period; limit = told n.limit }) × IsSettings s

-- a run by a rule, with such numbers
abbrev pub IsCombination : Run → Combination → Type 0
IsCombination run c = (rule_of run.rule ≡ Some c.rule) × AreSettings run.numbers c.settings

-- a rule, or that any will do
abbrev pub IsRuleOrAny : ℕ → Option NamedRule → Type 0
IsRuleOrAny n None = n ≡ 255
IsRuleOrAny n (Some rule) = rule_of n ≡ Some rule

-- what a journal is held against, beside stem files
abbrev pub IsCrossCheck : Run → CrossCheck → Type 0
IsCrossCheck run by = IsRuleOrAny run.rule by.rule × AreSettings run.numbers by.settings

-- orders that are drawn, but for a number of 0
abbrev pub draws_by : Orders → Option Draws
draws_by o = cond (o.number == 0) None (Some (record { number = o.number; seed = o.seed }))
