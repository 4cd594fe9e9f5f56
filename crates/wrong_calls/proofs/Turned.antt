-- The texts of harvesters in turn are by the rule of the number.
use Rattle.std.proofs.Common.{◌≡◌, ◌≢◌, ℕ, ◌+◌, List, ◌++◌, Some, take, inl, inr, sym, ap, subst, ◌∙◌, arith}
use Rattle.buck_rule.specs.declared.named.NamedRule.{NamedRule}
use Rattle.buck_rule.specs.declared.named.NamedRule.TheVariants.{Step}
use Rattle.buckfleet_engine_files.proofs.Statuses.{never_0}
use Rattle.buck_c_calls.specs.declared.turns.Texts.{Texts}
use Rattle.buck_c_calls.specs.Books.{rule_of}
use Rattle.buck_c_calls.specs.Turns.{ArePut, HaveTexts, IsTurned}
use Rattle.wrong_calls.proofs.Fits.{at_start, own_status}

step_is : (named : NamedRule) → rule_of 2 ≡ Some named → named ≡ Step
step_is named e = cc e

-- what is put with status 0 are such texts
texts_by : (lengths bytes journal report : List ℕ) (status : ℕ) → IsTurned 2 lengths bytes journal report status
    → status ≡ 0 → HaveTexts Step lengths bytes journal report
texts_by lengths bytes journal report status (inl misused) is = absurd (omega (arith, misused.3, is))
texts_by lengths bytes journal report status (inr (named, used, inl done)) is =
    subst (λ n. HaveTexts n lengths bytes journal report) (step_is named used.0) done.0
texts_by lengths bytes journal report status (inr (named, used, inr (none, (fault, why, line, told)))) is =
    absurd (never_0 fault (sym told ∙ is))

pub another_rule : (lengths bytes old new right wrong : List ℕ) (texts : Texts) (result long : ℕ)
    → ArePut (IsTurned 2 lengths bytes) old new texts result → result ≡ 0
    → long ≡ texts.journal + texts.report → right ≡ take long new
    → ((journal report : List ℕ) → HaveTexts Step lengths bytes journal report → wrong ≢ journal ++ report)
    → right ≡ wrong → ⊥
another_rule lengths bytes old new right wrong texts result long (journal, report, status, answer, told, put) is both
    taken other same =
    let own = own_status (journal ++ report) status old new (texts.journal + texts.report) result
    (omega (arith, is)) put ∙ is in
    other journal report (texts_by lengths bytes journal report status answer own)
    (sym same ∙ at_start (journal ++ report) old new right status (texts.journal + texts.report) result put
    (λ e. omega (arith, is, e))
    (taken ∙ ap (λ n. take n new) both))
