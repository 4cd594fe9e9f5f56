-- What is misused isn't answered as if it could be used.
use Rattle.std.proofs.Common.{◌≡◌, ◌≢◌, ◌<◌, ℕ, ◌+◌, List, ◌++◌, length, sum, inl, inr, ◌∙◌, arith}
use Rattle.std.proofs.lemmas.Option.{none-some}
use Rattle.buck_rule.specs.declared.named.NamedRule.{NamedRule}
use Rattle.buck_c_calls.specs.declared.turns.Texts.{Texts}
use Rattle.buck_c_calls.specs.Room.{IsPut}
use Rattle.buck_c_calls.specs.Pages.{IsListed}
use Rattle.buck_c_calls.specs.Turns.{ArePut, AreUsed, IsTurned}
use Rattle.wrong_calls.proofs.Fits.{own_status, never_of}

listed_0 : (table : ℕ) (apt journal : List ℕ) → 5 < table → (text : List ℕ) (status : ℕ)
    → IsListed table apt journal text status
    → status ≡ 0 → ⊥
listed_0 table apt journal lt text status (inl misused) is = omega (arith, misused.2, is)
listed_0 table apt journal lt text status (inr listed) is = omega (arith, listed.0, lt)

-- no table of a greater number than 5 is put
pub never_listed : (table : ℕ) (apt journal old new : List ℕ) (written result : ℕ) → 5 < table
    → IsPut (IsListed table apt journal) old new written result → result ≡ 0 → ⊥
never_listed table apt journal old new written result lt put is =
    never_of (IsListed table apt journal) old new written result 0 (omega arith) (listed_0 table apt journal lt) put is

turned_0 : (rule : ℕ) (lengths bytes journal report : List ℕ) (status : ℕ)
    → ((named : NamedRule) → AreUsed rule named lengths bytes → ⊥)
    → IsTurned rule lengths bytes journal report status → status ≡ 0 → ⊥
turned_0 rule lengths bytes journal report status never (inl misused) is = omega (arith, misused.3, is)
turned_0 rule lengths bytes journal report status never (inr (named, used, told)) is = never named used

never_turned : (rule : ℕ) (lengths bytes old new : List ℕ) (texts : Texts) (result : ℕ)
    → ((named : NamedRule) → AreUsed rule named lengths bytes → ⊥)
    → ArePut (IsTurned rule lengths bytes) old new texts result → result ≡ 0 → ⊥
never_turned rule lengths bytes old new texts result never (journal, report, status, answer, told, put) is =
    turned_0 rule lengths bytes journal report status never answer
    (own_status (journal ++ report) status old new (texts.journal + texts.report) result (omega (arith, is)) put ∙ is)

-- nothing is cut whose lengths aren't those of the bytes
pub other_lengths : (rule : ℕ) (lengths bytes old new : List ℕ) (texts : Texts) (result : ℕ)
    → sum lengths ≢ length bytes
    → ArePut (IsTurned rule lengths bytes) old new texts result → result ≡ 0 → ⊥
other_lengths rule lengths bytes old new texts result differ put is =
    never_turned rule lengths bytes old new texts result (λ named used. differ used.2) put is

-- nor by a rule of the number 4
pub no_rule : (lengths bytes old new : List ℕ) (texts : Texts) (result : ℕ)
    → ArePut (IsTurned 4 lengths bytes) old new texts result → result ≡ 0 → ⊥
no_rule lengths bytes old new texts result put is =
    never_turned 4 lengths bytes old new texts result (λ named used. none-some named used.0) put is
