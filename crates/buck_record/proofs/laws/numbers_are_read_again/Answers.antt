use Rattle.std.proofs.Common.{◌≤◌}
use Rattle.std.proofs.lemmas.List.Elements.{recursion_from_All}
use Rattle.buck_record.proofs.RoundLemmas.{numbers_again}
use Rattle.buck_record.proofs.laws.numbers_are_read_again.Goals as goal

pub returns : goal.returns
returns c = λ h. numbers_again c.args.numbers.now (recursion_from_All (λ n. n ≤ 4294967295) c.args.numbers.now h)
