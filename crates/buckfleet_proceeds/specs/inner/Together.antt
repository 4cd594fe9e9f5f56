-- What postings come to together, and what is kept of a harvester with one more.
use Rattle.std.specs.Prelude.{◌≡◌, ◌+◌, Option, Some, None}
use Rattle.buckfleet_proceeds.specs.declared.paid.Account.{Account}
use Rattle.buckfleet_proceeds.specs.declared.paid.Paid.{Paid}

-- two of them added
pub record ArePaidTogether (a b p : Paid) : Type 0 where
  pub logs : p.logs ≡ a.logs + b.logs
  pub unbought : p.unbought ≡ a.unbought + b.unbought
  pub volume : p.volume ≡ a.volume + b.volume
  pub worth : p.worth ≡ a.worth + b.worth

pub record AreTogether (a b c : Account) : Type 0 where
  pub stems : c.stems ≡ a.stems + b.stems
  pub cut : ArePaidTogether a.cut b.cut c.cut
  pub best : ArePaidTogether a.best b.best c.best

-- what is kept of a harvester with one posting more
abbrev pub IsAdded : Option Account → Account → Option Account → Type 0
IsAdded before account None = ⊥
IsAdded None account (Some own) = own ≡ account
IsAdded (Some before) account (Some own) = AreTogether before account own
