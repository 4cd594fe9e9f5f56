use Rattle.buck_dp.proofs.Words.{rules, arith, ◌+◌, ◌++◌, ◌≡◌, length, sym, refl}
use Rattle.buck_dp.proofs.OfferLemmas.{all_chosen}
use Rattle.buck_dp.proofs.offering.offer_all.Goals as goal

pub offer_some-requires : goal.offer_some-requires
offer_some-requires c =
    let (p, ch, is, fit) = c.requires.open in
    record { «open» = (p, ch, c.args.first, c.args.top, is, all_chosen is fit refl) }

pub returns-then-top-saturating_add : goal.returns-then-top-saturating_add
returns-then-top-saturating_add c p ch is fit =
    c.offer_some.ensures p ch c.args.first c.args.top is (all_chosen is fit refl)

pub offer_back-requires : goal.offer_back-requires
offer_back-requires c =
    let (p, ch, is, fit) = c.requires.open in
    let parts = c.split_at_mut-reached in
    let front = parts.ensures.front_len in
    let top : length parts.result.0.now + c.args.far ≡ c.args.top = omega (arith, front) in
    let all : parts.result.0.now ++ parts.result.1.now ≡ c.args.values.now = search rules in
    record { «open» = (p, ch, parts.result.0.now, c.args.first, omega (arith, front), rw top fit, rw (top, all) is) }

pub returns : goal.returns
returns c p ch is fit =
    let parts = c.split_at_mut-reached in
    let top : length parts.result.0.now + c.args.far ≡ c.args.top = omega (arith, parts.ensures.front_len) in
    let all : parts.result.0.now ++ parts.result.1.now ≡ c.args.values.now = search rules in
    rw (sym top)
    (c.offer_back.ensures p ch parts.result.0.now c.args.first (omega (arith, parts.ensures.front_len)) (rw top fit)
    (rw (top, all) is))
