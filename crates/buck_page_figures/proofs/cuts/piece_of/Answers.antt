use Rattle.std.proofs.Common.{◌≡◌, ◌<◌, subst, sym, refl, ap, ◌∙◌, arith, rules, slice_index, length}
use Rattle.std.proofs.lemmas.Option.{slice_get_within}
use Rattle.std.specs.Prelude.{slice_get, Some}
use Rattle.buck_apt_instruction.specs.Instruction.{IsClass, InstructionParts, AssortmentParts, index_of}
use Rattle.buck_value.specs.Allowed.{kind_in}
use Rattle.buck_value.specs.Volume.{volume, worth_at}
use Rattle.buck_value.proofs.Classes.{allowed_low, class_is_class}
use Rattle.buck_book_postings.proofs.Degrees.{stands}
use Rattle.buck_page_figures.proofs.cuts.piece_of.Goals as goal

pub index-index-requires : goal.index-index-requires
index-index-requires c =
    let class : IsClass c.args.base.now.instruction c.valuation_of_allowed-found.result.class =
    subst (λ k. IsClass c.args.base.now.instruction k) (sym c.valuation_of_allowed-found.ensures.class)
    (class_is_class c.args.base.now.instruction c.args.stem.now c.args.log.now
    c.valuation_of_allowed-found.ensures.valid.valid c.requires.allowed) in
    let same : c.deref.result.now ≡ c.args.base.now.instruction = search rules in
    subst (λ (i : InstructionParts). IsClass i c.valuation_of_allowed-found.result.class) (sym same) class

pub volume_of-volume-requires-clause-diameter : goal.volume_of-volume-requires-clause-diameter
volume_of-volume-requires-clause-diameter c =
    let low =
    allowed_low c.args.base.now.instruction c.args.stem.now c.args.log.now
    c.valuation_of_allowed-found.ensures.valid.valid c.requires.allowed in
    rw c.valuation_of_allowed-found.ensures.top low.2

pub volume_of-volume-requires-clause-length : goal.volume_of-volume-requires-clause-length
volume_of-volume-requires-clause-length c =
    (allowed_low c.args.base.now.instruction c.args.stem.now c.args.log.now
    c.valuation_of_allowed-found.ensures.valid.valid c.requires.allowed).1

pub worth_by-requires : goal.worth_by-requires
worth_by-requires c =
    let low =
    allowed_low c.args.base.now.instruction c.args.stem.now c.args.log.now
    c.valuation_of_allowed-found.ensures.valid.valid c.requires.allowed in
    omega (arith, c.volume_of-volume.ensures.high, low.1)

pub price-requires : goal.price-requires
price-requires c =
    subst (λ k. IsClass c.args.base.now.instruction k) (sym c.valuation_of_allowed-found.ensures.class)
    (class_is_class c.args.base.now.instruction c.args.stem.now c.args.log.now
    c.valuation_of_allowed-found.ensures.valid.valid c.requires.allowed)

pub returns : goal.returns
returns c =
    let i = c.args.base.now.instruction in
    let same : c.deref.result.now ≡ i = search rules in
    let same' : c.deref-2.result.now ≡ i = search rules in
    let a : AssortmentParts = c.index-assortments-log.result in
    let items : c.assortments.result.now ≡ i.assortments = c.assortments.ensures.items
    ∙ ap (λ (x : InstructionParts). x.assortments) same' in
    let there_is : c.args.log.now.assortment < length i.assortments =
    slice_get_within i.assortments c.args.log.now.assortment _ c.requires.allowed.exists in
    let there : slice_get i.assortments c.args.log.now.assortment ≡ Some a =
    stands c.assortments.result.now i.assortments c.args.log.now.assortment a items there_is
    c.index-assortments-log.is in
    let kind : c.price_kind-kind.result ≡ kind_in (slice_get i.assortments c.args.log.now.assortment) =
    c.price_kind-kind.ensures ∙ sym (ap kind_in there) in
    record {
      log = refl;
      class = c.valuation_of_allowed-found.ensures.class;
      exists = subst (λ k. IsClass i k) (sym c.valuation_of_allowed-found.ensures.class)
          (class_is_class i c.args.stem.now c.args.log.now c.valuation_of_allowed-found.ensures.valid.valid
          c.requires.allowed);
      index = c.index-index.ensures.place
          ∙ ap (λ (x : InstructionParts). index_of x c.valuation_of_allowed-found.result.class) same;
      top = c.valuation_of_allowed-found.ensures.top;
      volume = c.volume_of-volume.ensures.value
          ∙ ap (λ d. volume d c.args.log.now.length) c.valuation_of_allowed-found.ensures.top;
      price = refl;
      worth = c.worth_by.ensures
          ∙ ap (λ k. worth_at k (slice_index c.args.prices.now c.index-index.result) c.volume_of-volume.result) kind;
      base_price = c.price.ensures.price;
      base_worth = c.valuation_of_allowed-found.ensures.worth;
    }
