use Rattle.std.proofs.Common.{refl, ap, ◌∙◌, arith}
use Rattle.buck_apt_instruction.specs.declared.class.Class.{Class}
use Rattle.buck_apt_instruction.specs.Instruction.{index_of}
use Rattle.buck_value.specs.Sheet.{price_of}
use Rattle.buck_value.proofs.Prices.{price-le}
use Rattle.buck_c_calls.proofs.Logs.{class_is, is_class, low, worth_is}
use Rattle.buck_c_calls.proofs.showing.shown_in.Goals as goal

pub price-price-requires : goal.price-price-requires
price-price-requires c =
    is_class c.args.sheet.now.instruction c.args.stem.now c.args.log.now c.args.assortment.now c.class_in-class.result
    c.instruction-valid.ensures.valid.valid c.requires.there c.requires.allows c.class_in-class.ensures

pub volume_of-requires-clause-diameter : goal.volume_of-requires-clause-diameter
volume_of-requires-clause-diameter c =
    let small = low c.args.sheet.now.instruction c.args.stem.now c.args.log.now c.args.assortment.now
    c.instruction-valid.ensures.valid.valid c.requires.there c.requires.allows in
    omega (arith, c.top_of-top.ensures, small.1)

pub volume_of-requires-clause-length : goal.volume_of-requires-clause-length
volume_of-requires-clause-length c =
    (low c.args.sheet.now.instruction c.args.stem.now c.args.log.now c.args.assortment.now
    c.instruction-valid.ensures.valid.valid c.requires.there c.requires.allows).0

pub worth_of_piece-requires-clause-price : goal.worth_of_piece-requires-clause-price
worth_of_piece-requires-clause-price c =
    rw c.price-price.ensures.price
    (price-le c.args.sheet.now (index_of c.args.sheet.now.instruction c.class_in-class.result)
    c.instruction-valid.ensures.valid)

pub worth_of_piece-requires-clause-cubic : goal.worth_of_piece-requires-clause-cubic
worth_of_piece-requires-clause-cubic c =
    let small = low c.args.sheet.now.instruction c.args.stem.now c.args.log.now c.args.assortment.now
    c.instruction-valid.ensures.valid.valid c.requires.there c.requires.allows in
    omega (arith, c.volume_of.ensures.high, small.0)

pub returns : goal.returns
returns c =
    let sheet = c.args.sheet.now in
    let stem = c.args.stem.now in
    let log = c.args.log.now in
    let class = c.class_in-class.result in
    let is = class_is sheet.instruction stem log c.args.assortment.now class c.requires.there
    c.class_in-class.ensures in
    record {
      start = refl;
      length_is = refl;
      assortment = ap (λ (k : Class). k.assortment) c.class_in-class.ensures;
      row = ap (λ (k : Class). k.row) is;
      column = ap (λ (k : Class). k.column) is;
      top = c.top_of-top.ensures;
      price = c.price-price.ensures.price ∙ ap (λ k. price_of sheet k) is;
      worth = c.worth_of_piece.ensures
          ∙ worth_is sheet stem log c.args.assortment.now class c.price_kind.result c.price-price.result
          c.top_of-top.result
          c.volume_of.result c.requires.there is c.price_kind.ensures c.price-price.ensures.price c.top_of-top.ensures
          c.volume_of.ensures.value;
    }
