use Rattle.std.proofs.Common.{sym, arith}
use Rattle.std.proofs.lemmas.Slice.Zip.{AllZip-long}
use Rattle.buckfleet_terms_files.specs.Targets.{IsFitting}
use Rattle.buckfleet_terms_files.proofs.Fitting.{each_fits, one_more}
use Rattle.buckfleet_terms_files.proofs.wanted.are_fitting.Goals as goal

pub returns-then-lists-assortments : goal.returns-then-lists-assortments
returns-then-lists-assortments c = (
  λ is. cc,
  λ fits. absurd (c.if-lists-assortments.true
      (sym (AllZip-long IsFitting c.args.lists.now c.args.assortments.now fits))),
)

pub returns-then-len-classes : goal.returns-then-len-classes
returns-then-len-classes c = (
  λ is. cc,
  λ fits.
      let each = each_fits c.args.lists.now c.args.assortments.now c.loop-at.at c.index-lists-at.result
      c.index-assortments-at.result fits c.loop-at-test.true in
      absurd (c.if-len-classes.true (cc (each, c.classes.ensures.number))),
)

pub loop-at-preserved : goal.loop-at-preserved
loop-at-preserved c =
    one_more c.args.lists.now c.args.assortments.now c.loop-at.at c.index-lists-at.result c.index-assortments-at.result
    c.loop-at-test.true (omega arith) (cc c.classes.ensures.number) c.loop-at.invariant
