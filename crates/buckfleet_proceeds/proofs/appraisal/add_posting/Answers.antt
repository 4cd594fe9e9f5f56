use Rattle.buckfleet_proceeds.proofs.Passed.{passed_more}
use Rattle.buckfleet_proceeds.proofs.appraisal.add_posting.Goals as goal

pub returns-clause-passed : goal.returns-clause-passed
returns-clause-passed c = λ ps passed.
    passed_more c.args.planner.now.instruction ps c.args.posting.now c.harvester.result c.in_ok-account.account
    c.args.appraisal.now _ c.harvester.ensures c.in_ok-account.ensures.accounted c.plus-appraisal.ensures
    c.in_ok-add_own.ensures.own c.in_ok-add_own.ensures.others passed
