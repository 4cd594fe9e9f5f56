use Rattle.std.proofs.Common.{rules, Ok}
use Rattle.buckfleet_engine.proofs.run.serving.serve.Goals as goal

pub returns-in_ok-instruction-in-Report : goal.returns-in_ok-instruction-in-Report
returns-in_ok-instruction-in-Report g c = rw c.in-Report.is (record {
  opened = Ok (c.in_ok-instruction-in-Report.instruction, c.in_ok-instruction-in-Report.postings);
  answers = search rules;
  runs = c.run_report_with.ensures;
})
