use Rattle.buckfleet_live.proofs.Words.{◌≡◌, true, false, rules, Ok, Err, Read}
use Rattle.buckfleet_live.proofs.RunLemmas.{ended, stepped, unread, unsaid}
use Rattle.buckfleet_live.proofs.live.answer_all.Goals as goal

pub returns-in_default-clause-run : goal.returns-in_default-clause-run
returns-in_default-clause-run g c = c.requests.invariant.on (Err (Read 1)) _ _ (unread _ _ _)

pub returns-in-Err-clause-run : goal.returns-in-Err-clause-run
returns-in-Err-clause-run g c =
    c.requests.invariant.on (Err c.in-Err.fault) _ _ (unsaid _ _ _ _ _ _ _ _ c.in-Ok.fed _ c.in-Ok.ensures.read
    (rw c.as_slice-held.ensures.value at c.answer-answer.ensures.answered) c.in-Err.ensures)

pub returns-in-Err-clause-given : goal.returns-in-Err-clause-given
returns-in-Err-clause-given g c = λ by. c.answer-answer.ensures.given (c.requests.invariant.given by)

pub returns-then-not-fed-clause-given : goal.returns-then-not-fed-clause-given
returns-then-not-fed-clause-given g c = λ by. c.answer-answer.ensures.given (c.requests.invariant.given by)

pub returns-then-not-fed-clause-run : goal.returns-then-not-fed-clause-run
returns-then-not-fed-clause-run g c =
    let last : c.in-Ok.fed ≡ false = search rules in
    c.requests.invariant.on (Ok tt) c.answer-answer.new.cutter.history (g.W.Write.contents c.say.new.out)
    (ended c.requests.cutter.history c.answer-answer.new.cutter.history (g.R.Read.remaining c.requests.input)
    (g.R.Read.remaining c.read_bytes.new.input) (g.W.Write.contents c.requests.out) (g.W.Write.contents c.say.new.out)
    _ _ (rw last at c.in-Ok.ensures.read)
    (rw (c.as_slice-held.ensures.value, last) at c.answer-answer.ensures.answered) c.in-Ok-say.ensures)

pub requests-preserved : goal.requests-preserved
requests-preserved g c =
    let more : c.in-Ok.fed ≡ true = search rules in record {
      rule = search rules;
      capacity = search rules;
      room = search rules;
      given = λ by. c.answer-answer.ensures.given (c.requests.invariant.given by);
      on = λ outcome after last run. c.requests.invariant.on outcome after last
          (stepped _ _ _ _ _ _ _ _ _ _ outcome (rw more at c.in-Ok.ensures.read)
          (rw (c.as_slice-held.ensures.value, more) at c.answer-answer.ensures.answered) c.in-Ok-say.ensures run);
    }

pub returns-clause-run : goal.returns-clause-run
returns-clause-run g c = c.requests.invariant.on (Err (Read 1)) _ _ (unread _ _ _)
