use Rattle.std.proofs.Common.{rules, Ok, refl}
use Rattle.buckfleet_live.proofs.ServedLemmas.{unopened}
use Rattle.buckfleet_live.proofs.serving.serve_live.Goals as goal

pub returns-in_err-own : goal.returns-in_err-own
returns-in_err-own g c = record {
  opened = Ok (c.in_ok-apt.apt, c.in_ok-apt.field-0-1.items);
  between = c.open_inputs.new.opener;
  answers = search rules;
  runs = (
    Ok c.in_ok-journal.journal,
    c.in_ok-journal.ensures,
    unopened g.O.Made.Write.contents c.in_ok-journal.journal c.args.task.now
        (g.O.File.Read.remaining c.in_ok-apt.apt) (g.R.Read.remaining c.args.input.now) _
        (g.W.Write.contents c.args.out.now) c.in_err-own.field-0.0 _
        c.from_residual-in_err-own.ensures.1 c.in_err-own.ensures.refused refl,
  );
}

pub returns : goal.returns
returns g c = record {
  opened = Ok (c.in_ok-apt.apt, c.in_ok-apt.field-0-1.items);
  between = c.open_inputs.new.opener;
  answers = search rules;
  runs = (
    Ok c.in_ok-journal.journal,
    c.in_ok-journal.ensures,
    c.live_made.ensures (g.O.File.Read.remaining c.in_ok-apt.apt) c.in_ok-own.ensures.ok,
  );
}
