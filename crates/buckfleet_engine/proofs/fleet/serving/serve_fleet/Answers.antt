use Rattle.std.proofs.Common.{rules, refl}
use Rattle.buckfleet_tasks.specs.declared.harvests.Order.TheVariants.{AtOnce, InTurn}
use Rattle.buckfleet_engine.specs.fleet.Running.{IsFleetRun}
use Rattle.buckfleet_engine.specs.inner.Fleet.{AreWritten}
use Rattle.buckfleet_engine_files.specs.Reading.{apt_with}
use Rattle.buckfleet_engine_files.specs.Ruled.{FollowsRule}
use Rattle.buckfleet_engine_files.proofs.Ruled.{follows_rule}
use Rattle.buckfleet_engine.proofs.Runs.{no_texts, texts_written}
use Rattle.buckfleet_engine.proofs.Served.{fleet_ran}
use Rattle.buckfleet_engine_input.proofs.ListLemmas.{of_files}
use Rattle.buckfleet_engine_files.proofs.Made.{made_so, nothing_made}
use Rattle.buckfleet_engine.proofs.fleet.serving.serve_fleet.Goals as goal

pub returns-in_err-closed-in-AtOnce : goal.returns-in_err-closed-in-AtOnce
returns-in_err-closed-in-AtOnce g c =
    let fault = c.in_err-closed-in-AtOnce.ensures in
    let held = g.O.File.Read.remaining in
    fleet_ran g.O.Open.opens g.O.Make.makes held g.O.Made.Write.contents _ c.open_inputs.new.opener _
    c.args.task.now c.in_ok-apt.apt c.in_ok-apt.stems.items _ c.in_ok-journal.journal _ _ _ (search rules) c.in_ok-journal.ensures
    c.as_mut_slice-stems.ensures.value
    (rw c.in-AtOnce.is
    (nothing_made _ _ (λ o. IsFleetRun (apt_with c.args.task.now.settings) AtOnce (FollowsRule c.args.task.now.rule)
    _ _ o _ _ _)
    (λ o kept. no_texts (apt_with c.args.task.now.settings) AtOnce (FollowsRule c.args.task.now.rule) _ _ o _ _ _
    (λ none. fault.seats (of_files held _ none)) c.from_residual-in_err-closed-in-AtOnce.ensures.1
    fault.refused tt kept)))

pub returns-in-AtOnce : goal.returns-in-AtOnce
returns-in-AtOnce g c =
    let cut = c.in_ok-closed-in-AtOnce.ensures in
    let held = g.O.File.Read.remaining in
    fleet_ran g.O.Open.opens g.O.Make.makes held g.O.Made.Write.contents _ c.open_inputs.new.opener _
    c.args.task.now c.in_ok-apt.apt c.in_ok-apt.stems.items _ c.in_ok-journal.journal _ _ _ (search rules) c.in_ok-journal.ensures
    c.as_mut_slice-stems.ensures.value
    (rw c.in-AtOnce.is
    (made_so _ _ (λ o. AreWritten c.parts.result.now o _ _ _)
    (λ o. IsFleetRun (apt_with c.args.task.now.settings) AtOnce (FollowsRule c.args.task.now.rule) _ _ o _ _ _)
    (λ o written. texts_written (apt_with c.args.task.now.settings) AtOnce (FollowsRule c.args.task.now.rule) _ _ o
    _ _ _ _ _ (λ none. cut.seats (of_files held _ none)) cut.ok tt c.parts.ensures written) c.write_made.ensures))

pub returns-in_err-turned-in-InTurn : goal.returns-in_err-turned-in-InTurn
returns-in_err-turned-in-InTurn g c =
    let fault = c.in_err-turned-in-InTurn.ensures in
    let held = g.O.File.Read.remaining in
    fleet_ran g.O.Open.opens g.O.Make.makes held g.O.Made.Write.contents _ c.open_inputs.new.opener _
    c.args.task.now c.in_ok-apt.apt c.in_ok-apt.stems.items _ c.in_ok-journal.journal _ _ _ (search rules) c.in_ok-journal.ensures
    c.as_mut_slice-stems.ensures.value
    (rw c.in-InTurn.is
    (nothing_made _ _ (λ o. IsFleetRun (apt_with c.args.task.now.settings) InTurn (FollowsRule c.args.task.now.rule)
    _ _ o _ _ _)
    (λ o kept. no_texts (apt_with c.args.task.now.settings) InTurn (FollowsRule c.args.task.now.rule) _ _ o _ _ _
    (λ none. fault.seats (of_files held _ none)) c.from_residual-in_err-turned-in-InTurn.ensures.1
    fault.refused fault.full kept)))

pub returns : goal.returns
returns g c =
    let cut = c.in_ok-turned-in-InTurn.ensures in
    let held = g.O.File.Read.remaining in
    fleet_ran g.O.Open.opens g.O.Make.makes held g.O.Made.Write.contents _ c.open_inputs.new.opener _
    c.args.task.now c.in_ok-apt.apt c.in_ok-apt.stems.items _ c.in_ok-journal.journal _ _ _ (search rules) c.in_ok-journal.ensures
    c.as_mut_slice-stems.ensures.value
    (rw c.in-InTurn.is
    (made_so _ _ (λ o. AreWritten c.in_ok-turned-in-InTurn.turned o _ _ _)
    (λ o. IsFleetRun (apt_with c.args.task.now.settings) InTurn (FollowsRule c.args.task.now.rule) _ _ o _ _ _)
    (λ o written. texts_written (apt_with c.args.task.now.settings) InTurn (FollowsRule c.args.task.now.rule) _ _ o
    _ _ _ _ _ (λ none. cut.seats (of_files held _ none)) cut.ok
    (cut.in_turn, follows_rule _ _ _ _ (search rules) cut.ok.lawful cut.given) refl written)
    c.write_made-in-InTurn.ensures))
