use Rattle.std.proofs.Common.{◌≢◌, IfErr, Result, subst}
use Rattle.buck_book_journal.specs.declared.replay_fault.ReplayFault.TheVariants.{Memory}
use Rattle.buckfleet_engine_files.specs.declared.several.Unlawful.{Unlawful}
use Rattle.buckfleet_engine_files.specs.Several.{IsFirstUnlawful}
use Rattle.buckfleet_engine_page.specs.Viewing.{AppendsPage}
use Rattle.buckfleet_engine_page.proofs.Several.{unlawful_shown}
use Rattle.buckfleet_engine_page.proofs.showing.show_page.Goals as goal

pub returns : goal.returns
returns g c =
    let i = c.args.several.now.instruction.value in
    let js = c.args.several.now.journals.items in
    let old = g.W.Write.contents c.args.writer.now in
    let new = g.W.Write.contents c.write_unlawful.new.writer in
    let first =
    subst (λ (r : Result (Unit {0}) Unlawful). IfErr r (λ u. u.fault ≢ Memory → IsFirstUnlawful i js u.place u.fault))
    c.in-Err.is c.requires.refused c.in_default.not-Memory in
    unlawful_shown (AppendsPage old new) (AppendsPage old new) i js old new c.in-Err.unlawful.place
    c.in-Err.unlawful.fault c.write_unlawful.result first c.write_unlawful.ensures
