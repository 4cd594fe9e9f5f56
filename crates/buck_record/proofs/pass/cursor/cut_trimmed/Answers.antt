use Rattle.buck_record.proofs.CursorLemmas.{is_cut}
use Rattle.buck_record.proofs.pass.cursor.cut_trimmed.Goals as goal

pub returns : goal.returns
returns c = is_cut c.args.text.now _ _ _ c.cut_part.ensures.part c.cut_part.ensures.left c.trim.ensures
