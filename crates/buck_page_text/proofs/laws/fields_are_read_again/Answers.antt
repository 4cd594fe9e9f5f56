use Rattle.buck_page_text.proofs.Fields.{field_again}
use Rattle.buck_page_text.proofs.laws.fields_are_read_again.Goals as goal

pub returns : goal.returns
returns c = field_again c.args.name.now c.args.rest.now
