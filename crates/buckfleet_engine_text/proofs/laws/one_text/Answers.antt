use Rattle.buckfleet_engine_text.specs.Bucking.{base_sheet}
use Rattle.buckfleet_engine_text.proofs.Determined.{one_text_under}
use Rattle.buckfleet_engine_text.proofs.laws.one_text.Goals as goal

pub returns : goal.returns
returns c i stems a b p q = one_text_under (base_sheet i) stems a b p q
