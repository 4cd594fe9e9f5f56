use Rattle.buckfleet_live.proofs.Words.{◌≡◌, ◌++◌, take, flat_map, codes, stem_text}
use Rattle.buckfleet_live.proofs.request.stem_file.Given as goal

abbrev pub invariant-loop-item : goal.invariant-loop-item
invariant-loop-item l = l.text.items ≡ codes "1 2 STM~" ++ flat_map stem_text (take l.item-index l.items)
