use Rattle.std.proofs.Common.{◌≡◌, ◌≤◌, ◌-◌, length, drop}
use Rattle.std.specs.Vec.{vec_len, vec_capacity}
use Rattle.std.specs.Str.Parse.{digits_value}
use Rattle.buck_record.specs.inner.Front.{adds_on, span, HasRoom}
use Rattle.buck_record.proofs.NumberLemmas.{AreDigits}
use Rattle.buck_record.proofs.pass.kept_numbers.append_words.Given as goal

-- the numbers before the word are added, the word's bytes so far are digits, and there is room for it and what follows
abbrev pub invariant-loop-i : goal.invariant-loop-i
invariant-loop-i l = record {
  begun : l.start ≤ l.i;
  adding : adds_on l.out.items (drop l.start l.text) ≡ adds_on l.initial.out.items l.text;
  digits : AreDigits (span l.text l.start l.i);
  value : l.value ≡ digits_value 10 (span l.text l.start l.i);
  small : l.value ≤ 4294967295;
  room : HasRoom (vec_len l.out) (vec_capacity l.out) (length l.text - l.start);
}
