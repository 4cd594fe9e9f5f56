-- Reading the lists of targets one after the other, as a loop does.
use Rattle.std.proofs.Common.{◌≡◌, ◌≢◌, ℕ, ◌+◌, ◌<◌, ◌≤◌, length, get_or, drop, List, [], ◌∷◌, ◌++◌, Result, Ok, Err, IfErr, IfOk, refl, sym, ap, subst, ◌∙◌, add-one, drop-cons, append_assoc}
use Rattle.std.specs.Result.{IsErrAnd}
use Rattle.std.specs.List.{concat}
use Rattle.std.specs.declared.vec.Vec.{Vec}
use Rattle.std.proofs.lemmas.List.{append-nil, drop_all}
use Rattle.buck_record.specs.Item.{ItemParts}
use Rattle.buck_record.specs.Reading.{Gives, listed, with_fault, with_front}
use Rattle.buck_record.specs.declared.fault.RecordFault.{RecordFault}
use Rattle.buck_record.specs.declared.fault.RecordFault.TheVariants.{Head as NoHead}
use Rattle.buck_record.specs.bytes.Record.{items_of, numbers_of}
use Rattle.buck_record.specs.checking.Check.{◌>>=◌}
use Rattle.buck_record.specs.checking.Table.{only_in}
use Rattle.buck_apt_instruction.specs.declared.slots.TheConstants.{TARGETS}
use Rattle.buck_apt_instruction.specs.Instruction.{InstructionParts}
use Rattle.buckfleet_terms_files.specs.declared.fault.TargetsFault.{TargetsFault}
use Rattle.buckfleet_terms_files.specs.declared.fault.TargetsFault.TheVariants.{Count, Range, Sum, Head, Digits, Memory}
use Rattle.buckfleet_terms_files.specs.Targets.{IsRefused, all_of, lists_from, lists_of}

-- the numbers of one list, and then the others
abbrev first_then : Result (List ℕ) TargetsFault → Result (List (List ℕ)) TargetsFault
    → Result (List (List ℕ)) TargetsFault
first_then first others = do
  numbers ← first
  lists ← others
  Ok (numbers ∷ lists)

front_of : (held : List (List ℕ)) (numbers : List ℕ) (others : Result (List (List ℕ)) TargetsFault)
    → with_front held (first_then (Ok numbers) others) ≡ with_front (held ++ numbers ∷ []) others
front_of held numbers (Ok lists) = ap (λ ls. Ok ls) (sym (append_assoc held (numbers ∷ []) lists))
front_of held numbers (Err e) = refl

-- the list at a place is read, and then the others
from_drop : (k : ℕ) (items : List ItemParts) (item : ItemParts) → k < length items → item ≡ get_or items k item
    → lists_from k (drop k items)
    ≡ first_then (with_fault (λ place. Digits k place) (numbers_of item.rest))
    (lists_from (k + 1) (drop (k + 1) items))
unfolding lists_from
from_drop k items item lt is =
    let here : drop k items ≡ get_or items k item ∷ drop (k + 1) items = rw add-one (drop-cons items k item lt) in
    ap (lists_from k) (here ∙ ap (λ x. x ∷ drop (k + 1) items) (sym is))

pub read_more : (held : List (List ℕ)) (k : ℕ) (items : List ItemParts) (item : ItemParts) (numbers : List ℕ)
    → k < length items → item ≡ get_or items k item
    → with_fault (λ place. Digits k place) (numbers_of item.rest) ≡ Ok numbers
    → with_front held (lists_from k (drop k items))
    ≡ with_front (held ++ numbers ∷ []) (lists_from (k + 1) (drop (k + 1) items))
read_more held k items item numbers lt here is =
    ap (with_front held)
    (from_drop k items item lt here ∙ ap (λ first. first_then first (lists_from (k + 1) (drop (k + 1) items))) is)
    ∙ front_of held numbers (lists_from (k + 1) (drop (k + 1) items))

pub read_stop : (held : List (List ℕ)) (k : ℕ) (items : List ItemParts) (item : ItemParts) (e : TargetsFault)
    → k < length items → item ≡ get_or items k item
    → with_fault (λ place. Digits k place) (numbers_of item.rest) ≡ Err e
    → with_front held (lists_from k (drop k items)) ≡ Err e
read_stop held k items item e lt here is =
    ap (with_front held)
    (from_drop k items item lt here ∙ ap (λ first. first_then first (lists_from (k + 1) (drop (k + 1) items))) is)

-- all are read
pub read_all : (held : List (List ℕ)) (k : ℕ) (items : List ItemParts) → length items ≤ k
    → with_front held (lists_from k (drop k items)) ≡ Ok held
unfolding lists_from
read_all held k items le =
    ap (λ rest. with_front held (lists_from k rest)) (drop_all k items le) ∙ ap (λ ls. Ok ls) (append-nil held)

-- the items that stand among those of targets, and that one has no head
items_are : (r : Result (List ItemParts) ℕ) (items : List ItemParts) → with_fault (λ k. NoHead k) r ≡ Ok items
    → r ≡ Ok items
items_are (Ok xs) items is = cc
items_are (Err place) items is = cc

no_head : (r : Result (List ItemParts) ℕ) (fault : RecordFault) (item : ℕ) → fault ≡ NoHead item
    → with_fault (λ k. NoHead k) r ≡ Err fault → r ≡ Err item
no_head (Ok xs) fault item is refused = cc
no_head (Err place) fault item is refused = cc

pub lists_are : (bytes : List ℕ) (items : List ItemParts)
    → with_fault (λ k. NoHead k) (only_in (TARGETS ∷ []) (items_of bytes)) ≡ Ok items
    → lists_of bytes ≡ lists_from 0 items
unfolding lists_of
lists_are bytes items is =
    ap (λ (r : Result (List ItemParts) ℕ). with_fault (λ k. Head k) r >>= lists_from 0) (items_are _ items is)

pub lists_stop : (bytes : List ℕ) (fault : RecordFault) (item : ℕ) → fault ≡ NoHead item
    → with_fault (λ k. NoHead k) (only_in (TARGETS ∷ []) (items_of bytes)) ≡ Err fault
    → lists_of bytes ≡ Err (Head item)
unfolding lists_of
lists_stop bytes fault item is refused =
    ap (λ (r : Result (List ItemParts) ℕ). with_fault (λ k. Head k) r >>= lists_from 0)
    (no_head _ fault item is refused)

-- what was refused is refused by the caller
pub passed : {X A E : Type 0} (memory e : E) (r : Result (Vec X A) E) (read : Result (List X) E)
    → IsErrAnd r (λ fault. fault ≡ e) → (e ≢ memory → read ≡ Err e) → Gives memory (listed r) read
passed memory e (Ok v) read is refused = absurd is
passed memory e (Err fault) read is refused =
    λ other. refused (λ same. other (is ∙ same)) ∙ ap (λ f. Err f) (sym is)

-- all numbers
pub all_are : {A : Type 0} (bytes : List ℕ) (lists : List (List ℕ)) (r : Result (Vec ℕ A) TargetsFault)
    → lists_of bytes ≡ Ok lists → IfOk r (λ all. all.items ≡ concat lists) → IfErr r (λ fault. fault ≡ Memory)
    → Gives Memory (listed r) (all_of bytes)
unfolding all_of
all_are bytes lists (Ok all) are is memory =
    ap (λ (read : Result (List (List ℕ)) TargetsFault). read >>= (λ ls. Ok (concat ls))) are ∙ ap (λ ns. Ok ns) (sym is)
all_are bytes lists (Err fault) are is memory = λ other. absurd (other memory)

pub all_stop : (bytes : List ℕ) (e : TargetsFault) → lists_of bytes ≡ Err e → all_of bytes ≡ Err e
unfolding all_of
all_stop bytes e refused =
    ap (λ (read : Result (List (List ℕ)) TargetsFault). read >>= (λ ls. Ok (concat ls))) refused

-- lists are refused for these reasons alone
abbrev IsUnread : TargetsFault → Type 0
IsUnread (Head item) = Unit {0}
IsUnread (Digits list place) = Unit {0}
IsUnread _ = ⊥

then_unread : (k : ℕ) (first : Result (List ℕ) ℕ) (others : Result (List (List ℕ)) TargetsFault)
    → IfErr others IsUnread → IfErr (first_then (with_fault (λ place. Digits k place) first) others) IsUnread
then_unread k (Ok numbers) (Ok lists) named = tt
then_unread k (Ok numbers) (Err e) named = named
then_unread k (Err place) others named = tt

from_unread : (k : ℕ) (items : List ItemParts) → IfErr (lists_from k items) IsUnread
unfolding lists_from
from_unread k [] = tt
from_unread k (item ∷ more) = then_unread k (numbers_of item.rest) (lists_from (k + 1) more) (from_unread (k + 1) more)

items_unread : (r : Result (List ItemParts) ℕ) → IfErr (with_fault (λ k. Head k) r >>= lists_from 0) IsUnread
items_unread (Ok items) = from_unread 0 items
items_unread (Err place) = tt

unread : (bytes : List ℕ) (e : TargetsFault) → lists_of bytes ≡ Err e → IsUnread e
unfolding lists_of
unread bytes e is =
    subst (λ (r : Result (List (List ℕ)) TargetsFault). IfErr r IsUnread) is
    (items_unread (only_in (TARGETS ∷ []) (items_of bytes)))

-- so a file is refused for them
refused_by : (i : InstructionParts) (bytes : List ℕ) (e : TargetsFault) → (e ≢ Memory → lists_of bytes ≡ Err e)
    → IsRefused i bytes e
refused_by i bytes Count is = absurd (unread bytes Count (is (λ same. cc)))
refused_by i bytes (Range at) is = absurd (unread bytes (Range at) (is (λ same. cc)))
refused_by i bytes (Sum at) is = absurd (unread bytes (Sum at) (is (λ same. cc)))
refused_by i bytes (Head item) is = is (λ same. cc)
refused_by i bytes (Digits list place) is = is (λ same. cc)
refused_by i bytes Memory is = tt

pub refused_for : {X : Type 0} (i : InstructionParts) (bytes : List ℕ) (e : TargetsFault) (r : Result X TargetsFault)
    → IsErrAnd r (λ fault. fault ≡ e) → (e ≢ Memory → lists_of bytes ≡ Err e) → IfErr r (IsRefused i bytes)
refused_for i bytes e (Ok x) is refused = tt
refused_for i bytes e (Err fault) is refused = subst (IsRefused i bytes) (sym is) (refused_by i bytes e refused)
