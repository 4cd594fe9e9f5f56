-- What files say, and why they come to nothing.
use Rattle.std.proofs.Common.{◌≡◌, ℕ, ◌+◌, ◌<◌, ◌≤◌, min, inl, inr, List, length, Option, Some, None, Result, Ok, Err, IfErr, IfOk, map, refl, sym, ap, subst, ◌∙◌, arith}
use Rattle.std.specs.Result.{IsErrAnd}
use Rattle.std.specs.declared.sync.Arc.{Arc}
use Rattle.std.specs.declared.vec.Vec.{Vec}
use Rattle.std.specs.declared.alloc.Global.{Global}
use Rattle.buck_apt.specs.Apt.{apt_of}
use Rattle.std.proofs.lemmas.List.{get_or_default, length-map}
use Rattle.buck_apt_instruction.specs.Instruction.{InstructionParts}
use Rattle.buck_apt_instruction.specs.Wanted.{MayBeWanted}
use Rattle.buck_book_postings.specs.Targets.{AreTargets}
use Rattle.buck_stem_shape.specs.declared.stem.Stem.{Stem}
use Rattle.buck_fleet_round_robin.specs.Turn.{stems_in_all}
use Rattle.buckfleet_engine_files.specs.declared.fault.EngineFault.{EngineFault}
use Rattle.buckfleet_engine_files.specs.declared.fault.EngineFault.TheVariants.{Full, Seats}
use Rattle.buckfleet_engine_input.specs.declared.lists.Input.{Input}
use Rattle.buckfleet_engine_input.specs.Harvest.{AreListsOf, AreNoSeats, HaveTooMany, IsFleetFault}
use Rattle.buckfleet_engine_files.specs.Reading.{Says}
use Rattle.buckfleet_engine_input.proofs.ListLemmas.{accepted, too_many}
use Rattle.buckfleet_terms_files.specs.declared.fault.TermsFault.{TermsFault}
use Rattle.buckfleet_terms_files.specs.declared.fault.TermsFault.TheVariants.{Run}
use Rattle.buckfleet_terms_files.specs.Reading.{AnswersMore, IsTargetsFileFault}
use Rattle.buckfleet_engine_files.specs.Opening.{AnswersInputs}
use Rattle.buckfleet_trial.specs.declared.reading.Opened.{Opened}
use Rattle.buckfleet_trial.specs.Inputs.{AnswersFiles, IsInputFault, SaysInput, held_with}
use Rattle.buckfleet_trial.specs.Running.{in_terms}

-- there are 1 to 64 stem files, or not
pub no_crew : {X : Type 0} (n : ℕ) → (0 < n) × (n ≤ 64) → AreNoSeats n → X
no_crew n (some, few) (inl none) = absurd (omega (arith, some, none))
no_crew n (some, few) (inr many) = absurd (omega (arith, few, many))

-- an instruction and stems
pub says_input : (apt : Option (List ℕ)) (stms : List (Option (List ℕ))) (n : ℕ) (i : InstructionParts)
    (lists : List (Vec (Arc Stem Global) Global)) → (0 < n) × (n ≤ 64) → n ≡ length stms → Says apt_of apt (Ok i)
    → length lists ≡ n → AreListsOf n stms lists → SaysInput apt stms None i lists
says_input apt stms n i lists crew same says long made = record {
  crew = subst (λ (k : ℕ). (0 < k) × (k ≤ 64)) same crew;
  own = i;
  apt_says = says;
  one_each = long ∙ same;
  stms_say = subst (λ (k : ℕ). AreListsOf k stms lists) same made;
  wanted = refl;
}

-- there is no room for the stems
pub room_fault : (apt : Option (List ℕ)) (stms : List (Option (List ℕ))) (i : InstructionParts)
    (lists : List (Vec (Arc Stem Global) Global)) (fault : EngineFault) → SaysInput apt stms None i lists → fault ≡ Full
    → IsFleetFault apt stms fault
room_fault apt stms i lists fault says full =
    inr (inr ((says.own, says.apt_says), inr (accepted (length stms) stms lists says.stms_say, inl full)))

pub room_full : (apt : Option (List ℕ)) (stms : List (Option (List ℕ))) (i : InstructionParts)
    (lists : List (Vec (Arc Stem Global) Global)) (fault : EngineFault) → SaysInput apt stms None i lists
    → 1000000 < stems_in_all lists → fault ≡ Full → HaveTooMany stms
room_full apt stms i lists fault says many =
    too_many {X = Unit {0}} stms lists (length stms) (Err fault) says.one_each refl says.stms_say (λ _e. many)

-- targets that are valid may be wanted
pub valid_wanted : (i : InstructionParts) (ts slice : List ℕ) → slice ≡ ts → AreTargets i ts → MayBeWanted i slice
valid_wanted i ts slice same h = subst (λ (l : List ℕ). MayBeWanted i l) (sym same) (record {
  one_each = h.one_each;
  low = λ k d lt. omega (arith, h.low k lt, get_or_default ts k d 0 lt);
  low_sums = h.low_sums;
})

-- the stems come to nothing
pub stems_fault : {X Y F : Type 0} (held : F → Option (List ℕ)) (apt : Option (List ℕ)) (shown items : List F)
    (targets : Option (Option (List ℕ) × ℕ)) (made : Result X EngineFault) (fault : TermsFault)
    (r : Result Y TermsFault) → shown ≡ items → Err fault ≡ in_terms made
    → (AreNoSeats (length shown) → IsErrAnd made (λ why. why ≡ Seats)) → IfErr made (IsFleetFault apt (map held shown))
    → IfErr made (λ why. why ≡ Full → HaveTooMany (map held shown)) → IsErrAnd r (λ x. x ≡ fault)
    → IfErr r (IsInputFault apt (map held items) targets)
stems_fault held apt shown items targets made fault (Ok y) same is seats refused full err = tt
stems_fault held apt shown items targets (Ok x) fault (Err e) same is seats refused full err = absurd (cc is)
stems_fault {X} {Y} {F} held apt shown items targets (Err why) fault (Err e) same is seats refused full err =
    let why_is : fault ≡ Run why = cc is in
    subst (λ (l : List F). IsInputFault apt (map held l) targets e) same (record {
      seats = λ none. err ∙ why_is ∙ ap Run (seats (subst AreNoSeats (length-map shown held) none));
      cause = inl (why, err ∙ why_is, refused, full);
    })

-- what was read, if a fault would be one of a run
pub read_says : (apt : Option (List ℕ)) (stms : List (Option (List ℕ))) (made : Result Input EngineFault)
    (input : Input) → Ok input ≡ in_terms made
    → IfOk made (λ x. SaysInput apt stms None x.instruction x.lists.items)
    → SaysInput apt stms None input.instruction input.lists.items
read_says apt stms (Ok x) input is says =
    let same : x ≡ input = cc is in
    subst (λ (y : Input). SaysInput apt stms None y.instruction y.lists.items) same says
read_says apt stms (Err why) input is says = absurd (cc is)

-- and how many stems it has
pub read_few : (made : Result Input EngineFault) (input : Input) → Ok input ≡ in_terms made
    → IfOk made (λ x. stems_in_all x.lists.items ≤ 1000000) → stems_in_all input.lists.items ≤ 1000000
read_few (Ok x) input is few =
    let same : x ≡ input = cc is in
    subst (λ (y : Input). stems_in_all y.lists.items ≤ 1000000) same few
read_few (Err why) input is few = absurd (cc is)

-- the file of targets does
pub targets_fault : (apt : Option (List ℕ)) (stms : List (Option (List ℕ))) (file : Option (List ℕ)) (number : ℕ)
    (i : InstructionParts) (lists : List (Vec (Arc Stem Global) Global)) (fault : TermsFault)
    → SaysInput apt stms None i lists → stems_in_all lists ≤ 1000000 → IsTargetsFileFault number i file fault
    → IsInputFault apt stms (Some (file, number)) fault
targets_fault apt stms file number i lists fault says few is = record {
  seats = no_crew (length stms) says.crew;
  cause = inr (record {
    own = says.own;
    apt_says = says.apt_says;
    lists = lists;
    one_each = says.one_each;
    stms_say = says.stms_say;
    few = few;
    is_fault = subst (λ (x : InstructionParts). IsTargetsFileFault number x file fault) says.wanted is;
  });
}

pub targets_refused : {Y F : Type 0} (held : F → Option (List ℕ)) (apt : Option (List ℕ)) (shown items : List F)
    (targets : Option (F × ℕ)) (reader : F) (file : ℕ) (i : InstructionParts)
    (lists : List (Vec (Arc Stem Global) Global)) (r : Result Y TermsFault) → targets ≡ Some (reader, file)
    → shown ≡ items → SaysInput apt (map held shown) None i lists → stems_in_all lists ≤ 1000000
    → IfErr r (IsTargetsFileFault file i (held reader))
    → IfErr r (IsInputFault apt (map held items) (held_with held targets))
targets_refused held apt shown items targets reader file i lists (Ok y) there same says few is = tt
targets_refused {Y} {F} held apt shown items targets reader file i lists (Err e) there same says few is =
    subst (λ (t : Option (F × ℕ)). IsInputFault apt (map held items) (held_with held t) e) (sym there)
    (subst (λ (l : List F). IsInputFault apt (map held l) (Some (held reader, file)) e) same
    (targets_fault apt (map held shown) (held reader) file i lists e says few is))

-- there is no room, of an answer
pub room_refused : {X : Type 0} (apt : Option (List ℕ)) (stms : List (Option (List ℕ))) (i : InstructionParts)
    (lists : List (Vec (Arc Stem Global) Global)) (fault : EngineFault) (r : Result X EngineFault)
    → SaysInput apt stms None i lists → fault ≡ Full → IsErrAnd r (λ x. x ≡ fault) → IfErr r (IsFleetFault apt stms)
room_refused apt stms i lists fault (Ok x) says full is = absurd is
room_refused apt stms i lists fault (Err e) says full is = room_fault apt stms i lists e says (is ∙ full)

pub room_many : {X : Type 0} (apt : Option (List ℕ)) (stms : List (Option (List ℕ))) (i : InstructionParts)
    (lists slice : List (Vec (Arc Stem Global) Global)) (r : Result X EngineFault)
    → SaysInput apt stms None i lists → slice ≡ lists → 1000000 < stems_in_all slice
    → IfErr r (λ why. why ≡ Full → HaveTooMany stms)
room_many apt stms i lists slice (Ok x) says same many = tt
room_many apt stms i lists slice (Err e) says same many =
    room_full apt stms i lists e says (subst (λ l. 1000000 < stems_in_all l) same many)

-- the file of targets can't be opened
pub not_opened : {O F : Type 0} (opens : O → List ℕ → Option F → O → Type 0) (old between new : O) (apt : List ℕ)
    (stms : List (List ℕ)) (targets : Option (List ℕ)) (n : ℕ) (opened : F × List F) (fault : EngineFault)
    (r : Result (Opened F) EngineFault) → IsErrAnd r (λ x. x ≡ fault) → n ≡ length stms + 1
    → AnswersInputs opens old between apt stms (Ok opened)
    → AnswersMore opens between new targets (min n 4294967295) (Err fault)
    → AnswersFiles opens old new apt stms targets r
not_opened opens old between new apt stms targets n opened fault (Ok files) err number inputs more = absurd err
not_opened opens old between new apt stms targets n opened fault (Err e) err number inputs more = inr (record {
  between = between;
  opened = opened;
  inputs = inputs;
  more =
      subst (λ (x : EngineFault). AnswersMore opens between new targets (min (length stms + 1) 4294967295) (Err x))
      (sym err)
      (subst (λ (k : ℕ). AnswersMore opens between new targets (min k 4294967295) (Err fault)) number more);
})
