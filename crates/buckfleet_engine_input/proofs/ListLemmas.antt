-- Stem files that are read one after the other.
use Rattle.std.proofs.Common.{◌≡◌, ℕ, zero, suc, ◌+◌, ◌<◌, ◌⊎◌, inl, inr, List, [], ◌∷◌, ◌++◌, length, map, Option, None, Result, Ok, Err, refl, sym, ap, subst, ◌∙◌, arith}
use Rattle.std.specs.Result.{IfErr, IsErrAnd}
use Rattle.std.specs.declared.sync.Arc.{Arc}
use Rattle.std.specs.declared.vec.Vec.{Vec}
use Rattle.std.specs.declared.alloc.Global.{Global}
use Rattle.std.specs.Arc.{arc_value}
use Rattle.std.specs.Prelude.{slice_index_or, sum_by}
use Rattle.std.proofs.lemmas.List.{length-map}
use Rattle.std.proofs.lemmas.List.Sums.{sum_by-cons}
use Rattle.buck_apt.specs.Apt.{apt_of}
use Rattle.buck_stem_shape.specs.Stem.{StemParts}
use Rattle.buck_stem_shape.specs.declared.stem.Stem.{Stem}
use Rattle.buck_stem.specs.Stm.{stm_of}
use Rattle.buck_book_postings.specs.Replies.{stems_of, stems_at}
use Rattle.buckfleet_engine_files.specs.declared.fault.EngineFault.{EngineFault}
use Rattle.buck_fleet_round_robin.specs.Turn.{stems_in_all}
use Rattle.buckfleet_engine_files.specs.declared.fault.EngineFault.TheVariants.{Full, Memory}
use Rattle.buckfleet_engine_files.specs.Reading.{IsAccepted, IsStmFault, Says}
use Rattle.buckfleet_engine_input.specs.Harvest.{AreListsOf, AreNoSeats, HaveTooMany, IsCuttingFault, IsFleetFault, IsListFault}
use Rattle.buckfleet_engine_files.specs.Listed.{AreAccepted}
use Rattle.buckfleet_engine_files.proofs.Runs.{IsNoWrite, file_fault}

-- the stems of a list before the last, and of the last
stems_before : (lists : List (Vec (Arc Stem Global) Global)) (list : Vec (Arc Stem Global) Global) (j : ℕ)
    → j < length lists → stems_at (lists ++ list ∷ []) j ≡ stems_at lists j
stems_before [] list j lt = absurd (omega (arith, lt))
stems_before (x ∷ xs) list zero lt = refl
stems_before (x ∷ xs) list (suc j) lt = stems_before xs list j (omega (arith, lt))

stems_last : (lists : List (Vec (Arc Stem Global) Global)) (list : Vec (Arc Stem Global) Global)
    → stems_at (lists ++ list ∷ []) (length lists) ≡ stems_of list.items
stems_last [] list = refl
stems_last (x ∷ xs) list = stems_last xs list

before_or_last : (j k : ℕ) → j < k + 1 → (j < k) ⊎ (j ≡ k)
before_or_last j k lt = grind (arith, lt)

-- one list more
pub lists_more : (k : ℕ) (stms : List (Option (List ℕ))) (lists new : List (Vec (Arc Stem Global) Global))
    (list : Vec (Arc Stem Global) Global)
    → length lists ≡ k → new ≡ lists ++ list ∷ [] → AreListsOf k stms lists
    → Says stm_of (slice_index_or stms k None) (Ok (stems_of list.items)) → AreListsOf (k + 1) stms new
lists_more k stms lists new list long is made one j lt = elim (before_or_last j k lt) [
  | inl less ↦ (
      let same : stems_at new j ≡ stems_at lists j = ap (λ (l : List (Vec (Arc Stem Global) Global)). stems_at l j) is
      ∙ stems_before lists list j (omega (arith, less, long)) in
      subst (λ (stems : List StemParts). Says stm_of (slice_index_or stms j None) (Ok stems)) (sym same) (made j less))
  | inr last ↦ (
      let same : stems_at new k ≡ stems_of list.items =
      ap (λ (l : List (Vec (Arc Stem Global) Global)). stems_at l k) is
      ∙ ap (λ (n : ℕ). stems_at (lists ++ list ∷ []) n) (sym long) ∙ stems_last lists list in
      subst (λ (n : ℕ). Says stm_of (slice_index_or stms n None) (Ok (stems_at new n))) (sym last)
      (subst (λ (stems : List StemParts). Says stm_of (slice_index_or stms k None) (Ok stems)) (sym same) one))
]

-- the files whose stems are there were accepted
pub accepted : (k : ℕ) (stms : List (Option (List ℕ))) (lists : List (Vec (Arc Stem Global) Global))
    → AreListsOf k stms lists → AreAccepted k stms
accepted k stms lists made j lt = (stems_at lists j, made j lt)

-- the file at a place is the first that has a fault
pub refused_at : (k : ℕ) (stms : List (Option (List ℕ))) (lists : List (Vec (Arc Stem Global) Global))
    (known : Option (List ℕ)) (e : EngineFault) (number : ℕ)
    → k < length stms → AreListsOf k stms lists → known ≡ slice_index_or stms k None → IsStmFault number known e
    → number ≡ k + 1 → IsListFault stms e
refused_at k stms lists known e number lt made is fault from_1 = record {
  place = k;
  exists = lt;
  accepted = accepted k stms lists made;
  is_fault =
      subst (λ (n : ℕ). IsStmFault n (slice_index_or stms k None) e) from_1
      (subst (λ (o : Option (List ℕ)). IsStmFault number o e) is fault);
}

-- memory ran out at a place
pub memory_at : {X : Type 0} (k : ℕ) (stms : List (Option (List ℕ))) (lists : List (Vec (Arc Stem Global) Global))
    (r : Result X EngineFault)
    → k < length stms → AreListsOf k stms lists → IsErrAnd r (λ e. e ≡ Memory) → IfErr r (IsListFault stms)
memory_at k stms lists (Ok x) lt made is = tt
memory_at k stms lists (Err e) lt made is =
    record { place = k; exists = lt; accepted = accepted k stms lists made; is_fault = inr (inl is) }

-- what goes wrong in a fleet comes after all files were accepted
pub cut_fault : {X : Type 0} (apt : Option (List ℕ)) (stms : List (Option (List ℕ)))
    (lists : List (Vec (Arc Stem Global) Global)) (n : ℕ) (r : Result X EngineFault)
    → IsAccepted apt_of apt → n ≡ length stms → AreListsOf n stms lists → IfErr r IsCuttingFault
    → IfErr r (IsFleetFault apt stms)
cut_fault apt stms lists n (Ok x) says all made fault = tt
cut_fault apt stms lists n (Err e) says all made fault =
    inr (inr (says, inr (subst (λ (k : ℕ). AreAccepted k stms) all (accepted n stms lists made), fault)))

-- as many stems as their lists have
stems_all : (lists : List (Vec (Arc Stem Global) Global))
    → sum_by (λ (l : List StemParts). length l) (map (λ (v : Vec (Arc Stem Global) Global). stems_of v.items) lists)
    ≡ stems_in_all lists
stems_all [] = refl
stems_all (x ∷ xs) =
    let lists : List (List StemParts) = map (λ (v : Vec (Arc Stem Global) Global). stems_of v.items) xs in
    let same : length (stems_of x.items) ≡ length x.items = length-map x.items arc_value in
    let rest : sum_by (λ (l : List StemParts). length l) lists ≡ stems_in_all xs = stems_all xs in
    let both : length (stems_of x.items) + sum_by (λ (l : List StemParts). length l) lists
    ≡ length x.items + stems_in_all xs = omega (arith, same, rest) in
    sum_by-cons (λ (l : List StemParts). length l) (stems_of x.items) lists ∙ both
    ∙ sym (sum_by-cons (λ (v : Vec (Arc Stem Global) Global). length v.items) x xs)

-- lists with too many stems are those of files that have too many
pub too_many : {X : Type 0} (stms : List (Option (List ℕ))) (lists : List (Vec (Arc Stem Global) Global)) (n : ℕ)
    (r : Result X EngineFault)
    → length lists ≡ length stms → n ≡ length stms → AreListsOf n stms lists
    → IfErr r (λ fault. fault ≡ Full → 1000000 < stems_in_all lists)
    → IfErr r (λ fault. fault ≡ Full → HaveTooMany stms)
too_many stms lists n (Ok x) long all made full = tt
too_many stms lists n (Err e) long all made full = λ is. record {
  stems = map (λ (v : Vec (Arc Stem Global) Global). stems_of v.items) lists;
  number = length-map lists (λ (v : Vec (Arc Stem Global) Global). stems_of v.items) ∙ long;
  stms_say = λ k lt. made k (omega (arith, lt, all));
  many = omega (arith, full is, stems_all lists);
}

-- what is wrong with the files of a fleet is no write fault
pub fleet_fault : (apt : Option (List ℕ)) (stms : List (Option (List ℕ))) (fault : EngineFault)
    → IsFleetFault apt stms fault → IsNoWrite fault
fleet_fault apt stms fault (inl seats) = subst IsNoWrite (sym seats.1) tt
fleet_fault apt stms fault (inr (inl a)) = file_fault _ _ _ _ fault (λ why. tt) a
fleet_fault apt stms fault (inr (inr (accepted, inl list))) = file_fault _ _ _ _ fault (λ why. tt) list.is_fault
fleet_fault apt stms fault (inr (inr (accepted, inr (all, inl full)))) = subst IsNoWrite (sym full) tt
fleet_fault apt stms fault (inr (inr (accepted, inr (all, inr (inl memory))))) = subst IsNoWrite (sym memory) tt
fleet_fault apt stms fault (inr (inr (accepted, inr (all, inr (inr close))))) = subst IsNoWrite (sym close.1) tt

-- as many seats as files
pub of_files : {F : Type 0} (held : F → Option (List ℕ)) (files : List F) → AreNoSeats (length (map held files))
    → AreNoSeats (length files)
of_files held files none = subst AreNoSeats (length-map files held) none
