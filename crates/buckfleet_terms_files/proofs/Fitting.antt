-- Lists that fit assortments, one by one.
use Rattle.std.proofs.Common.{◌≡◌, ℕ, zero, suc, ◌+◌, ◌<◌, length, get_or, take, List, [], ◌∷◌, ◌++◌, refl, sym, ap, ◌∙◌, arith, append_assoc, length-append}
use Rattle.std.specs.Prelude.{sum_by}
use Rattle.std.specs.List.{concat}
use Rattle.std.proofs.lemmas.List.{append-nil, take_more}
use Rattle.std.proofs.lemmas.List.Sums.{sum_by-cons}
use Rattle.std.proofs.lemmas.Slice.Zip.{all_zipped_more}
use Rattle.buck_apt_instruction.specs.Instruction.{AssortmentParts, classes_of}
use Rattle.buckfleet_terms_files.specs.Targets.{AreFitting, IsFitting}

-- one more list fits
pub one_more : (lists : List (List ℕ)) (xs : List AssortmentParts) (k : ℕ) (d : List ℕ) (e : AssortmentParts)
    → k < length lists → k < length xs → IsFitting (get_or lists k d) (get_or xs k e)
    → AreFitting (take k lists) (take k xs) → AreFitting (take (k + 1) lists) (take (k + 1) xs)
one_more lists xs k d e lt lt' is before =
    rw (take_more lists k d lt, take_more xs k e lt')
    (all_zipped_more IsFitting (take k lists) (take k xs) (get_or lists k d) (get_or xs k e) before is)

-- each list of those that fit
pub each_fits : (lists : List (List ℕ)) (xs : List AssortmentParts) (k : ℕ) (d : List ℕ) (e : AssortmentParts)
    → AreFitting lists xs → k < length lists → IsFitting (get_or lists k d) (get_or xs k e)
each_fits [] [] k d e all lt = absurd (omega (arith, lt))
each_fits [] (x ∷ xs) k d e all lt = absurd all
each_fits (list ∷ lists) [] k d e all lt = absurd all
each_fits (list ∷ lists) (x ∷ xs) zero d e (is, more) lt = is
each_fits (list ∷ lists) (x ∷ xs) (suc k) d e (is, more) lt = each_fits lists xs k d e more (omega (arith, lt))

-- there is one target for each class
pub one_each : (lists : List (List ℕ)) (xs : List AssortmentParts) → AreFitting lists xs
    → length (concat lists) ≡ sum_by classes_of xs
one_each [] [] all = refl
one_each [] (x ∷ xs) all = absurd all
one_each (list ∷ lists) [] all = absurd all
one_each (list ∷ lists) (x ∷ xs) (is, more) =
    let rest : length (concat lists) ≡ sum_by classes_of xs = one_each lists xs more in
    omega (arith, length-append list (concat lists), sum_by-cons classes_of x xs)

concat-append : (lists : List (List ℕ)) (list : List ℕ) → concat (lists ++ list ∷ []) ≡ concat lists ++ list
concat-append [] list = append-nil list
concat-append (x ∷ lists) list =
    ap (λ rest. x ++ rest) (concat-append lists list) ∙ sym (append_assoc x (concat lists) list)

-- one more list is joined
pub concat_more : (lists : List (List ℕ)) (k : ℕ) (d : List ℕ) → k < length lists
    → concat (take (k + 1) lists) ≡ concat (take k lists) ++ get_or lists k d
concat_more lists k d lt =
    ap concat (take_more lists k d lt) ∙ concat-append (take k lists) (get_or lists k d)
