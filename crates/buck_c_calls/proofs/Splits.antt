-- Bytes that are split into files of some lengths.
use Rattle.std.proofs.Common.{◌≡◌, ℕ, ◌+◌, ◌<◌, ◌≤◌, List, [], ◌∷◌, ◌++◌, length, get_or, drop, take, map, sum, sym, ap, ◌∙◌, arith}
use Rattle.std.specs.List.{concat}
use Rattle.std.proofs.lemmas.List.{map-append, take_more, append_assoc, append-nil, nil_from_length, drop_all}
use Rattle.std.proofs.lemmas.List.Folds.{concat-append}
use Rattle.std.proofs.lemmas.List.Sums.{sum_by-drop_more}
use Rattle.buck_c_calls.specs.Turns.{AreFiles}

-- the next length, and those behind it
pub sum_drop : (xs : List ℕ) (k d : ℕ) → k < length xs → sum (drop k xs) ≡ get_or xs k d + sum (drop (k + 1) xs)
sum_drop xs k d lt = sum_by-drop_more (λ n. n) xs k d lt

pub sum_behind : (xs : List ℕ) (k : ℕ) → length xs ≤ k → sum (drop k xs) ≡ 0
sum_behind xs k le = ap (λ ns. sum ns) (drop_all k xs le)

-- one file more, of the next length
pub one_more : (files : List (List ℕ)) (file : List ℕ) (lengths : List ℕ) (k d : ℕ) → k < length lengths
    → length file ≡ get_or lengths k d → map (λ f. length f) files ≡ take k lengths
    → map (λ f. length f) (files ++ file ∷ []) ≡ take (k + 1) lengths
one_more files file lengths k d lt is before =
    map-append (λ (f : List ℕ). length f) files (file ∷ [])
    ∙ ap (λ ns. ns ++ length file ∷ []) before ∙ ap (λ n. take k lengths ++ n ∷ []) is
    ∙ sym (take_more lengths k d lt)

-- its bytes stand at the front of what is left
pub bytes_more : (files : List (List ℕ)) (file left behind bytes : List ℕ) → file ++ behind ≡ left
    → concat files ++ left ≡ bytes → concat (files ++ file ∷ []) ++ behind ≡ bytes
bytes_more files file left behind bytes is before =
    ap (λ xs. xs ++ behind) (concat-append files (file ∷ [])) ∙ append_assoc (concat files) (file ++ []) behind
    ∙ ap (λ xs. concat files ++ xs) (append_assoc file [] behind ∙ is) ∙ before

-- nothing is left
pub bytes_all : (files : List (List ℕ)) (left bytes : List ℕ) → length left ≡ 0 → concat files ++ left ≡ bytes
    → concat files ≡ bytes
bytes_all files left bytes none is =
    sym (append-nil (concat files)) ∙ ap (λ xs. concat files ++ xs) (sym (nil_from_length left none)) ∙ is

-- the first file, and those behind it
pub first_more : (lengths bytes file behind : List ℕ) (files : List (List ℕ)) → 0 < length lengths
    → length file ≡ get_or lengths 0 0 → file ++ behind ≡ bytes → AreFiles (drop 1 lengths) behind files
    → AreFiles lengths bytes (file ∷ files)
first_more [] bytes file behind files lt is split rest = absurd (omega (arith, lt))
first_more (n ∷ ns) bytes file behind files lt is split rest =
    (ap (λ k. k ∷ map (λ f. length f) files) is ∙ ap (λ ks. n ∷ ks) rest.0, ap (λ xs. file ++ xs) rest.1 ∙ split)
