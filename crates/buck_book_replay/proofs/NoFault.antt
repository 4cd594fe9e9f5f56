-- A history in which no fault stands is lawful: what isn't wrong is right.
use Rattle.buck_book_replay.proofs.Words.{◌≡◌, ℕ, zero, suc, ◌+◌, ◌<◌, ◌≤◌, ◌⊎◌, inl, inr, List, [], ◌∷◌, length, take, slice_get, Some, refl, sym, ◌∙◌, subst, arith, rules, Contains, slice_index, cases_eq, cases_lt, cases_order}
use Rattle.buck_book_replay.proofs.Words.{Contains-tail, slice_get_within, slice_get_cases, same_Some, Class, InstructionParts, AssortmentParts, IsInstruction, IsClass, index_of, Standing, Meets, StemParts, Log, SheetParts, IsAllowed}
use Rattle.buck_book_replay.proofs.Words.{Allows, end_of, IsCutFrom, IsAdmissible, cutting_worth, Posting, planned_version, AreTargets, HistoryParts, IsLawful, Follows, Holds, standing_of, sheet_at, MeetsAfter, ReplayFault, Sheet, Price}
use Rattle.buck_book_replay.proofs.Words.{Numbering, Version, Cutting, Worth, Outvalued, Targets, version_at, prices_then, Begins, HasSheet, IsSheetRight, IsSheetFault, IsContentFault, IsPostingFault, IsNumbered, IsOfVersion, IsFaultAt}
use Rattle.buck_book_replay.proofs.Words.{IsRightBefore, IsFirstFault, sheet_then}
use Rattle.buck_book_postings.specs.declared.posting.Posting.TheVariants as posting
use Rattle.buck_book_replay.proofs.Replays.{one_more, lawful_when}
use Rattle.std.proofs.Common.{below_more}

-- what can't fail holds
abbrev Sure : Type 0 → Type 0
Sure P = ((P → ⊥) → ⊥) → P

eq_of : (a b : ℕ) → Sure (a ≡ b)
eq_of a b nn = elim (cases_eq a b) [ inl e ↦ e | inr ne ↦ absurd (nn ne) ]

le_of : (a b : ℕ) → Sure (a ≤ b)
le_of a b nn = elim (cases_lt b a) [ inl gt ↦ absurd (nn (λ le. absurd (omega arith))) | inr le ↦ omega arith ]

lt_of : (a b : ℕ) → Sure (a < b)
lt_of a b nn = elim (cases_lt a b) [ inl lt ↦ lt | inr ge ↦ absurd (nn (λ lt. absurd (omega arith))) ]

contains_or : (xs : List ℕ) (x : ℕ) → Contains xs x ⊎ (Contains xs x → ⊥)
contains_or [] x = inr (λ c. absurd (let lt = c.1 in omega arith))
contains_or (y ∷ ys) x = elim (cases_eq y x) [
  | inl same ↦ inl (0, omega arith, same)
  | inr other ↦ elim (contains_or ys x) [
    | inl c ↦ inl (suc c.0, (let lt = c.1 in omega arith), c.2)
    | inr none ↦ inr (λ c. none (Contains-tail y ys x other c))
  ]
]

contains_of : (xs : List ℕ) (x : ℕ) → Sure (Contains xs x)
contains_of xs x nn = elim (contains_or xs x) [ inl c ↦ c | inr none ↦ absurd (nn none) ]

allows_of : (step : ℕ) (a : AssortmentParts) (stem : StemParts) (g : Log) → Sure (Allows step a stem g)
allows_of step a stem g nn = record {
  species = eq_of _ _ (λ no_. nn (λ al. no_ al.species));
  on_module = eq_of _ _ (λ no_. nn (λ al. no_ al.on_module));
  length_offered = contains_of _ _ (λ no_. nn (λ al. no_ al.length_offered));
  within = le_of _ _ (λ no_. nn (λ al. no_ al.within));
  grades = λ x ge lt. contains_of _ _ (λ no_. nn (λ al. no_ (al.grades x ge lt)));
  bought = record {
    thick_enough = le_of _ _ (λ no_. nn (λ al. no_ al.bought.thick_enough));
    thin_enough = lt_of _ _ (λ no_. nn (λ al. no_ al.bought.thin_enough));
    priced = λ z. nn (λ al. al.bought.priced z);
  };
}

allowed_of : (i : InstructionParts) (stem : StemParts) (g : Log) → Sure (IsAllowed i stem g)
allowed_of i stem g nn = elim (slice_get_cases i.assortments g.assortment).1 [
  | inl some ↦ record {
    assortment = some.0;
    exists = some.2;
    allows = allows_of i.«module» some.0 stem g (λ no_. nn (λ al.
        no_ (subst (λ a. Allows i.«module» a stem g) (same_Some al.assortment some.0 (sym al.exists ∙ some.2))
        al.allows)));
  }
  | inr past ↦ search (rules, slice_get_within)
]

cut_of : (i : InstructionParts) (stem : StemParts) (from : ℕ) (gs : List Log)
    → Sure (IsCutFrom (IsAllowed i stem) (end_of i) from gs)
cut_of i stem from [] nn = tt
cut_of i stem from (g ∷ gs) nn = (
  grind (arith, le_of),
  allowed_of i stem g (λ no_. nn (λ c. no_ c.1)),
  cut_of i stem (end_of i g) gs (λ no_. nn (λ c. no_ c.2)),
)

targets_of : (i : InstructionParts) (targets : List ℕ) → Sure (AreTargets i targets)
targets_of i targets nn = grind (arith, eq_of, le_of)

meets_of : (s : Standing) (price : ℕ) → Sure (Meets s price)
meets_of s price nn = grind (arith, eq_of, le_of)

-- what a posting says is right if no fault stands in it
holds_of : (i : InstructionParts) (sheets : List (List ℕ)) (x : Posting) (k : ℕ)
    → ((fault : ReplayFault) → IsContentFault (sheet_at i sheets (planned_version x)) x k fault → ⊥)
    → Holds i sheets x
holds_of i sheets (posting.Cut e) k none =
    let s : SheetParts = sheet_at i sheets e.version in
    let cut : IsAdmissible s e.stem e.logs = cut_of i e.stem 0 e.logs (λ no_. none (Cutting k) (refl, no_)) in
    let is : e.worth ≡ cutting_worth s e.stem e.logs = eq_of _ _ (λ no_. none (Worth k) (refl, cut, no_)) in (
      record {
        admissible = cut;
        none_outvalues =
            λ others theirs. elim (cases_lt (cutting_worth s e.stem e.logs) (cutting_worth s e.stem others)) [
              | inl more ↦ absurd (none (Outvalued k) (refl, cut, is, (others, theirs, more)))
              | inr le ↦ omega arith
            ];
      },
      is,
    )
holds_of i sheets (posting.Demand d) k none = targets_of i d.targets (λ no_. none (Targets k) (refl, no_))

module _ (h : HistoryParts) where
  sheet_of : (k : ℕ) → ((fault : ReplayFault) → IsSheetFault h k fault → ⊥) → IsSheetRight h k
  sheet_of k none =
      (has, record { one_each = has.1; each_meets = λ c l. below (suc (index_of h.instruction c)) c l (omega arith) })
    where
      has : HasSheet h k
      has = (
        lt_of _ _ (λ no_. none (Sheet (version_at h k)) (refl, λ has. no_ has.0)),
        eq_of _ _ (λ no_. none (Sheet (version_at h k)) (refl, λ has. no_ has.1)),
      )

      below : (n : ℕ) (c : Class) (l : IsClass h.instruction c) → index_of h.instruction c < n
          → MeetsAfter h.instruction (take k h.postings) (prices_then h k) c l
      below zero c l lt = absurd (omega arith)
      below (suc n) c l lt =
          meets_of (standing_of h.instruction l.assortment c (take k h.postings))
          (slice_index (prices_then h k) (index_of h.instruction c))
          (λ wrong. none (Price (version_at h k) (index_of h.instruction c)) (
            refl,
            has,
            record {
              class = c;
              exists = l;
              place = refl;
              wrong = wrong;
              least = λ d m less. below n d m (omega arith);
            },
          ))

  follows_of : (k : ℕ) (x : Posting)
      → ((fault : ReplayFault) → IsPostingFault (sheet_then h k) (take k h.postings) x k fault → ⊥)
      → Follows h.instruction h.sheets (take k h.postings) x
  follows_of k x none =
      let n : IsNumbered (take k h.postings) x = eq_of _ _ (λ no_. none (Numbering k) (inl (refl, no_))) in
      let o : IsOfVersion h.instruction (take k h.postings) x =
      eq_of _ _ (λ no_. none (Version k) (inl (refl, n, no_))) in
      record {
        number_is_next = n;
        version_in_force = o;
        holds = holds_of h.instruction h.sheets x k (λ fault wrong.
            none fault
            (inr (n, o, subst (λ v. IsContentFault (sheet_at h.instruction h.sheets v) x k fault) o wrong)));
      }

  module _ (none : (fault : ReplayFault) → IsFirstFault h fault → ⊥) where
    further : (k : ℕ) (x : Posting) → slice_get h.postings k ≡ Some x → IsRightBefore h k → IsRightBefore h (k + 1)
    further k x at before = record {
      sheets = below_more (λ j. Begins h j → IsSheetRight h j) k before.sheets sheet;
      postings = one_more h.postings (λ j y. Follows h.instruction h.sheets (take j h.postings) y) k x at
          before.postings (follows_of k x (λ fault wrong. met fault (inr (sheet, wrong))));
    }
      where
        met : (fault : ReplayFault) → IsFaultAt h k x fault → ⊥
        met fault wrong = none fault (inl (record { at = k; next = x; there = at; right = before; wrong = wrong }))

        sheet : Begins h k → IsSheetRight h k
        sheet b = sheet_of k (λ fault wrong. met fault (inl (b, wrong)))

    right_to : (k : ℕ) → k ≤ length h.postings → IsRightBefore h k
    right_to zero le = record { sheets = λ j lt b. absurd (omega arith); postings = λ j x lt at. absurd (omega arith) }
    right_to (suc k) le = elim (slice_get_cases h.postings k).1 [
      | inl some ↦
          let one : k + 1 ≡ suc k = omega arith in
          subst (IsRightBefore h) one (further k some.0 some.2 (right_to k (omega arith)))
      | inr past ↦ absurd (omega (arith, past.0))
    ]

    pub lawful_without : IsInstruction h.instruction → IsLawful h
    lawful_without v =
        let n : ℕ = length h.postings in
        let all : IsRightBefore h n = right_to n (omega arith) in
        let number : length h.sheets ≡ version_at h n + 1 = elim (cases_order (length h.sheets) (version_at h n + 1)) [
          | inl same ↦ same
          | inr (inl few) ↦
              absurd (none (Sheet (length h.sheets))
              (inr (record { right = all; wrong = inl (inl (omega arith, refl)) })))
          | inr (inr many) ↦
              absurd (none (Sheet (version_at h n + 1))
              (inr (record { right = all; wrong = inl (inr (omega arith, refl)) })))
        ] in
        lawful_when h v all (record {
          number = number;
          last_sheet =
              λ b. sheet_of n
              (λ fault wrong. none fault (inr (record { right = all; wrong = inr (number, b, wrong) })));
        })
