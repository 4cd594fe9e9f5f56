use Rattle.std.proofs.Common.{◌≡◌, ◌<◌, List, [], ℕ, length, map, take, get_or, sym, ap, ◌∙◌, arith}
use Rattle.std.proofs.lemmas.List.{get_or-map, length-map}
use Rattle.buck_book_postings.specs.Posting.{ends_of}
use Rattle.buck_book_journal.specs.Journal.{JournalParts, history_of, version_at}
use Rattle.buckfleet_engine_files.proofs.LastSheet.{number_after}
use Rattle.buckfleet_engine_cross_check.proofs.PriceLemmas.{version_in}
use Rattle.buckfleet_engine_cross_check.proofs.prices.prices_at.Goals as goal

pub index-requires : goal.index-requires
index-requires c =
    let i = c.args.walk.now.instruction in
    let h = history_of i c.args.journal.now in
    let here : c.version.result ≡ version_at h c.args.walk.now.at = c.version.ensures.version
    ∙ ap (λ ps. ends_of i (take c.args.walk.now.at ps)) c.requires.postings in
    let number = ap (λ (j : JournalParts). length j.sheets) c.journal.view_is in
    omega (
      arith,
      here,
      version_in h c.args.walk.now.at c.requires.lawful,
      number,
      length-map c.journal.inside.sheets.items (λ w. w.items),
      c.journal.inside.sheets.ok.0,
    )

pub returns-clause-prices : goal.returns-clause-prices
returns-clause-prices c =
    let i = c.args.walk.now.instruction in
    let j = c.args.journal.now in
    let h = history_of i j in
    let xs = c.journal.inside.sheets.items in
    let lists : List (List ℕ) = map (λ w. w.items) xs in
    let here : c.version.result ≡ version_at h c.args.walk.now.at = c.version.ensures.version
    ∙ ap (λ ps. ends_of i (take c.args.walk.now.at ps)) c.requires.postings in
    let are : lists ≡ j.sheets = ap (λ (j : JournalParts). j.sheets) c.journal.view_is in
    let lt : c.version.result < length xs =
    omega (
      arith,
      here,
      version_in h c.args.walk.now.at c.requires.lawful,
      ap (λ (l : List (List ℕ)). length l) are,
      length-map xs (λ w. w.items),
    ) in
    c.as_slice.ensures.value
    ∙ ap (λ w. w.items) c.index.ensures
    ∙ sym (get_or-map (λ w. w.items) xs c.version.result c.index.result.now [] lt)
    ∙ ap (λ (l : List (List ℕ)). get_or l c.version.result []) are
    ∙ ap (λ n. get_or j.sheets n []) here

pub returns-clause-number : goal.returns-clause-number
returns-clause-number c =
    let i = c.args.walk.now.instruction in
    let h = history_of i c.args.journal.now in
    ap (λ ps. length ps) (returns-clause-prices c)
    ∙ number_after h c.next-valid.ensures.valid c.requires.lawful c.args.walk.now.at
    (rw c.requires.postings at c.at-within.ensures.within)
