use Rattle.std.proofs.Common.{◌≡◌, ◌+◌, [], ◌∷◌, ◌++◌, refl, ap, ◌∙◌, arith}
use Rattle.buck_book_postings.specs.declared.posting.Posting.TheVariants.{Demand}
use Rattle.buck_book_postings.specs.Posting.{ends_of}
use Rattle.buck_book_postings.specs.History.{version_of}
use Rattle.buck_book_postings.proofs.Ends.{ends_with_end}
use Rattle.wrong_session.proofs.kept.retarget_without_end.Goals as goal

pub prove-unreachable-requires : goal.prove-unreachable-requires
prove-unreachable-requires c =
    let before = c.args.kept.now.history in let d = c.in_ok-retarget.field-0 in
    let after : c.retarget.new.self.history ≡ _ = c.in_ok-retarget.ensures.retargeted.added.after_is in
    let ended : ends_of before.instruction (before.postings ++ Demand d ∷ []) ≡ version_of before + 1 =
    ends_with_end before.instruction before.postings (Demand d) refl in
    let right = c.version-right.ensures.version ∙ ap (λ h. version_of h) (c.book-2.ensures.history ∙ after) in
    let wrong = c.version-wrong.ensures.version ∙ ap (λ h. version_of h) c.book.ensures.history in
    omega (arith, right, wrong, ended, c.if-prove.true)
