-- A request by which a stem is only looked at, alone in an input.
use Rattle.std.proofs.Common.{◌≡◌, ◌≢◌, ℕ, inl, inr, List, [], ◌∷◌, ◌++◌, Option, Some, Result, Ok, refl, sym, ap, subst, ◌∙◌, append-nil, arith, codes, get_or}
use Rattle.std.specs.Prelude.{◌⊎◌}
unfoldable use Rattle.std.specs.Fmt.{digits}
use Rattle.std.specs.Io.KnownBytes.{Appends}
use Rattle.buck_stem.specs.declared.fault.StmFault.{StmFault}
use Rattle.buck_stem_shape.specs.Stem.{StemParts}
use Rattle.buck_value.specs.declared.log.Log.{Log}
use Rattle.buck_dp.specs.Best.{IsFirstBest, cutting_worth}
use Rattle.buck_dp_own_logs.specs.declared.reason.Reason.TheVariants.{Species}
use Rattle.buck_dp_own_logs.specs.declared.judging.Judged.{Judged}
use Rattle.buck_dp_own_logs.specs.declared.judging.Judged.TheVariants.{Refused}
use Rattle.buck_dp_own_logs.specs.Judged.{IsJudged}
use Rattle.buck_dp_own_logs.proofs.Alone.{one_judged}
use Rattle.buck_book_postings.specs.History.{HistoryParts, in_force}
use Rattle.buckfleet_engine_files.specs.Faults.{memory_line}
use Rattle.buckfleet_engine_text.specs.Bucking.{named_line_of}
use Rattle.buck_record.specs.writing.Written.{spelled}
use Rattle.buckfleet_live.specs.Lines.{lines_of}
use Rattle.buckfleet_live.specs.Request.{request_of}
use Rattle.buckfleet_live.specs.Answers.{AnswersAll, AnswersAsked, AnswersLine, AnswersRead, SaysOnly, own_line, preview_lines}
use Rattle.buckfleet_live.specs.Live.{IsLiveRun}
use Rattle.buckfleet_live.specs.declared.request.Asked.{Asked}
use Rattle.buckfleet_live.specs.declared.request.Asked.TheVariants.{Own, Preview}
use Rattle.buckfleet_live.specs.declared.request.Request.{Request}

only_line : (before after : HistoryParts) (text : List ℕ) (line : Option (List ℕ))
    → AnswersAll before (line ∷ []) text after → AnswersLine before line text after
only_line before after text line (between, first, rest, one, last, is) =
    let whole : first ≡ text = sym (is ∙ ap (λ (l : List ℕ). first ++ l) last.0 ∙ append-nil first) in
    subst (λ (h : HistoryParts). AnswersLine before line text h) (sym last.1)
    (subst (λ (t : List ℕ). AnswersLine before line t between) whole one)

-- what was written of the answer to the only request, and which history came of it
pub answered_one : (before after : HistoryParts) (request : List ℕ) (old new : Option (List ℕ)) (r : Request) (asked : Asked)
    → IsLiveRun before (Some request) old new (Ok tt) after → lines_of request ≡ Some request ∷ []
    → request_of request ≡ Ok (Some r) → r.asked ≡ asked
    → (text : List ℕ) × Appends old new text
    × (AnswersAsked before r.harvester asked text after ⊎ SaysOnly memory_line before text after)
answered_one before after request old new r asked run line is asks =
    let all = subst (λ (lines : List (Option (List ℕ))). AnswersAll before lines run.text after)
    (sym (sym line ∙ run.read ∙ append-nil run.lines)) run.answers in (
      run.text,
      run.written,
      elim (only_line before after run.text (Some request) all) [
        | inl read ↦
            inl (subst (λ (a : Asked). AnswersAsked before r.harvester a run.text after) asks
            (subst (λ (x : Result (Option Request) StmFault). AnswersRead before x run.text after) is read))
        | inr memory ↦ inr memory
      ],
    )

-- the line of own logs is that of how they are judged
pub judged_otherwise : (before after : HistoryParts) (request new wrong : List ℕ) (r : Request) (stem : StemParts)
    (own : List Log) (judged : Judged)
    → IsLiveRun before (Some request) (Some []) (Some new) (Ok tt) after → lines_of request ≡ Some request ∷ []
    → request_of request ≡ Ok (Some r) → r.asked ≡ Own stem own → IsJudged (in_force before) stem own judged
    → ((best : ℕ) → wrong ≢ own_line stem own best judged) → wrong ≢ memory_line → new ≡ wrong → ⊥
judged_otherwise before after request new wrong r stem own judged run line is asks right differ no_memory same =
    let one = answered_one before after request (Some []) (Some new) r (Own stem own) run line is asks in
    elim one.2 [
      | inl told ↦
          let answer = told.0 in
          let alone = one_judged (in_force before) stem own answer.judged judged answer.is_judged right in
          differ (cutting_worth (in_force before) stem answer.best)
          (sym same ∙ one.1 ∙ answer.text_is
          ∙ ap (λ (j : Judged). own_line stem own (cutting_worth (in_force before) stem answer.best) j) alone)
      | inr memory ↦ no_memory (sym same ∙ one.1 ∙ memory.0)
    ]

-- the lines of three judgements begin otherwise
second_of : (stem : StemParts) (own : List Log) (best : ℕ) → stem.number ≡ 7
    → own_line stem own best (Refused 1 Species) ≡ codes "OWN 7 not 2 species\n"
unfolding digits
second_of stem own best seven =
    ap
    (λ (n : ℕ). codes "OWN" ++ (spelled (n ∷ []) ++ named_line_of (codes " not") (2 ∷ []) (codes "species")))
    seven

no_memory : (a : ℕ) (l : List ℕ) → a ≡ 79 → a ∷ l ≢ memory_line
no_memory a l is e = let clash : 79 ≡ 109 = sym is ∙ ap (λ (l : List ℕ). get_or l 0 0) e in omega (arith, clash)

pub counted_from_0 : (before after : HistoryParts) (request new : List ℕ) (r : Request) (stem : StemParts)
    (own : List Log)
    → IsLiveRun before (Some request) (Some []) (Some new) (Ok tt) after → lines_of request ≡ Some request ∷ []
    → request_of request ≡ Ok (Some r) → r.asked ≡ Own stem own → stem.number ≡ 7
    → IsJudged (in_force before) stem own (Refused 1 Species) → new ≡ codes "OWN 7 not 1 species\n" → ⊥
counted_from_0 before after request new r stem own run line is asks seven right =
    judged_otherwise before after request new (codes "OWN 7 not 1 species\n") r stem own (Refused 1 Species) run line is asks
    right
    (λ best e.
    let clash : 49 ≡ 50 = ap (λ (l : List ℕ). get_or l 10 0) (e ∙ second_of stem own best seven) in
    omega (arith, clash))
    (no_memory _ _ refl)
