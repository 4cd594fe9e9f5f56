-- A run over an input that goes on.
use Rattle.buckfleet_live.proofs.Words.{ℕ, Bool, true, false, inl, inr, List, [], ◌∷◌, ◌++◌, Option, Some, None, Result, Ok, Err, length, refl, sym, subst, append-nil, le_refl, take_all, Appends-kept, Appends-nil, Appends-trans, Appends}
use Rattle.buckfleet_live.proofs.Words.{Keeps, HistoryParts}
use Rattle.buckfleet_live.proofs.Words.{EngineFault, Read, lines_of, AnswersLine, HasAnswered, IsLiveRun, HasLines, IsRead, IsSaid}
use Rattle.buckfleet_engine_files.specs.Written.{AppendsFirst}

-- what is left
left_of : (input : Option (List ℕ)) → (left : List (Option (List ℕ))) × HasLines input left
left_of None = ([], tt)
left_of (Some x) = (lines_of x, refl)

left_after : (mid left : Option (List ℕ)) (line : Option (List ℕ)) (fed : Bool) → IsRead mid left line fed
    → (more : List (Option (List ℕ))) × HasLines mid (line ∷ more)
left_after mid left line true read = let more = left_of left in (more.0, read more.0 more.1)
left_after mid left line false read = ([], read)

-- all of an answer was written, and what follows was not
pub all_said : (a b c : Option (List ℕ)) (text : List ℕ) → Appends a b text → Keeps b c → AppendsFirst a c text
all_said a b c text p q = (
  length text,
  le_refl _,
  subst (Appends a c) (sym (take_all (length text) text (le_refl _))) (Appends-kept a b c text p q),
)

-- nothing was answered yet
none_yet : (now : HistoryParts) (mid old : Option (List ℕ)) (left : List (Option (List ℕ))) → HasLines mid left
    → HasAnswered now mid left old old now
none_yet now mid old left read =
    record { lines = []; text = []; answers = (refl, refl); read = read; written = Appends-nil old }

-- nothing more can be read
pub unread : (now : HistoryParts) (mid old : Option (List ℕ)) → IsLiveRun now mid old old (Err (Read 1)) now
unread now mid old = let left = left_of mid in inl (refl, left.0, none_yet now mid old left.0 left.1)

-- the next line was read and answered, and the answer can't be written
pub unsaid : (now after : HistoryParts) (mid left old new line : Option (List ℕ)) (text : List ℕ) (fed : Bool)
    (fault : EngineFault) → IsRead mid left line fed → AnswersLine now line text after
    → IsSaid old new text (Err fault) → IsLiveRun now mid old new (Err fault) after
unsaid now after mid left old new line text fed fault read answer said =
    let rest = left_after mid left line fed read in
    inr (
      said.0,
      record {
        line = line;
        left = rest.0;
        between = now;
        was = old;
        last = text;
        answered = none_yet now mid old (line ∷ rest.0) rest.1;
        answer = answer;
        part = said.1;
      },
    )

-- it was the last
pub ended : (now after : HistoryParts) (mid left old new line : Option (List ℕ)) (text : List ℕ)
    → IsRead mid left line false → AnswersLine now line text after → Appends old new text
    → HasAnswered now mid [] old new after
ended now after mid left old new line text read answer written = record {
  lines = line ∷ [];
  text = text;
  answers = (after, text, [], answer, (refl, refl), sym (append-nil text));
  read = read;
  written = written;
}

-- and then others were answered
one_more : (now between after : HistoryParts) (mid left old was new line : Option (List ℕ))
    (others : List (Option (List ℕ))) (text : List ℕ)
    → IsRead mid left line true → AnswersLine now line text between → Appends old was text
    → HasAnswered between left others was new after → HasAnswered now mid others old new after
one_more now between after mid left old was new line others text read answer written had = record {
  lines = line ∷ had.lines;
  text = text ++ had.text;
  answers = (between, text, had.text, answer, had.answers, refl);
  read = read (had.lines ++ others) had.read;
  written = Appends-trans old was new text had.text written had.written;
}

-- and the run went on
pub stepped : (now between after : HistoryParts) (mid left old was new line : Option (List ℕ)) (text : List ℕ)
    (r : Result (Unit {0}) EngineFault)
    → IsRead mid left line true → AnswersLine now line text between → Appends old was text
    → IsLiveRun between left was new r after → IsLiveRun now mid old new r after
stepped now between after mid left old was new line text (Ok u) read answer said run =
    one_more now between after mid left old was new line [] text read answer said run
stepped now between after mid left old was new line text (Err fault) read answer said (inl (is, others, run)) =
    inl (is, others, one_more now between after mid left old was new line others text read answer said run)
stepped now between after mid left old was new line text (Err fault) read answer said (inr (is, run)) =
    inr (
      is,
      record {
        line = run.line;
        left = run.left;
        between = run.between;
        was = run.was;
        last = run.last;
        answered = one_more now between run.between mid left old was run.was line _ text read answer said run.answered;
        answer = run.answer;
        part = run.part;
      },
    )
