-- A session over bytes that are its whole input replies to all their lines, or to the first of them where a write fails.
use Rattle.std.proofs.Common.{◌≡◌, ◌∙◌, ◌+◌, ℕ, List, [], ◌∷◌, ◌++◌, length, take, Option, Some, Result, Ok, Err, ap, append-nil, subst, sym, refl, inl, inr}
use Rattle.std.specs.List.{concat}
use Rattle.std.specs.Io.KnownBytes.{Appends}
use Rattle.std.proofs.lemmas.List.Folds.{concat-append}
use Rattle.std.proofs.Math.Seq.{take-append-add}
use Rattle.command_text.specs.declared.session_fault.SessionFault.{SessionFault}
use Rattle.command_text.specs.declared.session_fault.SessionFault.TheVariants as fault
use Rattle.command_text.specs.Lines.{lines_of}
use Rattle.command_text.specs.Words.{Texts}
use Rattle.live_audit.specs.Calls.{Machine}
use Rattle.session.specs.Truth.{AreReplies, AreToldInPart, TellsTruth}
use Rattle.claims.specs.Session.{AnswersAll, AnswersFront, AnswersRead, AnswersUntil}

pub answers_all : (input left held text : List ℕ) (m last : Machine) (done : Unit {0}) → held ≡ [] → TellsTruth (Some input) (Some left) (Some held) (Some text) m last (Ok done)
    → AnswersAll (lines_of input) text m last
answers_all input left held text m last done empty (read, (consumes, (at_end, told))) =
    let whole : input ≡ read = consumes ∙ (ap (λ (xs : List ℕ). read ++ xs) at_end ∙ append-nil read) in
    record {
      texts = told.texts;
      text_is = told.went_out ∙ ap (λ (xs : List ℕ). xs ++ concat told.texts) empty;
      replies = subst (λ (xs : List ℕ). AreReplies m (lines_of xs) told.texts last) (sym whole) told.replies;
    }

joined : (texts : Texts) (text : List ℕ) → concat (texts ++ text ∷ []) ≡ concat texts ++ text
joined texts text = concat-append texts (text ∷ []) ∙ ap (λ (xs : List ℕ). concat texts ++ xs) (append-nil text)

in_part : (lines : Texts) (had has : Option (List ℕ)) (m last : Machine) → AreToldInPart lines had has m last → AnswersFront lines had has m last
in_part lines had has m last told =
    let texts = told.texts ++ told.text ∷ [] in
    let front : ℕ = length (concat told.texts) + told.front in
    let out : take front (concat texts) ≡ concat told.texts ++ take told.front told.text =
    ap (λ (xs : List ℕ). take front xs) (joined told.texts told.text) ∙ take-append-add (concat told.texts) told.text told.front in
    record {
      count = told.answered;
      texts = texts;
      replies = told.replies;
      front = front;
      went_out = subst (Appends had has) (sym out) told.went_out;
    }

answers_read : (had have held holds : Option (List ℕ)) (m last : Machine) → TellsTruth had have held holds m last (Err fault.Write) → AnswersRead had have held holds m last
answers_read had have held holds m last (read, (consumes, inl told)) = record { read = read; consumes = consumes; lines = _; are_read = inl refl; front = in_part _ held holds m last told }
answers_read had have held holds m last (read, (consumes, inr (end, told))) = record { read = read; consumes = consumes; lines = _; are_read = inr refl; front = in_part _ held holds m last told }

pub until : (had have held holds : Option (List ℕ)) (m last : Machine) (r : Result (Unit {0}) SessionFault) → TellsTruth had have held holds m last r
    → AnswersUntil had have held holds m last r
until had have held holds m last (Ok done) (read, (consumes, (at_end, told))) =
    record { read = read; consumes = consumes; at_end = at_end; texts = told.texts; replies = told.replies; went_out = told.went_out }
until had have held holds m last (Err fault.Read) (read, (consumes, told)) =
    record { read = read; consumes = consumes; texts = told.texts; replies = told.replies; went_out = told.went_out }
until had have held holds m last (Err fault.Write) t = answers_read had have held holds m last t
