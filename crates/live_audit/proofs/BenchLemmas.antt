-- What the clauses of the calls that a bench makes imply for it.
use Rattle.std.proofs.Common.{◌≡◌, ◌-◌, List, [], ◌∷◌, length, Option, Some, None, IfSome, Result, Ok, Err, IfErr, OnOk, OnErr, inl, inr, refl, sym, ap, subst, ◌∙◌, arith}
use Rattle.std.specs.Option.{unwrap_or}
use Rattle.std.specs.List.{slice_get}
use Rattle.std.proofs.lemmas.Option.{slice_get_cases}
use Rattle.circular_buffer.specs.Buffer.{last_item}
use Rattle.picture.specs.Rows.{Rows}
use Rattle.clues.specs.Change.{Changes, Moves, back}
use Rattle.edits.specs.declared.fault.EditFault.{EditFault}
use Rattle.edits.specs.declared.fault.EditFault.TheVariants.{Memory}
use Rattle.edits.specs.Change.{moves_of}
use Rattle.edits.specs.History.{Advance, Turn, History, IsChangeBy, advanced, history, redo_fault, undo_fault}
use Rattle.live_audit.specs.Bench.{Seen}
use Rattle.live_audit.specs.Calls.{Accepts, CarriesOn, IsAsBefore, Refuses}
use Rattle.live_audit.specs.Stroke.{Stroke, after_stroke, moves_back, moves_forth, stroke_fault, stroke_moves}

-- ---- undo and redo

no_last : (turns : List Turn) → last_item turns ≡ None → turns ≡ []
no_last [] e = refl
no_last (t ∷ turns) e = elim (slice_get_cases (t ∷ turns) (length (t ∷ turns) - 1)).1 [
  | inl h ↦ cc (h.2)
  | inr h ↦ absurd (omega arith)
]

no_first : (turns : List Turn) → slice_get turns 0 ≡ None → turns ≡ []
no_first [] e = refl
no_first (t ∷ turns) e = cc

pub back_by : (h : History) (rows : Rows) (change : Changes) (last : Option Turn) → last ≡ last_item h.past → undo_fault h ≡ None
    → IfSome last (λ t. IsChangeBy (back (moves_of t.edit t.document.rows)) h.document.rows rows change)
    → IsChangeBy (moves_back h.document.rows last) h.document.rows rows change
back_by h rows change (Some t) e lawful is = is
back_by h rows change None e lawful is =
    let none : h.past ≡ [] = no_last h.past (sym e) in
    let refused = ap (λ (turns : List Turn). undo_fault (history h.document turns h.future h.depth)) none in
    absurd cc

pub forth_by : (h : History) (rows : Rows) (change : Changes) (first : Option Turn) → first ≡ slice_get h.future 0 → redo_fault h ≡ None
    → IfSome first (λ t. IsChangeBy (moves_of t.edit h.document.rows) h.document.rows rows change)
    → IsChangeBy (moves_forth h.document.rows first) h.document.rows rows change
forth_by h rows change (Some t) e lawful is = is
forth_by h rows change None e lawful is =
    let none : h.future ≡ [] = no_first h.future (sym e) in
    let refused = ap (λ (turns : List Turn). redo_fault (history h.document h.past turns h.depth)) none in
    absurd cc

-- ---- strokes

pub accepted : {X : Type 0} (r : Result X EditFault) (stroke : Stroke) (h : History) (old new : Seen) (advance : Advance) (moves : Moves)
    → h ≡ old.history → stroke_fault h stroke ≡ None → advanced h advance ≡ after_stroke h stroke → moves ≡ stroke_moves h stroke
    → OnOk r (new.history ≡ advanced old.history advance) → OnOk r (CarriesOn moves old new) → OnOk r (Accepts stroke old new)
accepted (Ok x) stroke h old new advance moves e lawful next moved history book =
    record {
      lawful = subst (λ (k : History). stroke_fault k stroke ≡ None) e lawful;
      history = history ∙ subst (λ (k : History). advanced k advance ≡ after_stroke k stroke) e next;
      book = subst (λ (m : Moves). CarriesOn m old new) (moved ∙ ap (λ (k : History). stroke_moves k stroke) e) book;
    }
accepted (Err fault) stroke h old new advance moves e lawful next moved history book = tt

pub refused : {X : Type 0} (r : Result X EditFault) (stroke : Stroke) (h : History) (old new : Seen)
    → h ≡ old.history → stroke_fault h stroke ≡ None → IfErr r (λ fault. fault ≡ Memory) → OnErr r (IsAsBefore old new) → IfErr r (λ fault. Refuses stroke fault old new)
refused (Ok x) stroke h old new e lawful memory same = tt
refused (Err fault) stroke h old new e lawful memory same =
    let none : stroke_fault old.history stroke ≡ None = subst (λ (k : History). stroke_fault k stroke ≡ None) e lawful in
    record {
      first = memory ∙ sym (ap (λ (found : Option EditFault). unwrap_or found Memory) none);
      as_before = same;
      uncalled = λ found some. let both = sym none ∙ some in absurd cc;
    }
