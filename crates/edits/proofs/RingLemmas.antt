-- The history that two rings of entries give, before a step and after it.
use Rattle.std.proofs.Common.{◌≡◌, ℕ, ◌+◌, ◌-◌, ◌<◌, ◌⊎◌, inl, inr, Option, Some, None, List, [], ◌∷◌, ◌++◌, length, take, drop, refl, sym, ap, subst, ◌∙◌, arith, slice_get, option_map}
use Rattle.std.proofs.Common.{Bool, ◌==◌, if◌then◌else◌}
use Rattle.std.proofs.lemmas.Bool.{ne_eqb}
use Rattle.std.proofs.lemmas.List.{length-append, length-map, length-drop, length-take-le, map-append, drop-map, take_all}
use Rattle.std.specs.Option.{unwrap_or}
use Rattle.std.proofs.lemmas.Option.{slice_get_within, slice_get_cases}
use Rattle.circular_buffer.specs.Buffer.{Buffer, buffer, keep_last, last_item}
use Rattle.clues.specs.Change.{Changes}
use Rattle.edits.specs.declared.entry.Entry.{Entry}
use Rattle.edits.specs.declared.prepared.Step.{Step}
use Rattle.edits.specs.declared.prepared.Step.TheVariants.{Edit, Undo, Redo}
use Rattle.edits.specs.declared.fault.EditFault.{EditFault}
use Rattle.edits.specs.declared.fault.EditFault.TheVariants.{UndoEmpty, RedoEmpty, Memory}
use Rattle.edits.specs.Design.{Design, IsDesign}
use Rattle.edits.specs.Edit.{edited}
use Rattle.edits.specs.Note.{IsStep, note_for, note_of, reverted}
use Rattle.edits.specs.Prepared.{advance_of}
use Rattle.edits.specs.History.{Turn, turn, History, history, past_from, future_from, ArePast, AreFuture, after_undo, undone, redone, undo_fault, redo_fault}
use Rattle.edits.specs.History.{IsPlanFor, ByEdit, ByUndo, ByRedo, plan, advanced}
use Rattle.edits.specs.Studio.{AreRings, notes_of, history_from, with_first, with_last, past_after, future_after}
use Rattle.edits.proofs.HistoryLemmas.{split_last, take_front, last_of, length-future_from, length-past_from, step_entry, entry_step, past_from-last, past_from-push, past_from-drop, ArePast-push}
use Rattle.edits.proofs.HistoryLemmas.{ArePast-drop, ArePast-pop}

-- an undo and a redo, where there is one
abbrev fault_if_empty : EditFault → List Turn → Option EditFault
fault_if_empty fault turns = if length turns == 0 then Some fault else None

not_empty : (fault : EditFault) (turns : List Turn) → 0 < length turns → fault_if_empty fault turns ≡ None
not_empty fault turns some = ap (λ (b : Bool). if b then Some fault else None) (ne_eqb (length turns) 0 (λ none. absurd (omega (arith, none, some))))

pub undo_at : (h : History) (ts : List Turn) (t : Turn) → h.past ≡ ts ++ t ∷ [] → (undo_fault h ≡ None) × (undone h ≡ history t.document ts (turn h.document t.edit ∷ h.future) h.depth)
undo_at h ts t e =
    let last : last_item h.past ≡ Some t = ap last_item e ∙ last_of ts t in
    let front : take (length h.past - 1) h.past ≡ ts = ap (λ (p : List Turn). take (length p - 1) p) e ∙ take_front ts t in (
      ap (fault_if_empty UndoEmpty) e ∙ not_empty UndoEmpty (ts ++ t ∷ []) (omega (arith, length-append ts (t ∷ []))),
      ap (λ (o : Option Turn). unwrap_or (option_map (after_undo h) o) h) last ∙ ap (λ (p : List Turn). history t.document p (turn h.document t.edit ∷ h.future) h.depth) front,
    )

pub redo_at : (h : History) (ts : List Turn) (t : Turn) → h.future ≡ t ∷ ts → (redo_fault h ≡ None) × (redone h ≡ history t.document (h.past ++ turn h.document t.edit ∷ []) ts h.depth)
redo_at h ts t e = (ap (fault_if_empty RedoEmpty) e ∙ not_empty RedoEmpty (t ∷ ts) (omega arith), rw e refl)

-- the last entry of the past, and the first one of the future
pub notes_split : (es : List Entry) (x : Entry) → last_item es ≡ Some x → notes_of es ≡ notes_of (take (length es - 1) es) ++ note_of x ∷ []
notes_split es x e = ap notes_of (split_last es x e) ∙ map-append note_of (take (length es - 1) es) (x ∷ [])

pub first_split : {X : Type 0} (xs : List X) (x : X) → slice_get xs 0 ≡ Some x → xs ≡ x ∷ drop 1 xs
first_split [] x e = absurd (cc e)
first_split (y ∷ xs) x e = let same : y ≡ x = cc e in ap (λ z. z ∷ xs) same

pub last_step : (d : Design) (es : List Entry) (x : Entry) → last_item es ≡ Some x → ArePast d (notes_of es)
    → IsStep (reverted d (note_of x)) (note_of x) d × ArePast (reverted d (note_of x)) (notes_of (take (length es - 1) es))
last_step d es x e are = ArePast-pop d (notes_of (take (length es - 1) es)) (note_of x) (subst (ArePast d) (notes_split es x e) are)

pub past_split : (d : Design) (es : List Entry) (x : Entry) → last_item es ≡ Some x
    → past_from d (notes_of es) ≡ past_from (reverted d (note_of x)) (notes_of (take (length es - 1) es)) ++ turn (reverted d (note_of x)) (note_of x).edit ∷ []
past_split d es x e = ap (past_from d) (notes_split es x e) ∙ past_from-last d (notes_of (take (length es - 1) es)) (note_of x)

pub first_step : (d : Design) (es : List Entry) (x : Entry) → slice_get es 0 ≡ Some x → AreFuture d (notes_of es)
    → IsStep d (note_of x) (edited d x.edit) × AreFuture (edited d x.edit) (notes_of (drop 1 es))
first_step d es x e are = subst (λ (ys : List Entry). AreFuture d (notes_of ys)) (first_split es x e) are

pub future_split : (d : Design) (es : List Entry) (x : Entry) → slice_get es 0 ≡ Some x
    → future_from d (notes_of es) ≡ turn (edited d x.edit) x.edit ∷ future_from (edited d x.edit) (notes_of (drop 1 es))
future_split d es x e = ap (λ (ys : List Entry). future_from d (notes_of ys)) (first_split es x e)

-- the history is as long as the rings
pub past_long : (d : Design) (es : List Entry) → length es ≡ length (past_from d (notes_of es))
past_long d es = sym (length-past_from d (notes_of es) ∙ length-map es note_of)

pub future_long : (d : Design) (es : List Entry) → length es ≡ length (future_from d (notes_of es))
future_long d es = sym (length-future_from d (notes_of es) ∙ length-map es note_of)

-- a history after an edit
module _ (d d' : Design) (past future : Buffer Entry) (x : Entry) (is : IsDesign d) (are : AreRings d past future) where
  pub made : (k : Changes) → IsPlanFor (history_from d past future) (plan (ByEdit (note_of x)) d' k) → IsStep d (note_of x) d'
  made k ready = record { is_design = is; lawful = ready.lawful; kept = ready.kept; gives = sym ready.gives }

  notes_kept : notes_of (keep_last past.capacity (past.items ++ x ∷ [])) ≡ drop (length (past.items ++ x ∷ []) - past.capacity) (notes_of past.items ++ note_of x ∷ [])
  notes_kept =
      let k : ℕ = length (past.items ++ x ∷ []) - past.capacity in
      sym (drop-map note_of k (past.items ++ x ∷ [])) ∙ ap (drop k) (map-append note_of past.items (x ∷ []))

  pub edit_rings : IsStep d (note_of x) d' → AreRings d' (past_after (Edit x) past future) (future_after (Edit x) past future)
  edit_rings step = record {
    are_past = subst (ArePast d') (sym notes_kept)
        (ArePast-drop d' (length (past.items ++ x ∷ []) - past.capacity) (notes_of past.items ++ note_of x ∷ []) (ArePast-push d d' (notes_of past.items) (note_of x) step are.are_past));
    are_future = tt;
    room = omega (arith, length-drop (length (past.items ++ x ∷ []) - past.capacity) (past.items ++ x ∷ []));
    same_room = are.same_room;
  }

  pub edit_history : IsStep d (note_of x) d' → history_from d' (past_after (Edit x) past future) (future_after (Edit x) past future) ≡ advanced (history_from d past future) (ByEdit (note_of x))
  edit_history step =
      let turns : List Turn = past_from d (notes_of past.items) ++ turn d x.edit ∷ [] in
      let count : length (past.items ++ x ∷ []) ≡ length turns =
      length-append past.items (x ∷ []) ∙ (ap (λ (k : ℕ). k + 1) (past_long d past.items) ∙ sym (length-append (past_from d (notes_of past.items)) (turn d x.edit ∷ []))) in
      let same : past_from d' (notes_of (keep_last past.capacity (past.items ++ x ∷ []))) ≡ keep_last past.capacity turns =
      ap (past_from d') notes_kept
      ∙ (past_from-drop d' (length (past.items ++ x ∷ []) - past.capacity) (notes_of past.items ++ note_of x ∷ [])
      ∙ (ap (drop (length (past.items ++ x ∷ []) - past.capacity)) (past_from-push d d' (notes_of past.items) (note_of x) step)
      ∙ ap (λ (k : ℕ). drop (k - past.capacity) turns) count)) in
      ap (λ (p : List Turn). history d' p [] past.capacity) same
      ∙ ap (λ (e : Design). history e (keep_last past.capacity turns) [] past.capacity) (sym step.gives)

-- a history after an undo
module _ (d : Design) (past future : Buffer Entry) (x : Entry) (last : last_item past.items ≡ Some x) (are : AreRings d past future) where
  pub undo_plan : (k : Changes) → IsPlanFor (history_from d past future) (plan ByUndo (reverted d (note_of x)) k)
  undo_plan k =
      let at = undo_at (history_from d past future) _ _ (past_split d past.items x last) in
      record { lawful = at.0; kept = tt; gives = sym (ap (λ (h : History). h.document) at.1) }

  first_put : future_after Undo past future ≡ buffer (x ∷ future.items) future.capacity
  first_put = grind (arith, buffer, length, slice_get_within, take_all, with_first)

  pub undo_rings : AreRings (reverted d (note_of x)) (past_after Undo past future) (future_after Undo past future)
  undo_rings =
      let step = last_step d past.items x last are.are_past in
      let within : length past.items - 1 < length past.items = slice_get_within past.items (length past.items - 1) x last in
      let forth : AreFuture (edited (reverted d (note_of x)) x.edit) (notes_of future.items) = subst (λ (e : Design). AreFuture e (notes_of future.items)) (sym step.0.gives) are.are_future in
      let rings : AreRings (reverted d (note_of x)) (past_after Undo past future) (buffer (x ∷ future.items) future.capacity) = record {
        are_past = step.1;
        are_future = (entry_step (reverted d (note_of x)) (note_of x) (step_entry (reverted d (note_of x)) d (note_of x) step.0), forth);
        room = omega (arith, are.room, length-take-le (length past.items - 1) past.items (omega (arith, within)));
        same_room = are.same_room;
      } in
      subst (λ (b : Buffer Entry). AreRings (reverted d (note_of x)) (past_after Undo past future) b) (sym first_put) rings

  pub undo_history : history_from (reverted d (note_of x)) (past_after Undo past future) (future_after Undo past future) ≡ advanced (history_from d past future) ByUndo
  undo_history =
      let b : Design = reverted d (note_of x) in
      let step = last_step d past.items x last are.are_past in
      let at = undo_at (history_from d past future) _ _ (past_split d past.items x last) in
      let back : future_from b (notes_of (x ∷ future.items)) ≡ turn d x.edit ∷ future_from d (notes_of future.items) =
      ap (λ (e : Design). turn e x.edit ∷ future_from e (notes_of future.items)) step.0.gives in
      ap (λ (r : Buffer Entry). history_from b (past_after Undo past future) r) first_put
      ∙ (ap (λ (f : List Turn). history b (past_from b (notes_of (take (length past.items - 1) past.items))) f past.capacity) back ∙ sym at.1)

-- a history after a redo
module _ (d : Design) (past future : Buffer Entry) (x : Entry) (first : slice_get future.items 0 ≡ Some x) (are : AreRings d past future) where
  pub redo_plan : (k : Changes) → IsPlanFor (history_from d past future) (plan ByRedo (edited d x.edit) k)
  redo_plan k =
      let at = redo_at (history_from d past future) _ _ (future_split d future.items x first) in
      record { lawful = at.0; kept = tt; gives = sym (ap (λ (h : History). h.document) at.1) }

  last_put : past_after Redo past future ≡ buffer (past.items ++ x ∷ []) past.capacity
  last_put = grind (arith, buffer, drop, length, length-append, slice_get_within, with_last)

  pub redo_rings : AreRings (edited d x.edit) (past_after Redo past future) (future_after Redo past future)
  redo_rings =
      let step = first_step d future.items x first are.are_future in
      let pushed : notes_of (past.items ++ x ∷ []) ≡ notes_of past.items ++ note_of x ∷ [] = map-append note_of past.items (x ∷ []) in
      let rings : AreRings (edited d x.edit) (buffer (past.items ++ x ∷ []) past.capacity) (future_after Redo past future) = record {
        are_past = subst (ArePast (edited d x.edit)) (sym pushed) (ArePast-push d (edited d x.edit) (notes_of past.items) (note_of x) step.0 are.are_past);
        are_future = step.1;
        room = omega (arith, are.room, length-append past.items (x ∷ []), length-drop 1 future.items, slice_get_within future.items 0 x first);
        same_room = are.same_room;
      } in
      subst (λ (b : Buffer Entry). AreRings (edited d x.edit) b (future_after Redo past future)) (sym last_put) rings

  pub redo_history : history_from (edited d x.edit) (past_after Redo past future) (future_after Redo past future) ≡ advanced (history_from d past future) ByRedo
  redo_history =
      let a : Design = edited d x.edit in
      let step = first_step d future.items x first are.are_future in
      let at = redo_at (history_from d past future) _ _ (future_split d future.items x first) in
      let pushed : past_from a (notes_of (past.items ++ x ∷ [])) ≡ past_from d (notes_of past.items) ++ turn d x.edit ∷ [] =
      ap (past_from a) (map-append note_of past.items (x ∷ [])) ∙ past_from-push d a (notes_of past.items) (note_of x) step.0 in
      ap (λ (r : Buffer Entry). history_from a r (future_after Redo past future)) last_put
      ∙ (ap (λ (p : List Turn). history a p (future_from a (notes_of (drop 1 future.items))) past.capacity) pushed ∙ sym at.1)

-- there is no last entry, or there is one
pub last_cases : (es : List Entry) → (es ≡ []) ⊎ ((x : Entry) × (last_item es ≡ Some x))
last_cases [] = inl refl
last_cases (e ∷ es) = elim (slice_get_cases (e ∷ es) (length (e ∷ es) - 1)).1 [ inl is ↦ inr (is.0, is.2) | inr past ↦ absurd (omega (arith, past.0)) ]

pub first_cases : (es : List Entry) → (es ≡ []) ⊎ ((x : Entry) × (slice_get es 0 ≡ Some x))
first_cases [] = inl refl
first_cases (e ∷ es) = inr (e, refl)

pub no_undo : (d : Design) (past future : Buffer Entry) → past.items ≡ [] → undo_fault (history_from d past future) ≡ Some UndoEmpty
no_undo d past future e = ap (λ (es : List Entry). fault_if_empty UndoEmpty (past_from d (notes_of es))) e

pub no_redo : (d : Design) (past future : Buffer Entry) → future.items ≡ [] → redo_fault (history_from d past future) ≡ Some RedoEmpty
no_redo d past future e = ap (λ (es : List Entry). fault_if_empty RedoEmpty (future_from d (notes_of es))) e

-- a history after a step that is ready
pub record Comes (d d' : Design) (past future : Buffer Entry) (step : Step) : Type 0 where
  pub rings : AreRings d' (past_after step past future) (future_after step past future)
  pub same : history_from d' (past_after step past future) (future_after step past future) ≡ advanced (history_from d past future) (advance_of step)

pub comes : (d d' : Design) (past future : Buffer Entry) (step : Step) (k : Changes) → IsDesign d → AreRings d past future → IsPlanFor (history_from d past future) (plan (advance_of step) d' k)
    → Comes d d' past future step
comes d d' past future (Edit x) k is are ready =
    let step = made d d' past future x is are k ready in
    record { rings = edit_rings d d' past future x is are step; same = edit_history d d' past future x is are step }
comes d d' past future Undo k is are ready =
    elim (last_cases past.items) [
      | inl none ↦ absurd (let at : None ≡ Some UndoEmpty = sym ready.lawful ∙ no_undo d past future none in cc)
      | inr some ↦
          let same : reverted d (note_of some.0) ≡ d' = (undo_plan d past future some.0 some.1 are k).gives ∙ sym ready.gives in
          subst (λ (e : Design). Comes d e past future Undo) same
          (record { rings = undo_rings d past future some.0 some.1 are; same = undo_history d past future some.0 some.1 are })
    ]
comes d d' past future Redo k is are ready =
    elim (first_cases future.items) [
      | inl none ↦ absurd (let at : None ≡ Some RedoEmpty = sym ready.lawful ∙ no_redo d past future none in cc)
      | inr some ↦
          let same : edited d some.0.edit ≡ d' = (redo_plan d past future some.0 some.1 are k).gives ∙ sym ready.gives in
          subst (λ (e : Design). Comes d e past future Redo) same
          (record { rings = redo_rings d past future some.0 some.1 are; same = redo_history d past future some.0 some.1 are })
    ]

-- the last pair of the past, and the first one of the future
pub last_turn_is : (d : Design) (es : List Entry) (x : Entry) → last_item es ≡ Some x → last_item (past_from d (notes_of es)) ≡ Some (turn (reverted d (note_of x)) x.edit)
last_turn_is d es x last = ap last_item (past_split d es x last) ∙ last_of (past_from (reverted d (note_of x)) (notes_of (take (length es - 1) es))) (turn (reverted d (note_of x)) x.edit)

pub first_turn_is : (d : Design) (es : List Entry) (x : Entry) → slice_get es 0 ≡ Some x → slice_get (future_from d (notes_of es)) 0 ≡ Some (turn (edited d x.edit) x.edit)
first_turn_is d es x first = ap (λ (turns : List Turn). slice_get turns 0) (future_split d es x first)

-- what is kept of the last edit
pub last_note : (d : Design) (es : List Entry) → ArePast d (notes_of es)
    → option_map note_of (last_item es) ≡ option_map (λ (t : Turn). note_for t.document t.edit) (last_item (past_from d (notes_of es)))
last_note d es are =
    elim (last_cases es) [
      | inl none ↦ rw none refl
      | inr some ↦
          let x : Entry = some.0 in
          let step = last_step d es x some.1 are in
          ap (option_map note_of) some.1 ∙ (ap Some step.0.kept ∙ sym (ap (option_map (λ (u : Turn). note_for u.document u.edit)) (last_turn_is d es x some.1)))
    ]

-- why an undo or a redo is refused, by what the ring answers
pub undo_refused : (d : Design) (past future : Buffer Entry) → last_item past.items ≡ None → unwrap_or (undo_fault (history_from d past future)) Memory ≡ UndoEmpty
undo_refused d past future e =
    elim (last_cases past.items) [
      | inl none ↦ ap (λ (fault : Option EditFault). unwrap_or fault Memory) (no_undo d past future none)
      | inr some ↦ absurd (let at : None ≡ Some some.0 = sym e ∙ some.1 in cc)
    ]

pub redo_refused : (d : Design) (past future : Buffer Entry) → slice_get future.items 0 ≡ None → unwrap_or (redo_fault (history_from d past future)) Memory ≡ RedoEmpty
redo_refused d past future e =
    elim (first_cases future.items) [
      | inl none ↦ ap (λ (fault : Option EditFault). unwrap_or fault Memory) (no_redo d past future none)
      | inr some ↦ absurd (let at : None ≡ Some some.0 = sym e ∙ some.1 in cc)
    ]

pub has_undo : (d : Design) (past future : Buffer Entry) (x : Entry) → last_item past.items ≡ Some x → undo_fault (history_from d past future) ≡ None
has_undo d past future x last = (undo_at (history_from d past future) _ _ (past_split d past.items x last)).0

pub has_redo : (d : Design) (past future : Buffer Entry) (x : Entry) → slice_get future.items 0 ≡ Some x → redo_fault (history_from d past future) ≡ None
has_redo d past future x first = (redo_at (history_from d past future) _ _ (future_split d future.items x first)).0
