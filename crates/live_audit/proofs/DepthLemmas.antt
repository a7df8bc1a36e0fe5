-- A history that goes on fits its depth.
use Rattle.std.proofs.Common.{◌≡◌, ℕ, ◌-◌, ◌<◌, ◌≤◌, List, [], ◌∷◌, ◌++◌, length, Option, None, Some, option_map, slice_get, sym, subst, arith, refl}
use Rattle.std.specs.Option.{unwrap_or}
use Rattle.std.proofs.lemmas.List.{length-append, length-drop, length-take}
use Rattle.circular_buffer.specs.Buffer.{keep_last, last_item}
use Rattle.edits.specs.declared.edit.Edit.{Edit}
use Rattle.edits.specs.Design.{Design}
use Rattle.edits.specs.declared.studio.TheConstants.{MAX_DEPTH}
use Rattle.edits.specs.History.{Advance, ByEdit, ByRedo, ByUndo, History, Turn, advanced, after_edit, after_redo, after_undo, history, turn}
use Rattle.live_audit.specs.Bench.{FitsDepth}

kept_few : (depth : ℕ) (turns : List Turn) → length (keep_last depth turns) ≤ depth
kept_few depth turns =
    let l = length-drop (length turns - depth) turns in
    omega arith

after_edit_fits : (h : History) (e : Edit) → FitsDepth h → FitsDepth (after_edit h e)
after_edit_fits h e f =
    let k = kept_few h.depth (h.past ++ turn h.document e ∷ []) in
    record { some = f.some; most = f.most; few = omega arith }

some_last : (turns : List Turn) (t : Turn) → Some t ≡ last_item turns → 0 < length turns
some_last [] t e = absurd cc
some_last (u ∷ turns) t e = omega arith

some_first : (turns : List Turn) (t : Turn) → Some t ≡ slice_get turns 0 → 0 < length turns
some_first [] t e = absurd cc
some_first (u ∷ turns) t e = omega arith

undone_fits : (h : History) (last : Option Turn) → last ≡ last_item h.past → FitsDepth h → FitsDepth (unwrap_or (option_map (after_undo h) last) h)
undone_fits h None e f = f
undone_fits h (Some t) e f =
    let s = some_last h.past t e in
    let l = length-take (length h.past - 1) h.past in
    let few = f.few in
    record { some = f.some; most = f.most; few = omega arith }

redone_fits : (h : History) (first : Option Turn) → first ≡ slice_get h.future 0 → FitsDepth h → FitsDepth (unwrap_or (option_map (after_redo h) first) h)
redone_fits h None e f = f
redone_fits h (Some t) e f =
    let s = some_first h.future t e in
    let l = length-drop 1 h.future in
    let a = length-append h.past (turn h.document t.edit ∷ []) in
    let few = f.few in
    record { some = f.some; most = f.most; few = omega arith }

advanced_fits : (h : History) (advance : Advance) → FitsDepth h → FitsDepth (advanced h advance)
advanced_fits h (ByEdit n) f = after_edit_fits h n.edit f
advanced_fits h ByUndo f = undone_fits h (last_item h.past) refl f
advanced_fits h ByRedo f = redone_fits h (slice_get h.future 0) refl f

pub fits : (h after : History) (advance : Advance) → after ≡ advanced h advance → FitsDepth h → FitsDepth after
fits h after advance e f = subst (λ (x : History). FitsDepth x) (sym e) (advanced_fits h advance f)

pub begins : (d : Design) (depth : ℕ) (h : History) → h ≡ history d [] [] depth → 0 < depth → depth ≤ MAX_DEPTH → FitsDepth h
begins d depth h e some most = subst (λ (x : History). FitsDepth x) (sym e) (record { some = some; most = most; few = omega arith })
