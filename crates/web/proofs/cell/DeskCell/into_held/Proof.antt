-- `into_held` compares the pointer with null, and what it points to goes with the two fields.
use mathlib.Core.Path.{◌≡◌, refl, sym, subst}
use mathlib.Core.List.{List, [], ◌∷◌, ◌++◌}
use Prim.Native.Nat.{ℕ}
use lib.Dec.{lit<}
use seplogic.Ra.Ura.{Ura}
use mir.Val.{Val, vstruct, vcons, vnil, of_list, has_ty}
use mir.Syntax.{Ty}
use mir.Raw.{raw as bare}
use base.Logic.{SProp, ent, sep, id⊢, via, fst∗, snd∗, never, never_e, guard, guard_i}
use base.Fraction.{full_share}
use base.Fml.{ftrue, fsep}
use prog.Memory.{Memory}
use prog.Routine.{Routine}
use prog.Wp.{WpFn, Tables}
use types.Logic.{Logic, sem}
use types.Match.{live}
use contract.Monad.{Fun, fact, fact_use}
use contract.Running.{tables, tables_of}
use sound.WpLaws.{WpFn-mono}
use types.Kit.{‵, raw, ◌⊛◌, given, at_ret, ◌$◌, ◌∵◌, !, qed, by, move, keep, drop, use0, use1, learn, join, split, fsplit, fpick, feq_l, fjoin, suffices, done}
use types.Part.{whole, sub, agg}
use types.Run.{stop, fld, lit, bin, no_more, and_then, of_opd, first, branches, skips, exec, returns, returns_within, enter}
use types.ByLocal.{alloc_all, pass_all, free_all, look_at, get, get_in, sets, env}
use denote.Exit.{yes}
use denote.Memory.{lone}
use denote.RawPtr.{Ptr, block_ptr, null_ptr, ptr_val, InBlock, Testable, tests_null, lies_at}
use denote.Signature.{type_at}
use denote.Steps.{heard, nothing}
use denote.Triple.Spec.{triple_of}
use denote.Triple.Table.{entered}
use denote.Triple.Walked.{says, Stays, stay_dropped, walk_of, ends_at, Goes-dropped, walk_Meets}
use Rattle.core.proofs.alloc.Calls.{α, Fits, handle_tells}
use Rattle.core.proofs.option.Made.{Some-of, none_of}
use Rattle.core.specs.declared.option.Option.{Option}
use Rattle.core.specs.declared.option.Option.TheVariants.{None, Some}
use Rattle.core.specs.contracts.option.Option as option
use Rattle.std_alloc.proofs.BoxSteps.Form.{D, handle, word, box_typed}
use Rattle.std_alloc.proofs.BoxSteps.Steps.{box_in}
use Rattle.std_alloc.proofs.ResultValues.{and_tt}
use Rattle.std_heap.proofs.GlobalToken.{dealloc_token-Testable}
use Rattle.std_heap.specs.contracts.Global as Heap
use Rattle.std_heap.specs.contracts.GlobalAllocator.TheImpl.{ghosts}
use Rattle.web.specs.contracts.desk.Desk as Desk
use Rattle.web.proofs.AsBox.{E, FromCell as From}
use Rattle.web.specs.Held.{cell_owns, held_owns}
use Rattle.web.specs.contracts.held.Held as held
use Rattle.web.specs.contracts.cell.DeskCell.into_held as F
use Rattle.web.specs.contracts.cell.DeskCell.into_held.Key.{name as #self}
use Rattle.web.proofs.cell.DeskCell.into_held.Statement as stated
use Rattle.web.proofs.cell.DeskCell.into_held.Code as code

abbrev stayed : Stays (F.ended).signature.params (F.ended).kept
stayed = (stay_dropped From yes, tt)

abbrev word_at : Val → Ptr → Val
word_at hv s = vstruct (vcons (ptr_val s) (vcons hv vnil))

module _ {M : Type 1} {𝓤 : Ura M} (𝓛 : Logic 𝓤) (at_mem : Memory → SProp 𝓤) (run : Routine → Fun 𝓤) (𝓣 : Tables 𝓤 𝓛.H) where
  open 𝓛 use {H}

  module _ (z : (walk_of 𝓛 F.ended stayed (F.clauses 𝓛 at_mem run)).Ghost) where
    abbrev Post : Val → SProp 𝓤
    Post = (walk_of 𝓛 F.ended stayed (F.clauses 𝓛 at_mem run)).post z

    abbrev a : Heap.the_row.Denot
    a = z.0.3.0.alloc

    abbrev From_host : Ptr → Option Desk.the_row.Denot → Val → SProp 𝓤
    From_host s d hv = sep 𝓤 (sem 𝓛 (cell_owns a s d)) (sem 𝓛 (handle E a hv))

    -- a pointer that may be freed is the start of its block
    tested : (p : Ptr) (x : Desk.the_row.Denot) → ent 𝓤 (sem 𝓛 (held_owns a p x)) (guard 𝓤 (Testable p) (sem 𝓛 (held_owns a p x)))
    tested p x =
        let block : Ty = bare (lone Desk.the_row.mir) in
        fact_use 𝓤 (Testable p) (via 𝓤 _ (snd∗ 𝓤 (sem 𝓛 (lies_at Desk.the_row full_share p x)) (sem 𝓛 (ghosts.dealloc_token a block p))) (dealloc_token-Testable 𝓛 a block p))
        (guard_i 𝓤 (Testable p) (sem 𝓛 (held_owns a p x)))

    none : (hv : Val) → Fits E.al hv → z.0.3.0.ptr ≡ null_ptr → ent 𝓤 (sep 𝓤 (sem 𝓛 ftrue) (sem 𝓛 (handle E a hv))) (WpFn 𝓤 H 𝓣.C 𝓣.Λ code.function (word_at hv null_ptr ∷ []) Post)
    none hv fa e =
        qed 𝓛 (‵ ftrue ∷ ‵ (handle E a hv) ∷ []) ∵ drop ! $ drop ! $
        enter ! 𝓣.C 𝓣.Λ code.function (word_at hv null_ptr ∷ []) _ $ alloc_all ! (λ ls. pass_all ! refl ((and_tt (has_ty (α E.al) hv) fa.0, (record { fits = lit< tt }, (fa.1, tt))), tt) $
        sets ! (of_opd ! (get_in ! (fld ! refl (stop !)) (sub ! 0 refl (whole !)))) refl (tt, record { fits = lit< tt }) $ sets !
        (of_opd ! (get_in ! (fld ! refl (stop !)) (sub ! 1 refl (whole !)))) refl fa $
        sets ! (bin ! (get ! refl) (lit ! tt) (tests_null null_ptr (lit< tt))) refl (tt, tt) $
        first ! $ branches ! (get ! refl)
        (λ t. sets ! (agg ! (and_then ! (lit ! tt) (no_more !))) refl (tt, (record { fits = lit< tt }, tt)) $
        returns_within ! Post refl (look_at ! 0 refl) $ free_all ! refl $
        use0 𝓛 (‵ ((option.the_row held.the_row).own_val None (live 0 (of_list []) ∷ []))) (none_of 𝓛 held.the_row) $
        suffices ! _ (ends_at 𝓛 F.ended stayed (F.clauses 𝓛 at_mem run) z (live 0 (of_list [])) None (tt, tt) (tt, tt)) $ says ! e $
        nothing ! $ nothing ! $ fjoin ! $ join ! $ nothing ! $ join ! $ done !)
        (λ t. absurd t))

    one : (hv : Val) → Fits E.al hv → (b o : ℕ) (x : Desk.the_row.Denot) → z.0.3.0.desk ≡ Some x
        → ent 𝓤 (From_host (block_ptr b o) (Some x) hv) (WpFn 𝓤 H 𝓣.C 𝓣.Λ code.function (word_at hv (block_ptr b o) ∷ []) Post)
    one hv fa b o x e =
        let w : Val = word E hv b o in
        let d : D E = record { ptr = block_ptr b o; alloc = a; value = x } in
        let made : held.the_row.Denot = record { ptr = block_ptr b o; alloc = a; desk = x } in
        qed 𝓛 (‵ (held_owns a (block_ptr b o) x) ∷ ‵ (handle E a hv) ∷ []) ∵
        use1 𝓛 (given (Testable (block_ptr b o)) (‵ (held_owns a (block_ptr b o) x))) (tested (block_ptr b o) x) $ learn ! (λ may.
        fsplit ! $ box_in E ! d b o x refl refl $ use1 𝓛 (‵ (held.the_row.own_val made (w ∷ []))) (id⊢ 𝓤 _) $
        enter ! 𝓣.C 𝓣.Λ code.function (w ∷ []) _ $ alloc_all ! (λ ls. pass_all ! refl (box_typed E hv b o fa, tt) $
        sets ! (of_opd ! (get_in ! (fld ! refl (stop !)) (sub ! 0 refl (whole !)))) refl (tt, tt) $ sets ! (of_opd ! (get_in ! (fld ! refl (stop !)) (sub ! 1 refl (whole !)))) refl fa $
        sets ! (bin ! (get ! refl) (lit ! tt) (tests_null (block_ptr b o) may)) refl (tt, tt) $
        first ! $ branches ! (get ! refl) (λ t. absurd t)
        (λ t. skips ! $ exec ! 𝓣.C 𝓣.Λ (env code.function.locals ls) code.Mir.t-5 (at_ret (env code.function.locals ls) Post) $
        sets ! (agg ! (and_then ! (get ! refl) (and_then ! (get ! refl) (no_more !)))) refl (box_typed E hv b o fa) $
        sets ! (agg ! (and_then ! (lit ! tt) (and_then ! (get ! refl) (no_more !)))) refl (and_tt _ (box_typed E hv b o fa).0, (record { fits = lit< tt }, ((box_typed E hv b o fa).1, tt))) $
        returns ! (look_at ! 0 refl) $ free_all ! refl $
        use1 𝓛 (‵ ((option.the_row held.the_row).own_val (Some made) (live 1 (of_list (w ∷ [])) ∷ []))) (Some-of 𝓛 held.the_row made w) $
        suffices ! _ (ends_at 𝓛 F.ended stayed (F.clauses 𝓛 at_mem run) z (live 1 (of_list (w ∷ []))) (Some made) (tt, tt) (tt, tt)) $ says ! e $
        nothing ! $ nothing ! $ fjoin ! $ join ! $ nothing ! $ join ! $ done !)))

    -- by whether a desk is there, and by the pointer's form
    at : (hv : Val) → Fits E.al hv → (s : Ptr) (d : Option Desk.the_row.Denot) → z.0.3.0.ptr ≡ s → z.0.3.0.desk ≡ d → (d ≡ None → s ≡ null_ptr)
        → ent 𝓤 (From_host s d hv) (WpFn 𝓤 H 𝓣.C 𝓣.Λ code.function (word_at hv s ∷ []) Post)
    at hv fa null_ptr None e f none_there = none hv fa e
    at hv fa (block_ptr b o) None e f none_there = absurd (subst InBlock (none_there refl) tt)
    at hv fa null_ptr (Some x) e f none_there =
        let block : Ty = bare (lone Desk.the_row.mir) in
        let Owns : SProp 𝓤 = sem 𝓛 (held_owns a null_ptr x) in
        via 𝓤 (never 𝓤) (via 𝓤 Owns (fst∗ 𝓤 Owns (sem 𝓛 (handle E a hv))) (fst∗ 𝓤 (never 𝓤) (sem 𝓛 (ghosts.dealloc_token a block null_ptr)))) (never_e 𝓤 _)
    at hv fa (block_ptr b o) (Some x) e f none_there = one hv fa b o x f

  walk : (z : (walk_of 𝓛 F.ended stayed (F.clauses 𝓛 at_mem run)).Ghost)
      → ent 𝓤 ((walk_of 𝓛 F.ended stayed (F.clauses 𝓛 at_mem run)).pre z) (WpFn 𝓤 H 𝓣.C 𝓣.Λ code.function (z.0.4.0 ++ []) (Post z))
  walk z =
      let p = z.0.3.0.ptr in let vs : List Val = z.0.4.0 in
      qed 𝓛 ((‵ ftrue ⊛ ‵ (fsep ((type_at (From) tt).own_val z.0.3.0 vs) ftrue)) ∷ raw (fact 𝓤 (z.0.3.0.desk ≡ None → p ≡ null_ptr)) ∷ []) ∵ move ! (1 ∷ []) $ heard ! _
      (λ none_there. split ! $ drop ! $ fsplit ! $
      fsplit ! $ fpick ! (λ vss. fsplit ! $ feq_l ! (λ ev. fsplit ! $ feq_l ! (λ ep. fsplit ! $ handle_tells E.al ! z.0.3.0.alloc vss.1.0 (λ hv ea fa.
      let ws : vs ≡ word_at hv p ∷ [] =
      subst (λ (us : List Val). vs ≡ vstruct (of_list (ptr_val p ∷ (us ++ []))) ∷ []) ea (subst (λ (ps : List Val). vs ≡ vstruct (of_list (ps ++ (vss.1.0 ++ []))) ∷ []) ep ev) in
      keep ! (2 ∷ 0 ∷ []) $ by !
      (subst (λ (us : List Val). ent 𝓤 (From_host z p z.0.3.0.desk hv) (WpFn 𝓤 H 𝓣.C 𝓣.Λ code.function (us ++ []) (Post z))) (sym ws) (at z hv fa p z.0.3.0.desk refl refl none_there)))))))

pub into_held_spec : {M : Type 1} → stated.statement M
unfolding tables_of
into_held_spec 𝓤 𝓛 𝓜 𝓡 wired =
    let 𝓣 : Tables 𝓤 𝓛.H = tables_of 𝓤 𝓛.H 𝓜 (tables 𝓤 𝓛.H 𝓜 𝓡 𝓡.env) in
    entered 𝓤 𝓛.H (triple_of 𝓛 F.signature (F.spec 𝓛 𝓜.mem 𝓡.returns)) 𝓣.C 𝓣.Λ #self code.function (code.unfolded 𝓤 𝓛.H 𝓜 𝓡 wired)
    (walk_Meets 𝓛 F.ended stayed (Goes-dropped 𝓛 0 From yes (λ κs x f. refl), tt) (F.clauses 𝓛 𝓜.mem 𝓡.returns) (WpFn 𝓤 𝓛.H 𝓣.C 𝓣.Λ code.function) (WpFn-mono 𝓤 𝓛.H 𝓛.laws 𝓣 code.function)
    (walk 𝓛 𝓜.mem 𝓡.returns 𝓣))
