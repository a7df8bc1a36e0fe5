-- A history from the entries of its edits: one more at an end, and one less.
use Rattle.std.proofs.Common.{◌≡◌, ℕ, zero, suc, ◌+◌, ◌-◌, ◌<◌, Some, List, [], ◌∷◌, ◌++◌, length, take, drop, refl, sym, ap, subst, ◌∙◌, arith, slice_get}
use Rattle.std.proofs.lemmas.List.{length-append, take_more, take_all, take_at}
use Rattle.std.proofs.lemmas.Option.{slice_get_within, get_or_from_slice_get}
use Rattle.circular_buffer.proofs.Places.{slice_get-last}
use Rattle.edits.specs.Design.{Design}
use Rattle.edits.specs.Edit.{edited}
use Rattle.edits.specs.Note.{Note, IsStep, IsEntry, reverted}
use Rattle.edits.specs.History.{Turn, turn, before_all, past_from, future_from, ArePast}
use Rattle.edits.proofs.StepLemmas.{step_reverts}

-- the last item, apart from those before it
pub split_last : {X : Type 0} (xs : List X) (x : X) → slice_get xs (length xs - 1) ≡ Some x → xs ≡ take (length xs - 1) xs ++ x ∷ []
split_last xs x e =
    let within : length xs - 1 < length xs = slice_get_within xs (length xs - 1) x e in
    sym (take_all (length xs - 1 + 1) xs (omega (arith, within)))
    ∙ (take_more xs (length xs - 1) x within ∙ ap (λ y. take (length xs - 1) xs ++ y ∷ []) (get_or_from_slice_get xs (length xs - 1) x x e))

pub take_front : {X : Type 0} (xs : List X) (x : X) → take (length (xs ++ x ∷ []) - 1) (xs ++ x ∷ []) ≡ xs
take_front xs x = take_at xs (x ∷ []) (length (xs ++ x ∷ []) - 1) (omega (arith, length-append xs (x ∷ [])))

pub last_of : {X : Type 0} (xs : List X) (x : X) → slice_get (xs ++ x ∷ []) (length (xs ++ x ∷ []) - 1) ≡ Some x
last_of xs x = slice_get-last xs x (length (xs ++ x ∷ []) - 1) (omega (arith, length-append xs (x ∷ [])))

-- lengths
pub length-past_from : (d : Design) (ns : List Note) → length (past_from d ns) ≡ length ns
length-past_from d [] = refl
length-past_from d (n ∷ ns) = ap suc (length-past_from d ns)

pub length-future_from : (d : Design) (ns : List Note) → length (future_from d ns) ≡ length ns
length-future_from d [] = refl
length-future_from d (n ∷ ns) = ap suc (length-future_from (edited d n.edit) ns)

-- steps
pub step_entry : (d d' : Design) (n : Note) → IsStep d n d' → IsEntry d n
step_entry d d' n step = record { is_design = step.is_design; lawful = step.lawful; kept = step.kept }

pub entry_step : (d : Design) (n : Note) → IsEntry d n → IsStep d n (edited d n.edit)
entry_step d n is = record { is_design = is.is_design; lawful = is.lawful; kept = is.kept; gives = refl }

-- one edit more at the end of the past
before_all-push : (d : Design) (ns : List Note) (n : Note) → before_all d (ns ++ n ∷ []) ≡ before_all (reverted d n) ns
before_all-push d [] n = refl
before_all-push d (m ∷ ns) n = ap (λ (x : Design). reverted x m) (before_all-push d ns n)

pub past_from-last : (d : Design) (ns : List Note) (n : Note) → past_from d (ns ++ n ∷ []) ≡ past_from (reverted d n) ns ++ turn (reverted d n) n.edit ∷ []
past_from-last d [] n = refl
past_from-last d (m ∷ ns) n =
    ap (λ (x : Design). turn (reverted x m) m.edit ∷ past_from d (ns ++ n ∷ [])) (before_all-push d ns n)
    ∙ ap (λ (ts : List Turn). turn (before_all (reverted d n) (m ∷ ns)) m.edit ∷ ts) (past_from-last d ns n)

pub past_from-push : (d d' : Design) (ns : List Note) (n : Note) → IsStep d n d' → past_from d' (ns ++ n ∷ []) ≡ past_from d ns ++ turn d n.edit ∷ []
past_from-push d d' ns n step = grind (arith, past_from, past_from-last, step_reverts, turn)

pub ArePast-push : (d d' : Design) (ns : List Note) (n : Note) → IsStep d n d' → ArePast d ns → ArePast d' (ns ++ n ∷ [])
ArePast-push d d' [] n step are = (subst (λ (x : Design). IsStep x n d') (sym (step_reverts d n d' step)) step, tt)
ArePast-push d d' (m ∷ ns) n step are =
    let same : before_all d' (ns ++ n ∷ []) ≡ before_all d ns = before_all-push d' ns n ∙ ap (λ (x : Design). before_all x ns) (step_reverts d n d' step) in
    (subst (λ (x : Design). IsStep (reverted x m) m x) (sym same) are.0, ArePast-push d d' ns n step are.1)

-- the oldest ones left out
pub past_from-drop : (d : Design) (k : ℕ) (ns : List Note) → past_from d (drop k ns) ≡ drop k (past_from d ns)
past_from-drop d zero ns = refl
past_from-drop d (suc k) [] = refl
past_from-drop d (suc k) (n ∷ ns) = past_from-drop d k ns

pub ArePast-drop : (d : Design) (k : ℕ) (ns : List Note) → ArePast d ns → ArePast d (drop k ns)
ArePast-drop d zero ns are = are
ArePast-drop d (suc k) [] are = are
ArePast-drop d (suc k) (n ∷ ns) are = ArePast-drop d k ns are.1

-- the last edit of the past, and those before it
pub ArePast-pop : (d : Design) (ns : List Note) (n : Note) → ArePast d (ns ++ n ∷ []) → IsStep (reverted d n) n d × ArePast (reverted d n) ns
ArePast-pop d [] n are = (are.0, tt)
ArePast-pop d (m ∷ ns) n are =
    let rest = ArePast-pop d ns n are.1 in
    (rest.0, (subst (λ (x : Design). IsStep (reverted x m) m x) (before_all-push d ns n) are.0, rest.1))
