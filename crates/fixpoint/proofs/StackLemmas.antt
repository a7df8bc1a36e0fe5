-- A stack of line names, as a worklist keeps them.
use Rattle.std.proofs.Common.{◌≡◌, ◌≢◌, ℕ, ◌+◌, ◌-◌, ◌<◌, List, set, sym, ap, subst, ◌∙◌, arith, inl, inr, get_or-set_same, get_or-set_other}
use Rattle.std.proofs.lemmas.Bool.{cases_eq}
use Rattle.std.proofs.lemmas.List.{length-set}
use Rattle.picture.specs.declared.line_id.Axis.TheVariants.{Across}
use Rattle.picture.specs.declared.line_id.LineId.{LineId}
use Rattle.picture.specs.LineSet.{Lines, IsLineSet, HasName, PutsName, TakesOutName}
use Rattle.picture.proofs.LineSetLaws.{more_put}
use Rattle.fixpoint.specs.Agenda.{IsStack, name_at}
use Rattle.fixpoint.proofs.NameLaws.{few_names, take_counts}

module _ (stack : List LineId) (len : ℕ) (old new : Lines) (line : LineId) (is : IsStack stack len old) (within : IsLineSet new) (p : PutsName old new line) (n : HasName old line → ⊥) where
  pub stack_room : len < 240
  stack_room = omega (arith, few_names new within, more_put old new line p n, is.count)

  same_below : (i : ℕ) → i < len → name_at (set stack len line) i ≡ name_at stack i
  same_below i l = get_or-set_other stack len i line (record { axis = Across; at = 0 }) (let d : i ≢ len = omega arith in d)

  same_top : name_at (set stack len line) len ≡ line
  same_top = get_or-set_same stack len line (record { axis = Across; at = 0 }) (let r = is.room in let l = stack_room in omega arith)

  fresh : (i : ℕ) → i < len → name_at (set stack len line) i ≡ line → ⊥
  fresh i h e = n (let P : LineId → Type 0 = λ x. HasName old x in subst P (sym (same_below i h) ∙ e) (is.members i h))

  pub pushed : IsStack (set stack len line) (len + 1) new
  pushed = record {
    within = within;
    count = omega (arith, more_put old new line p n, is.count);
    room = length-set stack len line ∙ is.room;
    members = λ i h. elim (cases_eq i len) [
      | inl e ↦ (p (name_at (set stack len line) i)).1 (inr (ap (name_at (set stack len line)) e ∙ same_top))
      | inr d ↦
          let low : i < len = omega arith in
          rw (same_below i low) ((p (name_at stack i)).1 (inl (is.members i low)))
    ];
    apart = λ i j h g e. elim (cases_eq i len) [
      | inl x ↦ elim (cases_eq j len) [
        | inl y ↦ x ∙ sym y
        | inr y ↦ absurd (fresh j (omega arith) (sym e ∙ (ap (name_at (set stack len line)) x ∙ same_top)))
      ]
      | inr x ↦ elim (cases_eq j len) [
        | inl y ↦ absurd (fresh i (omega arith) (e ∙ (ap (name_at (set stack len line)) y ∙ same_top)))
        | inr y ↦
            let a : i < len = omega arith in
            let b : j < len = omega arith in
            is.apart i j a b (sym (same_below i a) ∙ (e ∙ same_below j b))
      ]
    ];
  }

pub popped : (stack : List LineId) (len : ℕ) (old new : Lines) → IsStack stack (len + 1) old → IsLineSet new → TakesOutName old new (name_at stack len) → IsStack stack len new
popped stack len old new is within t =
    let top : len < len + 1 = omega arith in
    record {
      within = within;
      count = omega (arith, take_counts old new (name_at stack len) (is.members len top) t, is.count);
      room = is.room;
      members = λ i l.
          let h : i < len + 1 = omega arith in
          (t (name_at stack i)).1 (is.members i h, λ e. let same = is.apart i len h top e in absurd (omega arith));
      apart = λ i j l m e. is.apart i j (omega arith) (omega arith) e;
    }

pub below_one : (n : ℕ) → (n ≡ 0 → ⊥) → n - 1 < n
below_one n h = let d : n ≢ 0 = h in omega arith

pub popped_one : (stack : List LineId) (len : ℕ) (old new : Lines) → IsStack stack len old → (len ≡ 0 → ⊥) → IsLineSet new → TakesOutName old new (name_at stack (len - 1))
    → IsStack stack (len - 1) new
popped_one stack len old new is h within t =
    let d : len ≢ 0 = h in
    let e : len ≡ len - 1 + 1 = omega arith in
    popped stack (len - 1) old new (rw (← e) is) within t
