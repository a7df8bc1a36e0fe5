-- The first name that waits, in cyclic order, and the newest one.
use Rattle.std.proofs.Common.{◌≡◌, ◌≢◌, ℕ, ◌+◌, ◌-◌, ◌<◌, ◌≤◌, List, [], ◌∷◌, ◌++◌, length, set, take, refl, sym, ap, subst, ◌∙◌, arith, ◌⊎◌, inl, inr}
use Rattle.std.specs.Prelude.{IsBitSet}
use Rattle.std.proofs.lemmas.Bool.{cases_lt}
use Rattle.std.proofs.lemmas.List.{append-nil, append_assoc, take_more, take_more_set}
use Rattle.picture.specs.declared.line_id.Axis.{Axis}
use Rattle.picture.specs.declared.line_id.Axis.TheVariants.{Across, Down}
use Rattle.picture.specs.declared.line_id.LineId.{LineId}
use Rattle.picture.specs.LineSet.{Lines, IsLineSet, IsClearFrom, IsFirstBit, HasName, mask_along, no_names}
use Rattle.picture.specs.CrossingLines.{crossing}
use Rattle.fixpoint.specs.Agenda.{name_at}
use Rattle.fixpoint.specs.Orders.{IsNextRound, Pile, PutsAbove, PutsNewest, pile, place_along, place_of, places_on, round}
use Rattle.picture.proofs.LineSetLaws.{members}
use Rattle.fixpoint.proofs.NameLaws.{no_name_is_empty}

axis_or_other : (axis other : Axis) → (other ≡ axis) ⊎ (other ≡ crossing axis)
axis_or_other Across Across = inl refl
axis_or_other Across Down = inr refl
axis_or_other Down Across = inr refl
axis_or_other Down Down = inl refl

-- ---- how far ahead a place on one axis or the other is

on_ahead : (axis : Axis) (from at : ℕ) → from ≤ at → at < 120 → places_on (place_along axis from) (place_along axis at) ≡ at - from
on_ahead Across from at h l = omega arith
on_ahead Down from at h l = omega arith

on_behind : (axis : Axis) (from at : ℕ) → at < from → from ≤ 120 → places_on (place_along axis from) (place_along axis at) ≡ at + 240 - from
on_behind Across from at h l = omega arith
on_behind Down from at h l = omega arith

on_crossing : (axis : Axis) (from at : ℕ) → from ≤ 120 → at < 120 → places_on (place_along axis from) (place_along (crossing axis) at) ≡ at + 120 - from
on_crossing Across from at h l = omega arith
on_crossing Down from at h l = omega arith

-- ---- which name comes first

module _ (lines : Lines) (axis : Axis) (from : ℕ) (is : IsLineSet lines) (within : from ≤ 120) where
  -- a name that waits, along the axis or along the other one
  along : (line : LineId) → line.axis ≡ axis → places_on (place_along axis from) (place_of line) ≡ places_on (place_along axis from) (place_along axis line.at)
  along line e = ap (λ a. places_on (place_along axis from) (place_along a line.at)) e

  across : (line : LineId) → HasName lines line → line.axis ≡ crossing axis → places_on (place_along axis from) (place_of line) ≡ line.at + 120 - from
  across line has e = ap (λ a. places_on (place_along axis from) (place_along a line.at)) e ∙ on_crossing axis from line.at within (members.inside lines line is has)

  bit_along : (line : LineId) (a : Axis) → line.axis ≡ a → HasName lines line → IsBitSet (mask_along a lines) line.at
  bit_along line a e has = let P : Axis → Type 0 = λ x. IsBitSet (mask_along x lines) line.at in subst P e has

  pub next_ahead : (at : ℕ) → IsFirstBit (mask_along axis lines) from at → IsNextRound (round lines (place_along axis from)) (record { axis = axis; at = at })
  next_ahead at f =
      let here = on_ahead axis from at f.onward f.within in
      record {
        waits = f.is_set;
        first = λ other has. elim (axis_or_other axis other.axis) [
          | inl e ↦
              let same = along other e in
              let bit = bit_along other axis e has in
              elim (cases_lt other.at from) [
                | inl l ↦ let there = on_behind axis from other.at l within in omega arith
                | inr g ↦
                    let there = on_ahead axis from other.at g (members.inside lines other is has) in
                    elim (cases_lt other.at at) [ inl l ↦ absurd (f.first other.at g l bit) | inr m ↦ omega arith ]
              ]
          | inr e ↦ let there = across other has e in let a = f.within in omega arith
        ];
      }

  module _ (clear : IsClearFrom (mask_along axis lines) from) (others : Axis) (other_is : others ≡ crossing axis) where
    behind : (line : LineId) → line.axis ≡ axis → HasName lines line → line.at < from
    behind line e has = elim (cases_lt line.at from) [ inl l ↦ l | inr g ↦ absurd (clear line.at g (bit_along line axis e has)) ]

    pub next_crossing : (at : ℕ) → IsFirstBit (mask_along others lines) 0 at → IsNextRound (round lines (place_along axis from)) (record { axis = others; at = at })
    next_crossing at f =
        let here : places_on (place_along axis from) (place_along others at) ≡ at + 120 - from = across (record { axis = others; at = at }) f.is_set other_is in
        record {
          waits = f.is_set;
          first = λ other has. elim (axis_or_other axis other.axis) [
            | inl e ↦
                let same = along other e in
                let l = behind other e has in
                let there = on_behind axis from other.at l within in
                let a = f.within in
                omega arith
            | inr e ↦
                let there = across other has e in
                elim (cases_lt other.at at) [
                  | inl l ↦ absurd (f.first other.at (omega arith) l (bit_along other others (e ∙ sym other_is) has))
                  | inr m ↦ omega arith
                ]
          ];
        }

    module _ (none : IsClearFrom (mask_along others lines) 0) where
      none_across : (line : LineId) → line.axis ≡ crossing axis → HasName lines line → ⊥
      none_across line e has = none line.at (omega arith) (bit_along line others (e ∙ sym other_is) has)

      pub next_behind : (at : ℕ) → IsFirstBit (mask_along axis lines) 0 at → IsNextRound (round lines (place_along axis from)) (record { axis = axis; at = at })
      next_behind at f = grind (arith, along, axis_or_other, behind, bit_along, none_across, on_behind)

      pub no_next : IsClearFrom (mask_along axis lines) 0 → lines ≡ no_names
      no_next empty = no_name_is_empty lines (λ line has. elim (axis_or_other axis line.axis) [
        | inl e ↦ empty line.at (omega arith) (bit_along line axis e has)
        | inr e ↦ none_across line e has
      ])

-- ---- the newest name

pub newest_put : (old : Pile) (stack : List LineId) (len : ℕ) (lines new : Lines) (line : LineId) → pile lines (take len stack) ≡ old → (HasName lines line → ⊥) → len < length stack
    → PutsNewest old (pile new (take (len + 1) (set stack len line))) line
newest_put old stack len lines new line e n l =
    rw (← e) (record { known = λ h. absurd (n h); fresh = λ _. take_more_set stack len line l })

pub newest_taken : (old : Pile) (stack : List LineId) (len : ℕ) (lines : Lines) → pile lines (take len stack) ≡ old → (len ≡ 0 → ⊥) → len ≤ length stack
    → old.order ≡ take (len - 1) stack ++ name_at stack (len - 1) ∷ []
newest_taken old stack len lines e h l =
    let d : len ≢ 0 = h in
    let s : len ≡ len - 1 + 1 = omega arith in
    sym (ap (λ (p : Pile). p.order) e) ∙ (ap (λ n. take n stack) s ∙ take_more stack (len - 1) (record { axis = Across; at = 0 }) (omega arith))

-- ---- what is new, after what waited

pub nothing_above : (old : List LineId) → PutsAbove old old
nothing_above old = ([], sym (append-nil old))

pub above_both : (old half new : List LineId) → PutsAbove old half → PutsAbove half new → PutsAbove old new
above_both old half new a b = (a.0 ++ b.0, b.1 ∙ (ap (λ order. order ++ b.0) a.1 ∙ append_assoc old a.0 b.0))

pub above_put : (first : List LineId) (old new : Pile) (line : LineId) → PutsAbove first old.order → PutsNewest old new line → PutsAbove first new.order
above_put first old new line above put = elim (members.decided old.waiting line) [
  | inl has ↦ (above.0, put.known has ∙ above.1)
  | inr not ↦ above_both first old.order new.order above (line ∷ [], put.fresh not)
]
