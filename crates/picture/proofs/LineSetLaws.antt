-- Laws of sets of names of lines: when two are equal, and what their counts say.
use Rattle.std.proofs.Common.{◌≡◌, ℕ, ◌+◌, ◌^◌, ◌<◌, ◌≤◌, refl, sym, ap, ◌∙◌, subst, inl, inr, arith}
use Rattle.std.specs.Prelude.{IsBitSet, ◌⊎◌, count_ones}
use Rattle.std.proofs.lemmas.Bool.{cases_eq}
use Rattle.std.proofs.lemmas.Nat.{zero_from_ones, ones_le_self}
use Rattle.picture.specs.declared.picture.TheConstants.{MAX_SIDE}
use Rattle.picture.specs.declared.line_id.Axis.{Axis}
use Rattle.picture.specs.declared.line_id.Axis.TheVariants.{Across, Down}
use Rattle.picture.specs.declared.line_id.LineId.{LineId}
use Rattle.picture.specs.LineSet.{Lines, IsLineSet, mask_along, HasName, PutsName, TakesOutName, name_count, no_names}
use Rattle.picture.specs.Laws.{SameNamesAreEqual, NamesAreMembers, NamesComeBack}
use Rattle.picture.specs.LineSet.{PutsNames}
use Rattle.picture.proofs.BitLaws.{no_bit, bit_or_not, bit_below, same_bits, same_bits_below, bits_more, few_ones_of, fewer_ones_of}

-- a name is its axis and its place
pub same_name : (a b : LineId) → a.axis ≡ b.axis → a.at ≡ b.at → a ≡ b
same_name a b axis at = λ i. record { axis = axis i; at = at i }

across : ℕ → LineId
across at = record { axis = Across; at = at }

down : ℕ → LineId
down at = record { axis = Down; at = at }

same_masks : (one other : Lines) → one.rows ≡ other.rows → one.columns ≡ other.columns → one ≡ other
same_masks one other rows columns = λ i. record { rows = rows i; columns = columns i }

pub same_names : SameNamesAreEqual
unfolding across down
same_names one other is_one is_other same =
    same_masks one other (same_bits_below MAX_SIDE one.rows other.rows is_one.rows_within is_other.rows_within (λ k. same (across k)))
    (same_bits_below MAX_SIDE one.columns other.columns is_one.columns_within is_other.columns_within (λ k. same (down k)))

pub small_along : (lines : Lines) → IsLineSet lines → (axis : Axis) → mask_along axis lines < 2 ^ MAX_SIDE
small_along lines is Across = is.rows_within
small_along lines is Down = is.columns_within

name_in_none : (line : LineId) → ¬ HasName no_names line
name_in_none line has = no_bit line.at (subst (λ mask. IsBitSet mask line.at) (none line.axis) has)
  where
    none : (axis : Axis) → mask_along axis no_names ≡ 0
    none Across = refl
    none Down = refl

pub no_names_counted : name_count no_names ≡ 0
no_names_counted = let each = ones_le_self 0 in omega (arith, each)

none_when_zero : (lines : Lines) → name_count lines ≡ 0 → lines ≡ no_names
none_when_zero lines none = grind (arith, no_names, same_masks, zero_from_ones)

pub members : NamesAreMembers
members = record {
  decided = λ lines line. bit_or_not (mask_along line.axis lines) line.at;
  inside = λ lines line is has. bit_below (mask_along line.axis lines) MAX_SIDE line.at (small_along lines is line.axis) has;
  empty = name_in_none;
  counted = λ lines. (none_when_zero lines, λ e. ap name_count e ∙ no_names_counted);
}

pub same_axis : (a b : Axis) → (a ≡ b) ⊎ ¬ (a ≡ b)
same_axis Across Across = inl refl
same_axis Across Down = inr (λ e. cc)
same_axis Down Across = inr (λ e. cc)
same_axis Down Down = inl refl

-- two names are equal or not
pub cases_name : (a b : LineId) → (a ≡ b) ⊎ ¬ (a ≡ b)
cases_name a b = grind (arith, same_axis, same_name)

pub come_back : NamesComeBack
come_back = record {
  put_first = λ old with_it new line is_old is_new absent puts takes.
      same_names new old is_new is_old (λ other _. (
        (λ has. let both = (takes other).0 has in elim ((puts other).0 both.0) [ inl had ↦ had | inr e ↦ absurd (both.1 e) ]),
        (λ had. (takes other).1 ((puts other).1 (inl had), λ e. absent (subst (HasName old) e had))),
      ));
  taken_first = λ old without_it new line is_old is_new had takes puts.
      same_names new old is_new is_old (λ other _. (
        (λ has. elim ((puts other).0 has) [ inl kept ↦ ((takes other).0 kept).0 | inr e ↦ subst (HasName old) (sym e) had ]),
        (λ was. elim (cases_name other line) [ inl e ↦ (puts other).1 (inr e) | inr differs ↦ (puts other).1 (inl ((takes other).1 (was, differs))) ]),
      ));
}

-- ---- how many names there are

put_at : (axis : Axis) (at : ℕ) (old new : Lines) → PutsName old new (record { axis = axis; at = at }) → ¬ HasName old (record { axis = axis; at = at }) → name_count new ≡ name_count old + 1
unfolding across down
put_at Across at old new puts absent =
    let rows = bits_more at old.rows new.rows absent (λ i. (
      (λ is. elim ((puts (across i)).0 is) [ inl had ↦ inl had | inr e ↦ inr (ap (λ (line : LineId). line.at) e) ]),
      (λ either. elim either [ inl had ↦ (puts (across i)).1 (inl had) | inr e ↦ (puts (across i)).1 (inr (ap across e)) ]),
    )) in
    let columns = same_bits new.columns old.columns (λ i. (
      (λ is. elim ((puts (down i)).0 is) [ inl had ↦ had | inr e ↦ let x : Down ≡ Across = ap (λ (line : LineId). line.axis) e in absurd cc ]),
      (λ had. (puts (down i)).1 (inl had)),
    )) in
    omega (arith, rows, ap count_ones columns)
put_at Down at old new puts absent =
    let columns = bits_more at old.columns new.columns absent (λ i. (
      (λ is. elim ((puts (down i)).0 is) [ inl had ↦ inl had | inr e ↦ inr (ap (λ (line : LineId). line.at) e) ]),
      (λ either. elim either [ inl had ↦ (puts (down i)).1 (inl had) | inr e ↦ (puts (down i)).1 (inr (ap down e)) ]),
    )) in
    let rows = same_bits new.rows old.rows (λ i. (
      (λ is. elim ((puts (across i)).0 is) [ inl had ↦ had | inr e ↦ let x : Across ≡ Down = ap (λ (line : LineId). line.axis) e in absurd cc ]),
      (λ had. (puts (across i)).1 (inl had)),
    )) in
    omega (arith, columns, ap count_ones rows)

module _ (old new : Lines) (line : LineId) where
  pub more_put : PutsName old new line → ¬ HasName old line → name_count new ≡ name_count old + 1
  more_put puts absent = put_at line.axis line.at old new puts absent

  pub fewer_out : TakesOutName old new line → HasName old line → name_count new + 1 ≡ name_count old
  fewer_out takes has = sym (put_at line.axis line.at new old back (λ is. ((takes line).0 is).1 refl))
    where
      back : PutsName new old line
      back other = (
        (λ is. elim (cases_name other line) [ inl e ↦ inr e | inr differs ↦ inl ((takes other).1 (is, differs)) ]),
        (λ either. elim either [ inl is ↦ ((takes other).0 is).0 | inr e ↦ subst (HasName old) (sym e) has ]),
      )

  pub known_put : IsLineSet old → IsLineSet new → PutsName old new line → HasName old line → new ≡ old
  known_put is_old is_new puts has = grind (arith, same_names)

  pub absent_out : IsLineSet old → IsLineSet new → TakesOutName old new line → ¬ HasName old line → new ≡ old
  absent_out is_old is_new takes absent = grind (arith, same_names)

-- names put into a set make its count no smaller, and larger by at most their own count
pub put_all_counts : (old new names : Lines) → PutsNames old new names → (name_count old ≤ name_count new) × (name_count new ≤ name_count old + name_count names)
put_all_counts old new names puts =
    let rows = few_ones_of old.rows names.rows new.rows (λ k. (puts (record { axis = Across; at = k })).0) in
    let columns = few_ones_of old.columns names.columns new.columns (λ k. (puts (record { axis = Down; at = k })).0) in
    let kept_rows = fewer_ones_of new.rows old.rows (λ k is. (puts (record { axis = Across; at = k })).1 (inl is)) in
    let kept_columns = fewer_ones_of new.columns old.columns (λ k is. (puts (record { axis = Down; at = k })).1 (inl is)) in
    (omega arith, omega arith)

pub ruleset laws = (same_names, members, come_back)
