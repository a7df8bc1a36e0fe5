-- Sets of cells as sets: when two are equal, and what their counts say.
use Rattle.std.proofs.Common.{◌≡◌, ℕ, ◌<◌, List, length, get_or, replicate, sym, ap, ◌∙◌, subst, inl, inr, arith, IsBitSet, ◌⊎◌, count_ones}
use Rattle.std.proofs.lemmas.Bool.{cases_lt, cases_eq}
use Rattle.std.proofs.lemmas.Grind.{same_number_lists}
use Rattle.std.proofs.lemmas.List.{get_or_past, get_or-replicate, length-replicate}
use Rattle.std.proofs.lemmas.List.Folds.{sum_by-replicate}
use Rattle.std.proofs.lemmas.List.Sums.{get_or-le-sum_by}
use Rattle.std.proofs.lemmas.Nat.{zero_from_ones, ones_le_self}
use Rattle.picture.specs.declared.picture.TheConstants.{MAX_SIDE}
use Rattle.picture.specs.CellSet.{IsCellSet, HasCell, cell_count, no_cells}
use Rattle.picture.specs.Laws.{SameCellsAreEqual, CellsAreMembers, CellsComeBack}
use Rattle.picture.proofs.BitLaws.{no_bit, bit_or_not, bit_below, same_bits_below}

pub same_cells : SameCellsAreEqual
same_cells one other is_one is_other same =
    same_number_lists one other (is_one.rows ∙ sym is_other.rows)
    (λ row lt. same_bits_below MAX_SIDE (get_or one row 0) (get_or other row 0) (is_one.within row) (is_other.within row) (λ col small. same row col (omega (arith, lt, is_one.rows)) small))

cell_inside : (cells : List ℕ) (row col : ℕ) → IsCellSet cells → HasCell cells row col → (row < MAX_SIDE) × (col < MAX_SIDE)
cell_inside cells row col is has = (
  elim (cases_lt row (length cells)) [
    | inl lt ↦ omega (arith, lt, is.rows)
    | inr past ↦ absurd (no_bit col (subst (λ mask. IsBitSet mask col) (get_or_past cells row 0 past) has))
  ],
  bit_below (get_or cells row 0) MAX_SIDE col (is.within row) has,
)

cell_in_none : (row col : ℕ) → ¬ HasCell no_cells row col
unfolding no_cells
cell_in_none row col has = no_bit col (subst (λ mask. IsBitSet mask col) (none row) has)
  where
    none : (row : ℕ) → get_or {A = ℕ} (replicate MAX_SIDE 0) row 0 ≡ 0
    none row = elim (cases_lt row MAX_SIDE) [
      | inl lt ↦ get_or-replicate MAX_SIDE row 0 0 lt
      | inr past ↦ get_or_past (replicate MAX_SIDE 0) row 0 past
    ]

pub none_counted : cell_count no_cells ≡ 0
unfolding no_cells
none_counted = let each = ones_le_self 0 in sum_by-replicate count_ones MAX_SIDE 0 ∙ omega (arith, each)

-- a set with count 0 is the empty one
none_when_zero : (cells : List ℕ) → IsCellSet cells → cell_count cells ≡ 0 → cells ≡ no_cells
unfolding no_cells
none_when_zero cells is zero_cells =
    same_number_lists cells (replicate MAX_SIDE 0) (is.rows ∙ sym (length-replicate {A = ℕ} MAX_SIDE 0))
    (λ row lt. zero_from_ones (get_or cells row 0) (omega (arith, get_or-le-sum_by count_ones cells row 0 lt)) ∙ sym (get_or-replicate {A = ℕ} MAX_SIDE row 0 0 (omega (arith, lt, is.rows))))

pub members : CellsAreMembers
members = record {
  decided = λ cells row col. bit_or_not (get_or cells row 0) col;
  inside = cell_inside;
  empty = cell_in_none;
  counted = λ cells is. (none_when_zero cells is, λ e. ap cell_count e ∙ none_counted);
}

pub come_back : CellsComeBack
come_back = record {
  put_first = λ old with_it new row col is_old is_new absent puts takes.
      same_cells new old is_new is_old (λ r c _ _. (
        (λ has. let both = (takes r c).0 has in elim ((puts r c).0 both.0) [ inl had ↦ had | inr at ↦ absurd (both.1 at) ]),
        (λ had. (takes r c).1 ((puts r c).1 (inl had), λ at. absent (moved old r c row col at had))),
      ));
  taken_first = λ old without_it new row col is_old is_new had takes puts.
      same_cells new old is_new is_old (λ r c _ _. (
        (λ has. elim ((puts r c).0 has) [ inl kept ↦ ((takes r c).0 kept).0 | inr at ↦ moved old row col r c (sym at.0, sym at.1) had ]),
        (λ was. elim (cases_cell r c row col) [ inl at ↦ (puts r c).1 (inr at) | inr other ↦ (puts r c).1 (inl ((takes r c).1 (was, other))) ]),
      ));
}
  where
    moved : (cells : List ℕ) (r c row col : ℕ) → (r ≡ row) × (c ≡ col) → HasCell cells r c → HasCell cells row col
    moved cells r c row col at has = subst (λ j. HasCell cells row j) at.1 (subst (λ i. HasCell cells i c) at.0 has)

    cases_cell : (r c row col : ℕ) → ((r ≡ row) × (c ≡ col)) ⊎ ¬ ((r ≡ row) × (c ≡ col))
    cases_cell r c row col = grind arith

pub ruleset laws = (same_cells, members, come_back)
