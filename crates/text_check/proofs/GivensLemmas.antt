-- Lines of givens read one by one into a set.
use Rattle.std.proofs.Common.{◌≡◌, ℕ, ◌+◌, ◌≤◌, ◌&&◌, ◌||◌, Bool, true, false, cond, List, [], ◌∷◌, ◌++◌, Option, None, Some, Result, Ok, Err, eqb, leb, ltb, eq-eqb, eqb-true, refl, sym, ap, subst}
use Rattle.std.proofs.Common.{◌∙◌, arith, inl, inr, zero, suc}
use Rattle.std.specs.List.{Contains, list_any}
use Rattle.std.proofs.lemmas.Bool.{and_from, and_parts, leb-true}
use Rattle.std.proofs.lemmas.List.Folds.{list_any_at}
use Rattle.std.proofs.lemmas.List.Elements.{Contains-append_left, Contains-push, Contains-push_cases}
use Rattle.picture.specs.CellSet.{HasCell, PutsCell}
use Rattle.picture.specs.Readers.{◌>>=◌}
use Rattle.cert_text.specs.declared.cert_line.CellNumber.{CellNumber}
use Rattle.cert_text.specs.Text.{cell_number}
use Rattle.text_check.specs.declared.givens_fault.GivensFault.{GivensFault}
use Rattle.text_check.specs.declared.givens_fault.GivensFault.TheVariants.{BadLine, Repeated, Place}
use Rattle.text_check.specs.Givens.{AreInside, IsRead, IsSetOf, cell_of, cells_below, given_on, is_cell, is_inside}

-- ---- cells among others

same_cell : (a b : CellNumber) → a.row ≡ b.row → a.col ≡ b.col → a ≡ b
same_cell a b r c = ap (λ (n : ℕ). cell_number n a.col) r ∙ ap (λ (n : ℕ). cell_number b.row n) c

is_itself : (cell : CellNumber) → is_cell cell cell ≡ true
is_itself cell = and_from (eqb cell.row cell.row) (eqb cell.col cell.col) (eq-eqb cell.row cell.row refl) (eq-eqb cell.col cell.col refl)

among_is : (cell : CellNumber) (cells : List CellNumber) → list_any (is_cell cell) cells ≡ true → Contains cells cell
among_is cell [] e = absurd cc
among_is cell (other ∷ cells) e = by (is_cell cell other) refl e (among_is cell cells)
  where
    by : (b : Bool) → is_cell cell other ≡ b → (b || list_any (is_cell cell) cells) ≡ true → (list_any (is_cell cell) cells ≡ true → Contains cells cell) → Contains (other ∷ cells) cell
    by true f g rest =
        let parts = and_parts (eqb cell.row other.row) (eqb cell.col other.col) f in
        (zero, omega arith, sym (same_cell cell other (eqb-true cell.row other.row parts.0) (eqb-true cell.col other.col parts.1)))
    by false f g rest = let m = rest g in (suc m.0, omega (arith, m.1), m.2)

is_among : (cell : CellNumber) (cells : List CellNumber) → Contains cells cell → list_any (is_cell cell) cells ≡ true
is_among cell cells m = list_any_at (is_cell cell) cells m.0 cell m.1 (subst (λ (x : CellNumber). is_cell cell x ≡ true) (sym m.2) (is_itself cell))

within : (height width : ℕ) (cell : CellNumber) → is_inside height width cell ≡ true → (cell.row ≤ height) × (cell.col ≤ width)
within height width cell e =
    let parts = and_parts (ltb 0 cell.row && leb cell.row height) (ltb 0 cell.col && leb cell.col width) e in
    let rows = and_parts (ltb 0 cell.row) (leb cell.row height) parts.0 in
    let columns = and_parts (ltb 0 cell.col) (leb cell.col width) parts.1 in
    (leb-true cell.row height rows.1, leb-true cell.col width columns.1)

-- ---- the set so far

-- reading on from here, behind the cells of the set, gives what reading the whole text gives
pub record SetLeft (height width : ℕ) (set : List ℕ) (n : ℕ) (lines : List (List ℕ)) (whole : Result (List CellNumber) GivensFault) : Type 0 where
  pub cells : List CellNumber
  pub exact : IsSetOf set cells
  pub inside : AreInside height width set
  pub is : cells_below height width cells n lines ≡ whole

pub set_start : (height width : ℕ) (set : List ℕ) (lines : List (List ℕ)) → ((r c : ℕ) → HasCell set r c → ⊥) → SetLeft height width set 1 lines (cells_below height width [] 1 lines)
set_start height width set lines none = record {
  cells = [];
  exact = λ row col. (λ h. absurd (none row col h), λ m. absurd (omega (arith, m.1)));
  inside = λ row col h. absurd (none row col h);
  is = refl;
}

module _ (height width : ℕ) (set : List ℕ) (n : ℕ) (lines : List (List ℕ)) (whole : Result (List CellNumber) GivensFault) (left : SetLeft height width set n lines whole) where
  module _ (text : List ℕ) (rest : List (List ℕ)) (e : lines ≡ text ∷ rest) where
    by_line : (o : Option CellNumber) → o ≡ given_on text → (cell_of height width left.cells n o >>= λ cell. cells_below height width (left.cells ++ cell ∷ []) (n + 1) rest) ≡ whole
    unfolding cells_below
    by_line o g =
        ap (λ (p : Option CellNumber). cell_of height width left.cells n p >>= λ cell. cells_below height width (left.cells ++ cell ∷ []) (n + 1) rest) g
        ∙ (ap (cells_below height width left.cells n) (sym e) ∙ left.is)

    pub set_bad : None ≡ given_on text → whole ≡ Err (BadLine n)
    set_bad g = sym (by_line None g)

    module _ (cell : CellNumber) (g : Some cell ≡ given_on text) where
      then_cell : (r : Result CellNumber GivensFault) → cell_of height width left.cells n (Some cell) ≡ r → (r >>= λ found. cells_below height width (left.cells ++ found ∷ []) (n + 1) rest) ≡ whole
      then_cell r f = ap (λ (p : Result CellNumber GivensFault). p >>= λ found. cells_below height width (left.cells ++ found ∷ []) (n + 1) rest) (sym f) ∙ by_line (Some cell) g

      pub set_place : is_inside height width cell ≡ false → whole ≡ Err (Place n)
      set_place out =
          sym (then_cell (Err (Place n)) (ap (λ (b : Bool). cond b (cond (list_any (is_cell cell) left.cells) (Err (Repeated n)) (Ok cell)) (Err (Place n))) out))

      module _ (row col : ℕ) (inside : is_inside height width cell ≡ true) (r : row + 1 ≡ cell.row) (c : col + 1 ≡ cell.col) where
        here : cell_number (row + 1) (col + 1) ≡ cell
        here = same_cell (cell_number (row + 1) (col + 1)) cell r c

        in_order : (b : Bool) → list_any (is_cell cell) left.cells ≡ b → cell_of height width left.cells n (Some cell) ≡ cond b (Err (Repeated n)) (Ok cell)
        in_order b f =
            ap (λ (t : Bool). cond t (cond (list_any (is_cell cell) left.cells) (Err (Repeated n)) (Ok cell)) (Err (Place n))) inside
            ∙ ap (λ (t : Bool). cond t (Err (Repeated n)) (Ok cell)) f

        pub set_repeated : HasCell set row col → whole ≡ Err (Repeated n)
        set_repeated has =
            sym (then_cell (Err (Repeated n)) (in_order true (is_among cell left.cells (subst (Contains left.cells) here ((left.exact row col).0 has)))))

        pub set_more : (new : List ℕ) → (HasCell set row col → ⊥) → PutsCell set new row col → SetLeft height width new (n + 1) rest whole
        set_more new lacks puts = record {
          cells = left.cells ++ cell ∷ [];
          exact = λ i j. (
            λ h. elim ((puts i j).0 h) [
              | inl old ↦ Contains-append_left left.cells (cell ∷ []) (cell_number (i + 1) (j + 1)) ((left.exact i j).0 old)
              | inr p ↦
                  (let e : cell ≡ cell_number (i + 1) (j + 1) = same_cell cell (cell_number (i + 1) (j + 1)) (omega (arith, r, p.0)) (omega (arith, c, p.1)) in
                  subst (Contains (left.cells ++ cell ∷ [])) e (Contains-push left.cells cell))
            ],
            λ m. elim (Contains-push_cases left.cells cell (cell_number (i + 1) (j + 1)) m) [
              | inl old ↦ (puts i j).1 (inl ((left.exact i j).1 old))
              | inr e ↦
                  (let rows : cell.row ≡ i + 1 = ap (λ (x : CellNumber). x.row) e in
                  let columns : cell.col ≡ j + 1 = ap (λ (x : CellNumber). x.col) e in
                  (puts i j).1 (inr (omega (arith, r, rows), omega (arith, c, columns))))
            ],
          );
          inside = λ i j h. elim ((puts i j).0 h) [
            | inl old ↦ left.inside i j old
            | inr p ↦ (let w = within height width cell inside in (omega (arith, r, p.0, w.0), omega (arith, c, p.1, w.1)))
          ];
          is = then_cell (Ok cell) (in_order false (not_among (list_any (is_cell cell) left.cells) refl));
        }
          where
            not_among : (b : Bool) → list_any (is_cell cell) left.cells ≡ b → list_any (is_cell cell) left.cells ≡ false
            not_among true f = absurd (lacks ((left.exact row col).1 (subst (Contains left.cells) (sym here) (among_is cell left.cells f))))
            not_among false f = f

  pub set_end : lines ≡ [] → IsRead whole (Ok set)
  unfolding cells_below
  set_end e = (left.cells, (sym left.is ∙ ap (cells_below height width left.cells n) e, left.exact))

pub ruleset reading = (set_start, set_bad, set_place, set_repeated, set_more, set_end)
