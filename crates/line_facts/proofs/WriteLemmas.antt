-- A line written in the flat list of a grid's masks.
use Rattle.std.proofs.Common.{◌≡◌, ℕ, ◌+◌, ◌*◌, ◌^◌, ◌<◌, ◌≤◌, List, sym, ap, ◌∙◌, arith, length, get_or, set}
use Rattle.picture.specs.declared.line_id.Axis.TheVariants.{Across, Down}
use Rattle.picture.specs.declared.line_id.LineId.{LineId}
use Rattle.picture.specs.Rows.{rows_of, line_of, HasLine}
use Rattle.picture.proofs.FlatLaws.{place_inside, rows_of-set}
use Rattle.line_facts.specs.FactSets.{AreMasks, HoldsLine, row_on, col_on}
use Rattle.line_facts.proofs.AlongLaws.{Written, across_length, down_length, place_on, written_all, written_more, written_none}
use Rattle.line_facts.proofs.GridLaws.{same_has_line, same_line_length}
use Rattle.line_facts.proofs.FactLemmas.{are_masks_set, known_flat}

-- the first n masks are written along a line, and elsewhere all is as it was
pub record IsWriting (height width : ℕ) (old cells : List ℕ) (line : LineId) (masks : List ℕ) (n : ℕ) : Type 0 where
  pub cells_are : AreMasks height width cells
  pub written : Written line (rows_of height width old) (rows_of height width cells) masks n

module _ (height width : ℕ) (old : List ℕ) (line : LineId) (masks : List ℕ) (is : AreMasks height width old) (has : HasLine (rows_of height width old) line)
    (whole : length masks ≡ length (line_of (rows_of height width old) line)) where
  pub none_written : IsWriting height width old old line masks 0
  none_written = record { cells_are = is; written = written_none line (rows_of height width old) masks }

  pub all_written : (cells : List ℕ) (n : ℕ) → length masks ≤ n → IsWriting height width old cells line masks n → HoldsLine line (rows_of height width old) (rows_of height width cells) masks
  all_written cells n past w = written_all line (rows_of height width old) (rows_of height width cells) masks n whole past w.written

  pub row_long : line.axis ≡ Across → length masks ≡ width
  row_long e = let k = known_flat height width old is in whole ∙ (sym (across_length (rows_of height width old) line e k.facts has) ∙ k.wide)

  pub column_long : line.axis ≡ Down → length masks ≡ height
  column_long e = let k = known_flat height width old is in whole ∙ (sym (down_length (rows_of height width old) line e) ∙ k.tall)

  module _ (cells : List ℕ) (i : ℕ) (inside : i < length masks) (w : IsWriting height width old cells line masks i) where
    on : (row_on line.axis line.at i < height) × (col_on line.axis line.at i < width)
    on =
        let k = known_flat height width cells w.cells_are in
        let same = same_line_length (rows_of height width old) (rows_of height width cells) line w.written.same_shape in
        let p = place_on (rows_of height width cells) line i k.facts (same_has_line (rows_of height width old) (rows_of height width cells) line w.written.same_shape has) (omega arith) in
        ((let t = k.tall in omega (arith, p.0)), (let t = k.wide in omega (arith, p.1)))

    pub one_more : (place mask : ℕ) → place ≡ row_on line.axis line.at i * width + col_on line.axis line.at i → mask ≡ get_or masks i 0 → mask < 2 ^ 16
        → IsWriting height width old (set cells place mask) line masks (i + 1)
    one_more place mask e is_mask small =
        let k = known_flat height width cells w.cells_are in
        record {
          cells_are = are_masks_set height width cells place mask w.cells_are small;
          written = written_more line (rows_of height width old) (rows_of height width cells) (rows_of height width (set cells place mask)) masks i mask k.facts has whole inside is_mask w.written
              (ap (λ p. rows_of height width (set cells p mask)) e ∙ rows_of-set height width cells (row_on line.axis line.at i) (col_on line.axis line.at i) mask on.0 on.1);
        }

    pub place_in : (place : ℕ) → place ≡ row_on line.axis line.at i * width + col_on line.axis line.at i → place < length cells
    place_in place e = let p = place_inside height width (row_on line.axis line.at i) (col_on line.axis line.at i) on.0 on.1 in let c = w.cells_are.count in omega (arith, e, p, c)

-- the place of a cell of a row in the flat list, and of a cell of a column
pub across_place : (line : LineId) (width i a b c : ℕ) → line.axis ≡ Across → a ≡ line.at → b ≡ width → c ≡ i → a * b + c ≡ row_on line.axis line.at i * width + col_on line.axis line.at i
across_place line width i a b c e p q r = (λ k. p k * q k + r k) ∙ sym (ap (λ x. row_on x line.at i * width + col_on x line.at i) e)

pub down_place : (line : LineId) (width i a b c : ℕ) → line.axis ≡ Down → a ≡ i → b ≡ width → c ≡ line.at → a * b + c ≡ row_on line.axis line.at i * width + col_on line.axis line.at i
down_place line width i a b c e p q r = (λ k. p k * q k + r k) ∙ sym (ap (λ x. row_on x line.at i * width + col_on x line.at i) e)
