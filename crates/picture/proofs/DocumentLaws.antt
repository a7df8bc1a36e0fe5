-- Documents with the same parts are equal: their other fields are proofs, and of each there is only one.
use Rattle.std.proofs.Common.{ℕ, List}
use Rattle.std.proofs.Math.Bridge.{le_prop}
use Rattle.std.proofs.Math.Path.{to_path_p}
use Rattle.picture.specs.Rows.{Rows}
use Rattle.picture.specs.Document.{AreColoured, AreInside}
use Rattle.picture.specs.Palette.{Colours}
use Rattle.picture.specs.Laws.{SameContentsAreEqual}

coloured_one : (rows : Rows) (colours : Colours) → IsProp (AreColoured rows colours)
coloured_one rows colours = λ a b i row col. le_prop (a row col) (b row col) i

inside_one : (givens : List ℕ) (rows : Rows) → IsProp (AreInside givens rows)
inside_one givens rows = λ a b i row col has. (le_prop (a row col has).0 (b row col has).0 i, le_prop (a row col has).1 (b row col has).1 i)

pub same_contents : SameContentsAreEqual
same_contents one other e = λ i. record {
  palette = (e i).colours;
  picture = (e i).rows;
  givens = (e i).givens;
  coloured = to_path_p (λ j. AreColoured (e j).rows (e j).colours) {a = one.coloured} {b = other.coloured} (coloured_one other.picture other.palette _ _) i;
  inside = to_path_p (λ j. AreInside (e j).givens (e j).rows) {a = one.inside} {b = other.inside} (inside_one other.givens other.picture _ _) i;
}
