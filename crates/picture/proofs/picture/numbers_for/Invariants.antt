use Rattle.std.proofs.Common.{◌≡◌, take, map}
use Rattle.picture.specs.Palette.{AreAmong}
use Rattle.picture.specs.Document.{with_seen, triples_of, number_among}
use Rattle.picture.proofs.picture.numbers_for.Given as goal

abbrev pub invariant-loop-cell : goal.invariant-loop-cell
invariant-loop-cell l = record {
  among : AreAmong l.palette l.colours;
  palette : l.palette ≡ with_seen l.fn.palette (triples_of l.colours.triples (take l.cell-index l.cells));
  numbers : l.numbers.items ≡ map (number_among l.palette.triples) (triples_of l.colours.triples (take l.cell-index l.cells));
}
