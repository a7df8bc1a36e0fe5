use Rattle.std.proofs.Common.{ap, not}
use Rattle.assess.proofs.assessing.described.Goals as goal

pub returns-clause-described : goal.returns-clause-described
returns-clause-described c = record {
  height = c.height.ensures.value;
  width = c.width.ensures.value;
  colours = c.count_colours.ensures;
  givens = c.len.ensures.value;
  figures = c.requires.figures;
  blank = ap not c.is_painted.ensures;
  background = ap not c.has_colour.ensures;
  alike = c.requires.alike;
}
