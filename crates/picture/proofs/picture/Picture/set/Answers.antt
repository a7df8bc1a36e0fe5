use Rattle.std.proofs.Common.{◌∙◌, ap, arith}
use Rattle.picture.specs.Rows.{with_cell}
use Rattle.picture.proofs.FlatLaws.{place_inside, rows_of-set}
use Rattle.picture.proofs.FlatLemmas.{facts}
use Rattle.picture.proofs.picture.Picture.set.Goals as goal

pub index_mut-requires : goal.index_mut-requires
index_mut-requires c = grind (arith, facts, place_inside)

pub returns : goal.returns
returns c = grind (arith, facts, rows_of-set, with_cell)
