use Rattle.std.proofs.Common.{◌∙◌, sym, arith}
use Rattle.std.proofs.lemmas.List.{get_or_read}
use Rattle.picture.proofs.FlatLemmas.{facts}
use Rattle.picture.proofs.picture.Picture.cell.Goals as goal
use Rattle.picture.proofs.FlatLaws.{place_inside}

pub index-requires : goal.index-requires
index-requires c = grind (arith, facts, place_inside)

pub returns-clause-value : goal.returns-clause-value
returns-clause-value c = grind (arith, facts, get_or_read, place_inside)
