-- Cells that are looked at one after the other.
use Rattle.std.proofs.lemmas.List.Folds.{list_any_at, list_any_more}
use Rattle.std.proofs.lemmas.List.{take_all}

pub ruleset cells = (list_any_at, list_any_more, take_all)
