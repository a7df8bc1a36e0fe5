-- What a note adds to what was asked.
use Rattle.std.specs.Prelude.{◌+◌, [], ◌∷◌, ◌++◌}
use Rattle.nonobench.specs.declared.log.Note.{Note}
use Rattle.nonobench.specs.declared.log.Note.TheVariants.{Opened, NotOpened, NotRead}
use Rattle.nonobench.specs.Asked.{Asked}

abbrev pub noted : Asked → Note → Asked
noted so_far (Opened name) = record so_far { opened = so_far.opened ++ name.now ∷ [] }
noted so_far (NotOpened name) = record { opened = so_far.opened ++ name.now ∷ []; faults = so_far.faults + 1 }
noted so_far NotRead = record so_far { faults = so_far.faults + 1 }
