-- What is found of a puzzle without a search.
use Rattle.std.specs.Prelude.{◌≡◌}
use Rattle.picture.specs.declared.document.Document.{Document}
use Rattle.clues.specs.ClueBook.{clues_of}
use Rattle.flaws.specs.Alike.{alike_pairs}
use Rattle.assess.specs.declared.looking.Looked.{Looked}
use Rattle.assess.specs.Settling.{HasFigures, IsMap}

pub record IsLooked (document : Document) (looked : Looked) : Type 0 where
  pub book : looked.book ≡ clues_of document.picture
  pub map : IsMap document.picture document.givens looked.map
  pub figures : HasFigures document.picture document.givens looked.figures
  pub alike : looked.alike.items ≡ alike_pairs document.palette document.picture
