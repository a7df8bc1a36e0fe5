-- A document seen as its parts.
use Rattle.picture.specs.declared.document.Document.{Document}
use Rattle.picture.specs.Document.{Content}

abbrev pub content_of : Document → Content
content_of d = record { colours = d.palette; rows = d.picture; givens = d.givens }
