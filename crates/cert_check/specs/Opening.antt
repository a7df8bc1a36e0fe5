-- What is known of the literals that are open.
use Rattle.std.specs.Prelude.{◌<◌, List, [], ◌∷◌}
use Rattle.line_facts.specs.Masks.{Masks}
use Rattle.cert_text.specs.declared.cert_line.Literal.{Literal}
use Rattle.cert_check.specs.declared.opening.Open.{Open}
use Rattle.cert_check.specs.declared.opening.Open.TheVariants.{Nothing, One, More}
use Rattle.cert_check.specs.Lemmas.{left_of}

-- how many literals are open: none, this one, or more
abbrev pub told_open : List Literal → Open
told_open [] = Nothing
told_open (literal ∷ []) = One literal
told_open (literal ∷ next ∷ literals) = More

-- the only one that is open has a colour left
abbrev pub HasLeft : Masks → Open → Type 0
HasLeft facts (One literal) = 0 < left_of facts literal
HasLeft facts _ = Unit {0}
