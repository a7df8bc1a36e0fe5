-- Trees of lines, and what a tree proves.
use Rattle.std.specs.Prelude.{◌≡◌, ℕ, List, [], ◌∷◌, ◌++◌}
use Rattle.std.specs.List.{AllByRecursion}
use Rattle.line_facts.specs.Masks.{Masks}
use Rattle.picture.specs.Rows.{Rows}
use Rattle.cert_text.specs.declared.cert_line.LineNumber.{LineNumber}
use Rattle.cert_text.specs.declared.cert_line.CellNumber.{CellNumber}
use Rattle.cert_text.specs.declared.cert_line.CertLine.{CertLine}
use Rattle.cert_text.specs.declared.cert_line.CertLine.TheVariants.{Line, Split, Dead, Done}
use Rattle.cert_text.specs.Cert.{Certificate}
use Rattle.cert_check.specs.Puzzle.{HasCellNumber, HasLineNumber, IsDead, IsForced, ShowsOnly, base_of}
use Rattle.cert_check.specs.Puzzle.{line_id, split_at}

mutual
  pub data Tree : Type 0 where
    done : Tree
    dead : LineNumber → Tree
    forced : LineNumber → Tree → Tree
    split : CellNumber → Trees → Tree

  pub data Trees : Type 0 where
    none : Trees
    more : Tree → Trees → Trees

-- the lines of a tree from its root, each branch complete before the next
abbrev mutual
  pub written : Tree → List CertLine
  written done = Done ∷ []
  written (dead number) = Dead number ∷ []
  written (forced number tree) = Line number ∷ written tree
  written (split cell trees) = Split cell ∷ each_written trees

  pub each_written : Trees → List CertLine
  each_written none = []
  each_written (more tree trees) = written tree ++ each_written trees

-- A tree proves a picture from facts. At `done` no colour but the picture's is left. At `dead` no list of colours fits
-- the line. After a `line` the rest proves it with all that the line forces. At a `split` each branch proves it: one
-- for each colour that is left in the cell.
abbrev mutual
  pub Proves : Rows → Masks → Tree → Type 0
  Proves picture facts done = ShowsOnly picture facts
  Proves picture facts (dead number) = HasLineNumber picture number × IsDead picture facts (line_id number)
  Proves picture facts (forced number tree) =
      HasLineNumber picture number
      × ((gained : Masks) × (IsForced picture facts (line_id number) gained × Proves picture gained tree))
  Proves picture facts (split cell trees) = HasCellNumber picture cell × EachProves picture (split_at facts cell) trees

  -- as many trees as there are facts, each of which proves the picture from its own
  pub EachProves : Rows → List (List (List ℕ)) → Trees → Type 0
  EachProves picture [] none = Unit {0}
  EachProves picture (facts ∷ others) (more tree trees) = Proves picture facts tree × EachProves picture others trees
  EachProves picture _ _ = ⊥

-- The givens lie in the picture, and the lines are a tree that proves it from the facts of the givens.
pub record IsProof (picture : Rows) (cert : Certificate) : Type 0 where
  pub inside : AllByRecursion (HasCellNumber picture) cert.givens
  pub tree : Tree
  pub lines : cert.lines ≡ written tree
  pub proves : Proves picture (base_of picture cert.givens) tree
