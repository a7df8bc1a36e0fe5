-- The figures of a tree: how many splits it has, and how many of these stand in each other.
use Rattle.std.specs.Prelude.{◌≡◌, ℕ, ◌+◌, Bool, true, false, count_by, max}
use Rattle.std.specs.List.{AllByRecursion}
use Rattle.picture.specs.Rows.{Rows}
use Rattle.cert_text.specs.declared.cert_line.CertLine.{CertLine}
use Rattle.cert_text.specs.declared.cert_line.CertLine.TheVariants.{Split}
use Rattle.cert_text.specs.Cert.{Certificate}
use Rattle.cert_check.specs.Puzzle.{HasCellNumber, base_of}
use Rattle.cert_check.specs.Tree.{Tree, Trees, done, dead, forced, split, none, more, written, Proves}
use Rattle.assess.specs.declared.guesses.Guesses.{Guesses}

abbrev pub is_split : CertLine → Bool
is_split (Split cell) = true
is_split _ = false

-- how many splits of a tree stand in each other at most: a split in a branch of another stands in it
abbrev mutual
  pub depth_of : Tree → ℕ
  depth_of done = 0
  depth_of (dead number) = 0
  depth_of (forced number tree) = depth_of tree
  depth_of (split cell trees) = depth_in trees + 1

  pub depth_in : Trees → ℕ
  depth_in none = 0
  depth_in (more tree trees) = max (depth_of tree) (depth_in trees)

abbrev pub tree_guesses : Tree → Guesses
tree_guesses tree = record { splits = count_by is_split (written tree); depth = depth_of tree }

-- the givens lie in the picture, and the lines are this tree, which proves the picture
abbrev pub IsTreeOf : Rows → Certificate → Tree → Type 0
IsTreeOf picture cert tree = AllByRecursion (HasCellNumber picture) cert.givens × (cert.lines ≡ written tree)
    × Proves picture (base_of picture cert.givens) tree

-- the figures of a certificate whose lines are a tree that proves a picture
abbrev pub HasGuesses : Rows → Certificate → Guesses → Type 0
HasGuesses picture cert guesses = (tree : Tree) → IsTreeOf picture cert tree → guesses ≡ tree_guesses tree
