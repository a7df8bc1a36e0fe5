-- The roots of certificates, from which the searches for them begin.
use Rattle.std.specs.Prelude.{◌≡◌, ℕ, List}
use Rattle.picture.specs.Document.{AreInside}
use Rattle.picture.specs.Rows.{Rows}
use Rattle.clues.specs.ClueBook.{clues_of}
use Rattle.cert_check.specs.Puzzle.{base_of}
use Rattle.cert_check.specs.Walk.{CanCheck}
use Rattle.cert_text.specs.declared.cert_line.CellNumber.{CellNumber}
use Rattle.certificate.specs.declared.root.Root.{Root}
use Rattle.lemma_proof.specs.Naming.{NamesGivens}
use Rattle.second_search.specs.declared.scene.Scene.{Scene}
use Rattle.second_search.specs.Parts.{IsScene}

-- the picture's clues, exactly the givens by their numbers, and the base of these
pub record IsRootOf (picture : Rows) (givens : List ℕ) (root : Root) : Type 0 where
  pub clues : root.clues ≡ clues_of picture
  pub is_scene : IsScene root.clues givens root.facts picture
  pub names : NamesGivens picture givens root.cells.items
  pub base : root.facts ≡ base_of picture root.cells.items

-- a scene whose facts are the base of its givens, which these cells name; no line is longer than an engine takes
pub record IsRoot (scene : Scene) (cells : List CellNumber) (longest : ℕ) : Type 0 where
  pub can : CanCheck scene.picture.now scene.clues.now longest
  pub is_scene : IsScene scene.clues.now scene.givens.now scene.facts.now scene.picture.now
  pub inside : AreInside scene.givens.now scene.picture.now
  pub names : NamesGivens scene.picture.now scene.givens.now cells
  pub base : scene.facts.now ≡ base_of scene.picture.now cells
