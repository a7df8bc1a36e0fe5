-- Scenes that can be searched.
use Rattle.std.specs.Prelude.{ℕ, ◌≤◌, length}
use Rattle.second_search.specs.declared.scene.Scene.{Scene}
use Rattle.second_search.specs.Parts.{Board, IsScene, board}

-- a scene that a search for another picture may start from
abbrev pub IsWhole : Scene → Type 0
IsWhole scene = IsScene scene.clues.now scene.givens.now scene.facts.now scene.picture.now

-- the clues, facts and picture of a scene
abbrev pub board_of : Scene → Board
board_of scene = board scene.clues.now scene.facts.now scene.picture.now

-- a scene that a search may start from, in which no line is longer than an engine takes
pub record CanSearch (scene : Scene) (longest : ℕ) : Type 0 where
  pub is_scene : IsScene scene.clues.now scene.givens.now scene.facts.now scene.picture.now
  pub tall : length scene.clues.now.rows ≤ longest
  pub wide : length scene.clues.now.columns ≤ longest
