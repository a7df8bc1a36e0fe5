use Rattle.std.proofs.Common.{List, ℕ, sym, subst}
use Rattle.second_search.specs.Parts.{IsScene}
use Rattle.live_audit.proofs.VerdictLemmas.{scene_is}
use Rattle.edits.proofs.DesignLemmas.{all_marked as marks_are_givens}
use Rattle.second_search.proofs.KnownLaws.{sound_facts}
use Rattle.live_audit.proofs.judging.scene_of.Goals as goal

pub returns-clause-scene : goal.returns-clause-scene
returns-clause-scene c =
    let P : List (List ℕ) → Type 0 = λ facts. IsScene c.args.audit.now.clues c.args.document.now.givens facts c.args.document.now.picture in
    subst P (sym c.facts.ensures.value) (scene_is marks_are_givens sound_facts c.args.document.now _ _ c.args.document.now.inside c.know.ensures.design.is_picture c.requires)

pub returns-clause-cells : goal.returns-clause-cells
returns-clause-cells c =
    let d = c.args.document.now in
    record { set = c.know.ensures.givens; are = marks_are_givens d.picture d.givens d.inside }
