use Rattle.std.proofs.Common.{◌≡◌, List, [], ap, ◌∙◌}
use Rattle.line_facts.proofs.GridLaws.{full_shape}
use Rattle.line_facts.specs.Masks.{Masks}
use Rattle.picture.specs.Picture.{IsPicture}
use Rattle.picture.specs.Rows.{Rows}
use Rattle.cert_check.specs.declared.stage.Stage.TheVariants.{Free}
use Rattle.cert_check.specs.Lemmas.{no_lemmas}
use Rattle.cert_check.specs.Machined.{Machined, Ready}
use Rattle.cert_check.specs.Stores.{Stored}
use Rattle.cert_check.specs.Walk.{Walk, root, walk_of}
use Rattle.cert_check.proofs.Answering.{answers_exactly, answers_only_one, inside_first}
use Rattle.cert_check.proofs.checker.Checker.check.Goals as goal

pub set_givens-requires-clause-same_shape : goal.set_givens-requires-clause-same_shape
set_givens-requires-clause-same_shape g c = rw c.self.invariant.1 (full_shape c.self.inside.picture.now c.height.ensures.picture)

pub walk-requires-clause-can : goal.walk-requires-clause-can
walk-requires-clause-can g c =
    let same : c.self.inside.picture.now ≡ c.args.self.picture = ap {B = Rows} (λ (r : Ready). r.picture) c.self.view_is in
    record {
      is_picture = c.height.ensures.picture;
      clues_are = c.self.invariant.0;
      wide = rw same c.requires.wide;
      tall = rw same c.requires.tall;
    }

pub returns-clause-exact : goal.returns-clause-exact
returns-clause-exact g c =
    let inside = c.self.inside in
    let board = c.start-board.result in
    let facts = c.set_givens.new.facts in
    let same : inside.picture.now ≡ c.args.self.picture = ap {B = Rows} (λ (r : Ready). r.picture) c.self.view_is in
    let set = rw c.givens.ensures at c.in_ok-set_givens.ensures.facts in
    let has = rw c.givens.ensures at c.in_ok-set_givens.ensures.inside in
    let at_root : c.start-machine.result.walk ≡ root facts = ap {B = Walk} (λ (m : Machined). m.walk) c.start-machine.ensures
    ∙ (ap {B = Walk} (λ (s : Stored). walk_of board.at_hand board.behind s.lemmas s.denied Free) c.self.invariant.4
    ∙ (ap (λ (b : List Masks). walk_of board.at_hand b no_lemmas [] Free) c.start-board.ensures.behind
    ∙ ap (λ (f : Masks). walk_of f [] no_lemmas [] Free) c.start-board.ensures.at_hand)) in
    rw (← same)
    (inside_first inside.picture.now c.args.cert.now c.walk.result c.start-machine.result.walk inside.facts facts has c.self.invariant.1 set at_root c.walk.ensures.first)

pub returns-clause-proof : goal.returns-clause-proof
returns-clause-proof g c = answers_exactly c.args.self.picture c.args.cert.now c.walk.result (returns-clause-exact g c)

pub returns-clause-unique : goal.returns-clause-unique
returns-clause-unique g c =
    let same : c.self.inside.picture.now ≡ c.args.self.picture = ap {B = Rows} (λ (r : Ready). r.picture) c.self.view_is in
    let is : IsPicture c.args.self.picture = rw same at c.height.ensures.picture in
    answers_only_one c.args.self.picture c.args.cert.now c.walk.result is (returns-clause-exact g c)
