use Rattle.std.proofs.Common.{◌≡◌, ◌∙◌, ap, arith, length}
use Rattle.picture.specs.declared.line_id.Axis.TheVariants.{Across, Down}
use Rattle.picture.specs.Rows.{width_of}
use Rattle.clues.specs.ClueBook.{Clues}
use Rattle.second_search.proofs.KnownLaws.{clues_are_of_lines}
use Rattle.certificate.proofs.proving.find_proof.Goals as goal

pub find_near_other-requires-clause-scene : goal.find_near_other-requires-clause-scene
find_near_other-requires-clause-scene g c = c.in_ok-root.ensures.is_scene

pub find_near_other-requires-clause-tall : goal.find_near_other-requires-clause-tall
find_near_other-requires-clause-tall g c =
    let rows : length c.in_ok-root.root.clues.rows ≡ length c.args.picture.now = ap (λ (k : Clues). length k.rows) c.in_ok-root.ensures.clues ∙ clues_are_of_lines.sizes c.args.picture.now Across in
    omega arith

pub find_near_other-requires-clause-wide : goal.find_near_other-requires-clause-wide
find_near_other-requires-clause-wide g c =
    let columns : length c.in_ok-root.root.clues.columns ≡ width_of c.args.picture.now =
    ap (λ (k : Clues). length k.columns) c.in_ok-root.ensures.clues ∙ clues_are_of_lines.sizes c.args.picture.now Down in
    omega arith

pub proof_within-requires : goal.proof_within-requires
proof_within-requires g c =
    let root = c.in_ok-root.ensures in
    record {
      can = record {
        is_picture = root.is_scene.is_picture;
        clues_are = root.clues;
        wide = rw c.find_near_other.ensures.same_longest c.requires.wide;
        tall = rw c.find_near_other.ensures.same_longest c.requires.tall;
      };
      is_scene = root.is_scene;
      inside = c.requires.inside;
      names = rw c.deref.ensures.value root.names;
      base = rw c.deref.ensures.value root.base;
    }

pub completed-requires-clause-root : goal.completed-requires-clause-root
completed-requires-clause-root g c =
    let root = c.in_ok-root.ensures in
    record {
      can = record {
        is_picture = root.is_scene.is_picture;
        clues_are = root.clues;
        wide = rw (c.proof_within.ensures.same_longest ∙ c.find_near_other.ensures.same_longest) c.requires.wide;
        tall = rw (c.proof_within.ensures.same_longest ∙ c.find_near_other.ensures.same_longest) c.requires.tall;
      };
      is_scene = root.is_scene;
      inside = c.requires.inside;
      names = rw c.deref-2.ensures.value root.names;
      base = rw c.deref-2.ensures.value root.base;
    }

pub returns-in-Some-clause-finds : goal.returns-in-Some-clause-finds
returns-in-Some-clause-finds g c = rw c.in_ok-root.ensures.clues at (rw c.in-Some.is at c.in_ok-other.ensures.other)
