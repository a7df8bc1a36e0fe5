use Rattle.std.proofs.Common.{arith}
use Rattle.certificate.proofs.making.make_cert_within.Goals as goal

pub has_near_other-requires-clause-scene : goal.has_near_other-requires-clause-scene
has_near_other-requires-clause-scene g c = c.in_ok-root.ensures.is_scene

pub has_near_other-requires-clause-can : goal.has_near_other-requires-clause-can
has_near_other-requires-clause-can g c =
    let root = c.in_ok-root.ensures in
    record { is_picture = root.is_scene.is_picture; clues_are = root.clues; wide = c.requires.wide; tall = c.requires.tall }

pub returns-then-branch-clause-makes : goal.returns-then-branch-clause-makes
returns-then-branch-clause-makes g c = c.in_ok-has_near_other.ensures.other c.if-branch.true

pub decide_by_trees-requires : goal.decide_by_trees-requires
decide_by_trees-requires g c =
    let root = c.in_ok-root.ensures in
    record {
      can = record {
        is_picture = root.is_scene.is_picture;
        clues_are = root.clues;
        wide = rw c.has_near_other.ensures.same_longest c.requires.wide;
        tall = rw c.has_near_other.ensures.same_longest c.requires.tall;
      };
      is_scene = root.is_scene;
      inside = c.requires.inside;
      names = rw c.deref.ensures.value root.names;
      base = rw c.deref.ensures.value root.base;
    }

pub returns-in-Proof-clause-makes : goal.returns-in-Proof-clause-makes
returns-in-Proof-clause-makes g c = rw c.in-Proof.is at c.in_ok-cert.ensures.decides

pub returns-in-Other-clause-makes : goal.returns-in-Other-clause-makes
returns-in-Other-clause-makes g c = (_, rw c.in-Other.is at c.in_ok-cert.ensures.decides)
