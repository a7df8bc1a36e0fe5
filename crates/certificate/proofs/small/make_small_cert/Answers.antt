use Rattle.std.proofs.Common.{inl, inr}
use Rattle.certificate.proofs.small.make_small_cert.Goals as goal

pub decide_by_trees-requires : goal.decide_by_trees-requires
decide_by_trees-requires g c =
    let root = c.in_ok-root.ensures in
    record {
      can = record { is_picture = root.is_scene.is_picture; clues_are = root.clues; wide = c.requires.wide; tall = c.requires.tall };
      is_scene = root.is_scene;
      inside = c.requires.inside;
      names = rw c.deref.ensures.value root.names;
      base = rw c.deref.ensures.value root.base;
    }

pub returns-in-Proof-clause-makes : goal.returns-in-Proof-clause-makes
returns-in-Proof-clause-makes g c = rw c.in-Proof.is at c.in_ok-cert.ensures.decides

pub returns-in-Other-clause-none : goal.returns-in-Other-clause-none
returns-in-Other-clause-none g c = inl (_, rw c.in-Other.is at c.in_ok-cert.ensures.decides)

pub returns-clause-none : goal.returns-clause-none
returns-clause-none g c = inr (rw c.in-Undecided.is at c.in_ok-cert.ensures.decides).1
