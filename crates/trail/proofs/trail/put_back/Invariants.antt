use Rattle.std.proofs.Common.{◌≡◌, length, reverse, vec_len}
use Rattle.picture.specs.Rows.{width_of}
use Rattle.line_facts.specs.FactSets.{SameShape}
use Rattle.trail.specs.Trail.{AreInside, cells_held, waiting}
use Rattle.trail.proofs.trail.put_back.Given as goal

abbrev pub invariant-loop-note : goal.invariant-loop-note
invariant-loop-note l = record {
  waits : waiting l.facts (reverse l.notes.items) ≡ waiting l.fn.facts (reverse l.fn.notes.items);
  cells : cells_held (reverse l.notes.items) ≡ cells_held (reverse l.fn.notes.items);
  same_shape : SameShape l.fn.facts l.facts;
  inside : AreInside (length l.facts) (width_of l.facts) (reverse l.notes.items);
}

abbrev pub decreases-loop-note : goal.decreases-loop-note
decreases-loop-note l = vec_len l.notes
