use Rattle.std.proofs.Common.{◌≡◌, ℕ, reverse, vec_capacity, vec_len}
use Rattle.line_facts.specs.FactSets.{SameShape}
use Rattle.cert_check.specs.Notes.{AreInside, HaveRoom, behind_of, numbers_of}
use Rattle.cert_check.proofs.bounded_trail.put_back.Given as goal

abbrev pub invariant-loop-note : goal.invariant-loop-note
invariant-loop-note l = record {
  behind : behind_of l.facts (reverse l.notes.items) ≡ behind_of l.fn.facts (reverse l.fn.notes.items);
  numbers : numbers_of (reverse l.notes.items) ≡ numbers_of (reverse l.fn.notes.items);
  inside : AreInside l.facts (reverse l.notes.items);
  room : (most : ℕ) → HaveRoom most l.fn.facts (reverse l.fn.notes.items) → HaveRoom most l.facts (reverse l.notes.items);
  same_shape : SameShape l.fn.facts l.facts;
  capacity : vec_capacity l.notes ≡ vec_capacity l.fn.notes;
}

abbrev pub decreases-loop-note : goal.decreases-loop-note
decreases-loop-note l = vec_len l.notes
