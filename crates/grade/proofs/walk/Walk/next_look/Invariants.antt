use Rattle.std.proofs.Common.{◌≤◌, List}
use Rattle.line_facts.specs.Masks.{Masks}
use Rattle.picture.specs.LineSet.{name_count}
use Rattle.clues.specs.ClueBook.{Clues}
use Rattle.grade.specs.Looks.{Look}
use Rattle.grade.specs.Walking.{CanWalk, Walks}
use Rattle.grade.proofs.walk.Walk.next_look.Given as goal

abbrev pub invariant-loop-turn : goal.invariant-loop-turn
invariant-loop-turn l = record {
  can : CanWalk l.facts l.self;
  walks : (clues : Clues) (start : Masks) (looks : List Look) → Walks clues start looks l.facts l.fn.self → Walks clues start looks l.facts l.self;
  fewer : name_count l.self.due ≤ name_count l.fn.self.due;
}

abbrev pub decreases-loop-turn : goal.decreases-loop-turn
decreases-loop-turn l = name_count l.self.due
