use Rattle.std.proofs.Common.{◌≡◌, ◌-◌, take}
use Rattle.non_text.specs.ClueLine.{clues_in}
use Rattle.non_text.specs.Section.{kept_in}
use Rattle.non_text.proofs.SectionLemmas.{clues_left}
use Rattle.non_text.proofs.section.clues.Given as goal

abbrev pub invariant-loop : goal.invariant-loop
invariant-loop l =
    clues_left l.cells l.clues.items (l.n - l.counter) (kept_in l.leaves_blanks l.rest) ≡ clues_in l.cells (take l.n (kept_in l.leaves_blanks l.text))
