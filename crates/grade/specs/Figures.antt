-- The figures of a run.
use Rattle.std.specs.Prelude.{ℕ, ◌+◌, ◌==◌, List, [], ◌∷◌, length, count_by, max, if◌then◌else◌}
use Rattle.std.specs.List.{sum_by}
use Rattle.line_facts.specs.Masks.{Masks}
use Rattle.grade.specs.declared.figures.Figures.{Figures}
use Rattle.grade.specs.Looks.{Look, exclusions, has_fall, is_open}

-- the round of the last look that excluded something, or 0 if none did; the newest look comes first
abbrev pub last_round : List Look → ℕ
last_round [] = 0
last_round (look ∷ earlier) = if exclusions look == 0 then last_round earlier else look.round

-- how many looks there were since a cell fell, or since the start
abbrev pub looks_since_fall : List Look → ℕ
looks_since_fall [] = 0
looks_since_fall (look ∷ earlier) = if has_fall look then 0 else looks_since_fall earlier + 1

-- The longest wait for a fall: the looks after the one in which a cell fell before, up to and including the next in
-- which one falls. Looks after the last fall do not count.
abbrev pub longest_wait : List Look → ℕ
longest_wait [] = 0
longest_wait (look ∷ earlier) =
    if has_fall look then max (longest_wait earlier) (looks_since_fall earlier + 1) else longest_wait earlier

-- how many cells are open
abbrev pub open_cells : Masks → ℕ
open_cells facts = sum_by (count_by is_open) facts

-- the figures of a run with these looks, the newest first, and this end
abbrev pub figures_of : List Look → Masks → Figures
figures_of looks end = record {
  rounds = last_round looks;
  evaluations = length looks;
  wait = longest_wait looks;
  «open» = open_cells end;
}
