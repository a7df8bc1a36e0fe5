-- The word of a grade.
use Rattle.std.specs.Prelude.{ℕ, Bool, ◌&&◌, ◌==◌, nat_le, if◌then◌else◌}
use Rattle.grade.specs.declared.figures.Figures.{Figures}
use Rattle.grade.specs.declared.word.Word.{Word}
use Rattle.grade.specs.declared.word.Word.TheVariants.{Easy, Medium, Hard, VeryHard, Expert}

-- at most so many rounds, and at most so long a wait
abbrev pub is_within : Figures → ℕ → ℕ → Bool
is_within figures rounds wait = nat_le figures.rounds rounds && nat_le figures.wait wait

-- the word where no cell is open
abbrev pub word_of_lines : Figures → Word
word_of_lines figures =
    if is_within figures 2 8 then Easy else (if is_within figures 4 15 then Medium else Hard)

-- the word where cells are open, by the splits of a certificate and their depth
abbrev pub word_of_splits : ℕ → ℕ → Word
word_of_splits splits depth = if nat_le splits 3 && nat_le depth 2 then VeryHard else Expert

abbrev pub word_of : Figures → ℕ → ℕ → Word
word_of figures splits depth =
    if figures.«open» == 0 then word_of_lines figures else word_of_splits splits depth
