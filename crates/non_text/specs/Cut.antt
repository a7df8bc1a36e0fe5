-- The results of functions that cut a text, as parts that are borrowed from it.
use Rattle.std.specs.Prelude.{◌≡◌, ◌<◌, ℕ, List, [], ◌∷◌, length, Option, None, Some}
use Rattle.std.specs.Borrow.{Bor}
use Rattle.non_text.specs.Lines.{lines_of, section_of}

-- the first of the lines that `lines` finds in the text, and a shorter text with the others
abbrev pub IsFirstOf : (List ℕ → List (List ℕ)) → List ℕ → Option (Bor (List ℕ) × Bor (List ℕ)) → Type 0
IsFirstOf lines text None = lines text ≡ []
IsFirstOf lines text (Some x) = (lines text ≡ x.0.now ∷ lines x.1.now) × (length x.1.now < length text)

-- the lines of the section that a text begins with
abbrev pub section_lines : List ℕ → List (List ℕ)
section_lines text = section_of (lines_of text)

-- a line, and the lines of the text after it
abbrev pub lines_found : Bor (List ℕ) × Bor (List ℕ) → List ℕ × List (List ℕ)
lines_found x = (x.0.now, lines_of x.1.now)
