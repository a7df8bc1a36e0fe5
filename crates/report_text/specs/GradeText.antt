-- A grade as text.
use Rattle.std.specs.Prelude.{ℕ, List, [], ◌∷◌, ◌++◌, codes}
use Rattle.grade.specs.declared.figures.Figures.{Figures}
use Rattle.grade.specs.declared.word.Grade.{Grade}
use Rattle.grade.specs.declared.word.Word.{Word}
use Rattle.grade.specs.declared.word.Word.TheVariants.{Easy, Medium, Hard, VeryHard, Expert}
use Rattle.report_text.specs.Numbers.{numbers_text}

abbrev pub word_text : Word → List ℕ
word_text Easy = codes "easy"
word_text Medium = codes "medium"
word_text Hard = codes "hard"
word_text VeryHard = codes "very-hard"
word_text Expert = codes "expert"

-- the rounds, the evaluations and the longest wait
abbrev pub figures_text : Figures → List ℕ
figures_text figures = numbers_text (figures.rounds ∷ figures.evaluations ∷ figures.wait ∷ [])

-- `grade easy 2 8 2 0 0`
abbrev pub grade_text : Grade → List ℕ
grade_text grade = codes "grade " ++ (word_text grade.word ++ (figures_text grade.figures
    ++ (numbers_text (grade.splits ∷ grade.depth ∷ []) ++ 10 ∷ [])))

-- `grade unknown 2 10 4`, where no certificate was found
abbrev pub unknown_text : Figures → List ℕ
unknown_text figures = codes "grade unknown" ++ (figures_text figures ++ 10 ∷ [])
