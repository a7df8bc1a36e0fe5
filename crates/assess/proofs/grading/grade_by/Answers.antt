use Rattle.std.proofs.Common.{◌≡◌, refl, arith}
use Rattle.assess.proofs.grading.grade_by.Goals as goal

pub returns-then-figures-eq0-clause-grade : goal.returns-then-figures-eq0-clause-grade
returns-then-figures-eq0-clause-grade g c =
    let none : c.args.figures.«open» ≡ 0 = omega (arith, c.if-figures-eq0.true) in
    record {
      guesses = record { splits = 0; depth = 0 };
      settled = λ _. (refl, refl);
      guessed = λ some. absurd (some none);
      grade_is = c.of.ensures;
    }
