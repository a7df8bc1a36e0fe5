use Rattle.std.proofs.Common.{◌+◌, ◌*◌, ◌≤◌, ◌∙◌, arith, sym}
use Rattle.std.proofs.lemmas.Result.{err_from_is_err_and}
use Rattle.picture.specs.CellSet.{cell_count}
use Rattle.second_search.specs.Evaluations.{most_to_close}
use Rattle.assess.specs.AssessedBy.{IsRefused}
use Rattle.assess.proofs.JudgeLemmas.{few_by, only_beyond}
use Rattle.assess.proofs.assessing.assess_by.Goals as goal

pub check_published-requires : goal.check_published-requires
check_published-requires g c =
    let is = c.height.ensures.picture in
    record { wide = omega (arith, is.columns_fit, c.requires); tall = omega (arith, is.rows_fit, c.requires) }

pub returns-in_err-check_published-clause-assessment :
    goal.returns-in_err-check_published-clause-assessment
returns-in_err-check_published-clause-assessment g c =
    let d = c.args.document.now in
    let p = err_from_is_err_and c.from_residual.result c.from_residual.ensures.1 in
    let refused : IsRefused d c.args.cert.now c.in_err-check_published.field-0.0 = c.in_err-check_published.ensures.first in
    rw (p.1, p.2) refused

pub find_spare-requires : goal.find_spare-requires
find_spare-requires g c =
    let found = c.in_ok-looked.ensures.looked in
    record {
      book = found.book;
      only = c.in_ok-check_published.ensures.unique;
      mapped = (c.in_ok-looked.looked.map, found.map);
      long = omega (arith, c.requires, c.check_published.ensures.same_longest, c.look.ensures.same_longest, c.grade.ensures.same_longest);
    }

pub returns-clause-assessment : goal.returns-clause-assessment
returns-clause-assessment g c =
    let made = c.described.ensures in
    record {
      described = made.described;
      accepted = c.in_ok-check_published.ensures.first;
      unique = c.in_ok-check_published.ensures.unique;
      verdict = made.verdict;
      graded = rw (← made.figures, ← made.cert, ← made.grade) at c.in_ok-graded.ensures.graded;
      spare = rw (← made.spare) at c.in_ok-spare.ensures.spare;
    }

pub returns-clause-few : goal.returns-clause-few
returns-clause-few g c =
    let d = c.args.document.now in
    let found = c.in_ok-looked.ensures in
    few_by d.picture d.givens c.args.cert.now c.in_ok-looked.looked.figures _ _ _ _ _ found.looked.figures c.check_published.ensures.work found.few c.grade.ensures.few c.find_spare.ensures.few

pub returns-in_err-spare-clause-few : goal.returns-in_err-spare-clause-few
returns-in_err-spare-clause-few g c =
    let d = c.args.document.now in
    let found = c.in_ok-looked.ensures in
    few_by d.picture d.givens c.args.cert.now c.in_ok-looked.looked.figures _ _ _ _ _ found.looked.figures c.check_published.ensures.work found.few c.grade.ensures.few c.find_spare.ensures.few

pub returns-in_err-graded-clause-few : goal.returns-in_err-graded-clause-few
returns-in_err-graded-clause-few g c =
    let d = c.args.document.now in
    let found = c.in_ok-looked.ensures in
    let calls = g.E.LineEngine.calls c.grade.new.engine in
    let none : calls ≤ calls + cell_count d.givens * most_to_close d.picture = omega arith in
    few_by d.picture d.givens c.args.cert.now c.in_ok-looked.looked.figures _ _ _ calls _ found.looked.figures c.check_published.ensures.work found.few c.grade.ensures.few none

pub returns-clause-unknown : goal.returns-clause-unknown
returns-clause-unknown g c = λ none.
    let d = c.args.document.now in
    only_beyond d.picture d.givens _ (g.E.LineEngine.calls c.look.new.engine) (g.E.LineEngine.calls c.grade.new.engine) _ c.in_ok-check_published.ensures.unique
    (c.in_ok-graded.ensures.unknown (sym c.described.ensures.grade ∙ none)) (omega arith) (omega arith)
