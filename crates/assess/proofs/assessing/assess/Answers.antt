use Rattle.std.proofs.Common.{◌≡◌, ◌+◌, ◌*◌, ◌≤◌, arith, subst, sym, ◌∙◌}
use Rattle.picture.specs.CellSet.{cell_count}
use Rattle.second_search.specs.Evaluations.{most_to_close}
use Rattle.assess.specs.Calls.{most_to_grade}
use Rattle.assess.proofs.JudgeLemmas.{few_in_all, none_yet, only_beyond, only_where}
use Rattle.assess.proofs.assessing.assess.Goals as goal

pub judge_map-requires : goal.judge_map-requires
judge_map-requires g c =
    let found = c.in_ok-looked.ensures.looked in
    record { book = found.book; map = found.map; long = omega (arith, c.requires, c.look.ensures.same_longest) }

pub find_spare_if-requires : goal.find_spare_if-requires
find_spare_if-requires g c =
    let d = c.args.document.now in
    let found = c.in_ok-looked.ensures.looked in
    record {
      book = found.book;
      only = only_where d.picture d.givens c.args.allowance c.in_ok-verdict.verdict c.in_ok-verdict.ensures.verdict;
      mapped = (c.in_ok-looked.looked.map, found.map);
      long = omega (arith, c.requires, c.look.ensures.same_longest, c.judge_map.ensures.same_longest, c.grade_if.ensures.same_longest);
    }

pub returns-clause-assessment : goal.returns-clause-assessment
returns-clause-assessment g c =
    let made = c.described.ensures in
    record {
      described = made.described;
      verdict = rw (← made.verdict) at c.in_ok-verdict.ensures.verdict;
      graded = rw (← made.verdict, ← made.figures, ← made.cert, ← made.grade) at c.in_ok-graded.ensures.graded;
      spare = rw (← made.verdict, ← made.spare) at c.in_ok-spare.ensures.spare;
    }

pub returns-clause-few : goal.returns-clause-few
returns-clause-few g c =
    let d = c.args.document.now in
    let found = c.in_ok-looked.ensures in
    few_in_all d.picture d.givens c.args.allowance c.in_ok-looked.looked.figures _ _ _ _ _ found.looked.figures found.few c.judge_map.ensures.few c.grade_if.ensures.few c.find_spare_if.ensures.few

pub returns-in_err-spare-clause-few : goal.returns-in_err-spare-clause-few
returns-in_err-spare-clause-few g c =
    let d = c.args.document.now in
    let found = c.in_ok-looked.ensures in
    few_in_all d.picture d.givens c.args.allowance c.in_ok-looked.looked.figures _ _ _ _ _ found.looked.figures found.few c.judge_map.ensures.few c.grade_if.ensures.few c.find_spare_if.ensures.few

pub returns-in_err-graded-clause-few : goal.returns-in_err-graded-clause-few
returns-in_err-graded-clause-few g c =
    let d = c.args.document.now in
    let found = c.in_ok-looked.ensures in
    let calls = g.E.LineEngine.calls c.grade_if.new.engine in
    let none : calls ≤ calls + cell_count d.givens * most_to_close d.picture = omega arith in
    few_in_all d.picture d.givens c.args.allowance c.in_ok-looked.looked.figures _ _ _ calls _ found.looked.figures found.few c.judge_map.ensures.few c.grade_if.ensures.few none

pub returns-in_err-verdict-clause-few : goal.returns-in_err-verdict-clause-few
returns-in_err-verdict-clause-few g c =
    let d = c.args.document.now in
    let found = c.in_ok-looked.ensures in
    let calls = g.E.LineEngine.calls c.judge_map.new.engine in
    let grade : calls ≤ calls + most_to_grade d.picture = omega arith in
    let none : calls ≤ calls + cell_count d.givens * most_to_close d.picture = omega arith in
    few_in_all d.picture d.givens c.args.allowance c.in_ok-looked.looked.figures _ _ _ calls _ found.looked.figures found.few c.judge_map.ensures.few grade none

pub returns-in_err-looked-clause-few : goal.returns-in_err-looked-clause-few
returns-in_err-looked-clause-few g c = none_yet c.args.document.now.picture c.args.document.now.givens c.args.allowance _ _ c.in_err-looked.ensures.idle

pub returns-clause-unknown : goal.returns-clause-unknown
returns-clause-unknown g c = λ unique none.
    let d = c.args.document.now in
    let made = c.described.ensures in
    let verdict = sym made.verdict ∙ unique in
    only_beyond d.picture d.givens _ (g.E.LineEngine.calls c.judge_map.new.engine) (g.E.LineEngine.calls c.grade_if.new.engine) _
    (only_where d.picture d.givens c.args.allowance c.in_ok-verdict.verdict c.in_ok-verdict.ensures.verdict verdict)
    (c.in_ok-graded.ensures.unknown verdict (sym made.grade ∙ none)) (omega arith) (omega arith)
