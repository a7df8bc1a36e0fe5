use Rattle.std.proofs.Common.{◌≡◌, ◌∙◌, ◌+◌, ◌==◌, ◌<◌, ◌∷◌, ℕ, [], List, Err, add-one, ap, drop, get_or, length, not, refl}
use Rattle.std.proofs.Math.Seq.{drop-cons}
use Rattle.std.proofs.lemmas.List.{drop_all}
use Rattle.std.proofs.lemmas.Result.{err_from_is_err_and}
use Rattle.std.specs.Borrow.{Bor}
use Rattle.program.proofs.AssessLemmas.{all_done, broken, stepped}
use Rattle.program.proofs.assessing.assess_each.Goals as goal

-- what the loop reads past the end
abbrev no_path : Bor (List ℕ)
no_path = record { ref_ptr = (0, 0); now = [] }

next_of : (paths : List (Bor (List ℕ))) (i : ℕ) → i < length paths → drop i paths ≡ get_or paths i no_path ∷ drop (i + 1) paths
next_of paths i within = rw (add-one) (drop-cons paths i no_path within)

pub loop-at-init : goal.loop-at-init
loop-at-init g c = record { keeps = λ name. refl; rest = λ had after r h. h }

pub loop-at-preserved : goal.loop-at-preserved
loop-at-preserved g c =
    let paths = c.args.paths.now in
    let i = c.loop-at.at in
    record {
      keeps = λ name. c.in_ok-standing.ensures.keeps name ∙ c.loop-at.invariant.keeps name;
      rest = λ had after r h. c.loop-at.invariant.rest had after r
          (stepped (g.F.Files.held c.args.files.now) c.args.asked.now (not (length paths == 1)) paths i (get_or paths i no_path) (next_of paths i c.loop-at-test.true) c.number_of-number.result
          c.number_of-number.ensures c.loop-at.worst _ _ _ (c.loop-at.invariant.keeps (get_or paths i no_path).now) c.in_ok-standing.standing c.worse-worst.result c.worse-worst.ensures
          (c.in_ok-standing.ensures.one had) after r h);
    }

pub returns-in_err-standing : goal.returns-in_err-standing
returns-in_err-standing g c = λ had.
    let p = err_from_is_err_and c.from_residual.result c.from_residual.ensures.1 in
    let paths = c.args.paths.now in
    let i = c.loop-at.at in
    c.loop-at.invariant.rest had _ c.from_residual.result
    (broken (g.F.Files.held c.args.files.now) c.args.asked.now (not (length paths == 1)) paths i (get_or paths i no_path) (next_of paths i c.loop-at-test.true) c.number_of-number.result
    c.number_of-number.ensures c.loop-at.worst _ _ _ (c.loop-at.invariant.keeps (get_or paths i no_path).now) c.in_err-standing.field-0.0 c.from_residual.result (p.1 ∙ ap Err p.2)
    (c.in_err-standing.ensures.one had))

pub returns : goal.returns
returns g c = λ had.
    let paths = c.args.paths.now in
    c.loop-at.invariant.rest had _ c.ended.result
    (all_done (g.F.Files.held c.args.files.now) c.args.asked.now (not (length paths == 1)) paths c.loop-at.at (drop_all c.loop-at.at paths c.loop-at-test.false) c.loop-at.worst _ c.ended.result
    c.ended.ensures)
