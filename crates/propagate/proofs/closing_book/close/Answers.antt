use Rattle.std.proofs.Common.{ℕ, ◌+◌, Err, refl, ap, ◌∙◌, arith}
use Rattle.std.proofs.lemmas.Result.{err_from_is_err_and}
use Rattle.picture.specs.LineSet.{Lines}
use Rattle.line_facts.proofs.FitLaws.{counting_adds}
use Rattle.line_facts.proofs.ForceLaws.{gains_grows}
use Rattle.fixpoint.proofs.NameLaws.{filled}
use Rattle.fixpoint.proofs.ClosingLaws.{Closing, closing_starts}
use Rattle.propagate.proofs.TurnLemmas.{dead_made, made_over}
use Rattle.propagate.proofs.GrowLemmas.{ClosingBook, all_trimmed, book_closes, book_comes_nearer, book_dies, book_fails, book_goes_on, book_starts}
use Rattle.propagate.proofs.closing_book.close.Goals as goal

pub loop-line-init : goal.loop-line-init
loop-line-init g c =
    let all = filled _ _ _ c.clear.ensures c.put_all.ensures in
    record {
      closing = book_starts _ _ _ _ _ _ _ c.requires.derivation all (rw all (closing_starts _ _ _ _ c.requires.closable c.requires.lines c.requires.quiet)) (omega arith) (omega arith) (omega arith);
      same_longest = refl;
    }

pub returns-in_err-changed-clause-closes : goal.returns-in_err-changed-clause-closes
returns-in_err-changed-clause-closes g c =
    let p = err_from_is_err_and c.from_residual.result c.from_residual.ensures.1 in
    let i = c.loop-line.invariant in
    let s = c.in-Some.ensures in
    let made = made_over _ _ _ _ _ c.clue.ensures.value i.closing.grows.derivation c.make_step-made.ensures.makes in
    rw (p.1, p.2) (book_fails c.args.clues.now c.args.book _ (λ e. book_dies c.args.clues.now _ c.args.book c.loop-line.book _ _ c.facts.ensures.account c.requires.derivation i.closing.closing s.0
    (dead_made _ _ _ _ made (c.in_err-changed.ensures.dead (ap Err e)))))

pub returns-in_err-changed-clause-works : goal.returns-in_err-changed-clause-works
returns-in_err-changed-clause-works g c =
    let p = err_from_is_err_and c.from_residual.result c.from_residual.ensures.1 in
    let i = c.loop-line.invariant in
    rw p.1 (i.closing.evaluations + 1, counting_adds _ 0 1 0 _ _ _ _ _ _ i.closing.counts c.make_step-made.ensures.counts)

pub loop-line-smaller : goal.loop-line-smaller
loop-line-smaller g c =
    let i = c.loop-line.invariant in
    let s = c.in-Some.ensures in
    let e = c.in_ok-changed.ensures in
    let made = made_over _ _ _ _ _ c.clue.ensures.value i.closing.grows.derivation c.make_step-made.ensures.makes in
    let turn = e.comes_to c.args.clues.now made in
    book_comes_nearer _ _ _ _ _ _ _ _ _ _ _ _ _ _ _ _ _ i.closing s.0 s.1 e.facts turn c.put_all-in-Some.ensures c.make_step-made.ensures.counts (gains_grows _ _ _ _ _ turn.gains)

pub loop-line-preserved : goal.loop-line-preserved
loop-line-preserved g c =
    let i = c.loop-line.invariant in
    let s = c.in-Some.ensures in
    let e = c.in_ok-changed.ensures in
    let m = c.make_step-made.ensures in
    let made = made_over _ _ _ _ _ c.clue.ensures.value i.closing.grows.derivation c.make_step-made.ensures.makes in
    record {
      closing = rw m.same_longest (book_goes_on _ _ _ _ _ _ _ _ _ _ _ _ _ _ _ _ _ i.closing s.0 s.1 e.facts (e.comes_to c.args.clues.now made) c.put_all-in-Some.ensures m.counts);
      same_longest = m.same_longest ∙ i.same_longest;
    }

pub returns-clause-closes : goal.returns-clause-closes
returns-clause-closes g c =
    book_closes _ _ _ _ _ _ _ _ _ _ c.facts.ensures.account c.requires.derivation c.loop-line.invariant.closing c.in_default.ensures.0

pub returns-clause-trimmed : goal.returns-clause-trimmed
returns-clause-trimmed g c = all_trimmed _ _ _ _ c.loop-line.invariant.closing.grows
