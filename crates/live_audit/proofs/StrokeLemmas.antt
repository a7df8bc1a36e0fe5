-- A stroke's evaluations, bounded by what changed.
use Rattle.std.proofs.Common.{◌≡◌, drop, length, ap, ◌∙◌, arith}
use Rattle.std.proofs.Math.Seq.{drop-append_seam}
use Rattle.propagate.specs.Turns.{cells_drawn, steps_added}
use Rattle.live_audit.specs.Laws.{StrokesEvaluateFew}

pub evaluates_few : StrokesEvaluateFew
evaluates_few stroke old new accepts =
    let on = accepts.book.book in
    let w = on.work in
    let added : steps_added on.kept new.book ≡ on.added = ap (drop (length on.kept.steps)) on.steps ∙ drop-append_seam on.kept.steps on.added in
    let drawn = ap cells_drawn added in
    let most = w.suffice.at_most in
    let counted = w.counts.evaluations in
    let calls = w.counts.calls in
    record {
      kept = on.kept;
      is_account = on.is_account;
      over = on.over;
      standing = on.standing;
      dirty = on.dirty;
      are_dirty = on.are_dirty;
      evaluations = omega arith;
      calls = omega arith;
    }

pub ruleset strokes = (evaluates_few)
