use Rattle.std.proofs.Common.{◌+◌, refl, sym, ◌∙◌, arith, eqb-true}
use Rattle.line_settle.proofs.PositionLemmas.{fills_one, fills_twice, filled, filled_short}
use Rattle.line_settle.proofs.SpanLemmas.{step_next, step_below, step_reached, spanned_by}
use Rattle.line_settle.proofs.WordLemmas.{word_at}
use Rattle.line_settle.proofs.positions.fill_down.Goals as goal

pub loop-k-init : goal.loop-k-init
loop-k-init g c = record { step_is = refl; reaching = λ cells are j. fills_one (g.W.Word.bits c.args.set) cells j }

pub down-requires : goal.down-requires
down-requires g c = let l = step_below _ _ _ c.loop-k.invariant.step_is c.loop-k-test.true in omega (arith, c.rounds-k-end.ensures.width)

pub returns-then-is_none : goal.returns-then-is_none
returns-then-is_none g c = λ cells are i.
    let bits = g.W.Word.bits in
    let at = c.loop-k.invariant in
    let k = c.loop-k.k in
    let span = c.index-spans-k.result in
    let is = word_at bits c.args.spans.now k span (omega arith) c.index-spans-k.is in
    let l = step_below _ _ _ at.step_is c.loop-k-test.true in
    filled_short (bits c.args.set) cells (bits c.loop-k.all) (bits span) c.loop-k.step i (eqb-true _ _ (sym c.is_none-then-k-ge-SHORT.ensures.value ∙ c.if-is_none.true))
    (rw is (spanned_by _ cells _ _ k at.step_is (omega (arith, c.rounds-k-end.ensures.width)) are)) (at.reaching cells are)

pub loop-k-preserved : goal.loop-k-preserved
loop-k-preserved g c =
    let bits = g.W.Word.bits in
    let at = c.loop-k.invariant in
    let k = c.loop-k.k in
    let is = word_at bits c.args.spans.now k c.index-spans-k.result (omega arith) c.index-spans-k.is in
    let l = step_below _ _ _ at.step_is c.loop-k-test.true in
    record {
      step_is = step_next c.loop-k.step k (k + 1) at.step_is refl;
      reaching = λ cells are j. rw (c.or-all.ensures, c.and.ensures, c.down.ensures, is)
          (fills_twice _ cells _ _ c.loop-k.step j (at.reaching cells are) (spanned_by _ cells _ _ k at.step_is (omega (arith, c.rounds-k-end.ensures.width)) are));
    }

pub returns : goal.returns
returns g c = λ cells are i.
    let l = step_reached _ _ _ c.loop-k.invariant.step_is c.loop-k-test.false in
    filled g.W.Word.width _ cells _ c.loop-k.step i c.is_none.ensures.fits (omega (arith, c.rounds-k-end.ensures.width)) (c.loop-k.invariant.reaching cells are)
