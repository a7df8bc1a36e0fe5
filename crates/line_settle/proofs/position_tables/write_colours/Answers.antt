use Rattle.std.proofs.Common.{◌≡◌, ◌-◌, ◌<◌, ◌∙◌, refl, sym, eqb-true, arith, length, map}
use Rattle.std.proofs.lemmas.Bool.{le-ltb}
use Rattle.std.proofs.lemmas.List.{length-map}
use Rattle.line_settle.proofs.SetStepLemmas.{written_more, written_none, all_written}
use Rattle.line_settle.proofs.WordLemmas.{word_at}
use Rattle.line_settle.proofs.position_tables.write_colours.Goals.{then-not-is_none, else-not-is_none}
use Rattle.line_settle.proofs.position_tables.write_colours.Goals as goal

pub loop-k-init : goal.loop-k-init
loop-k-init g c =
    let seen = c.args.seen.now in
    let is = word_at g.W.Word.bits seen (length seen - 1) c.index-seen-last.result (omega arith) c.index-seen-last.is in
    λ i j h. rw (c.colour_line.ensures i j (omega (arith, c.colour_line.auto.out)), is, le-ltb j 0 (omega arith)) refl

pub loop-k-preserved : goal.loop-k-preserved
loop-k-preserved g c =
    let bits = g.W.Word.bits in
    let sets = map bits c.args.seen.now in
    let k = c.loop-k.k in
    let is = word_at bits c.args.seen.now k c.index-seen-k.result (omega arith) c.index-seen-k.is in
    λ i j h.
    let room : i < length c.loop-k.out = omega arith in
    let before = c.loop-k.invariant i j room in
    elim c.if-not-is_none.branch [
      | then-not-is_none w ↦ rw (w.out-is, w.colour_line-then-not-is_none.ensures i j room, before) (written_more sets k _ i j _ is)
      | else-not-is_none w ↦ rw (w.out-is, before) (written_none sets k _ i j _ is (eqb-true _ 0 (sym c.is_none.ensures.value ∙ w.if-not-is_none.false)))
    ]

pub returns : goal.returns
returns g c = λ i k h.
    let n = length-map c.args.seen.now g.W.Word.bits in
    let at : c.loop-k.k ≡ length c.args.seen.now - 1 = (let e = c.loop-k.auto.k-end in omega arith) in
    (rw at at (c.loop-k.invariant i k (omega arith))) ∙ all_written (map g.W.Word.bits c.args.seen.now) (length c.args.seen.now - 1) i k (omega arith)
