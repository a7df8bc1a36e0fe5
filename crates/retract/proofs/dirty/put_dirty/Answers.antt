-- One line more is decided.
use Rattle.std.proofs.Common.{refl, sym, ◌∙◌}
use Rattle.std.proofs.lemmas.Bool.{false≢true}
use Rattle.picture.specs.declared.line_id.LineId.{LineId}
use Rattle.retract.proofs.DirtyLemmas.{below_clean, below_dirty}
use Rattle.retract.proofs.dirty.put_dirty.Goals as goal
use Rattle.retract.proofs.dirty.put_dirty.Goals.{then-not-is_clean, else-not-is_clean}

pub loop-at-preserved : goal.loop-at-preserved
loop-at-preserved c =
    let line : LineId = record { axis = c.args.axis; at = c.loop-at.at } in
    elim c.if-not-is_clean.branch [
      | then-not-is_clean w ↦
          rw w.dirty-is
          (below_dirty c.args.axis c.loop-at.at c.args.sides.now.change.now.moves c.args.sides.now.old.now c.args.sides.now.new.now c.args.sides.now.before.now c.args.sides.now.after.now
          c.args.dirty.now c.loop-at.dirty line refl refl c.loop-at.invariant w.put.new.self
          (λ clean. false≢true (sym w.if-not-is_clean.true ∙ c.is_clean.ensures.1 clean)) w.put.ensures.members)
      | else-not-is_clean w ↦
          rw w.dirty-is
          (below_clean c.args.axis c.loop-at.at c.args.sides.now.change.now.moves c.args.sides.now.old.now c.args.sides.now.new.now c.args.sides.now.before.now c.args.sides.now.after.now
          c.args.dirty.now c.loop-at.dirty line refl refl c.loop-at.invariant
          (c.is_clean.ensures.0 w.if-not-is_clean.false))
    ]
