use Rattle.std.proofs.Common.{◌∙◌, ap, arith, ℕ, length, Vec, Global}
use Rattle.edits.specs.Design.{marks_of}
use Rattle.picture.specs.Rows.{width_of}
use Rattle.edits.proofs.DesignLemmas.{marks_small}
use Rattle.edits.proofs.KeptLemmas.{one_given_more, no_given_here, all_givens, marks_along}
use Rattle.edits.proofs.kept.givens_of_line.Goals as goal
use Rattle.edits.proofs.kept.givens_of_line.Goals.{then-is_given+in_ok-push, else-is_given}

pub loop-position-preserved : goal.loop-position-preserved
loop-position-preserved c =
    let m = marks_of (length c.args.document.now.picture) (width_of c.args.document.now.picture) c.args.document.now.givens in
    let p = c.place_on-row.result in
    let small = marks_small (length c.args.document.now.picture) (width_of c.args.document.now.picture) c.args.document.now.givens p.0 p.1 in
    elim c.if-is_given.branch [
      | then-is_given+in_ok-push w ↦
          ap (λ (v : Vec (ℕ × ℕ) Global). v.items) w.givens-is ∙ (w.in_ok-push.ensures.items
          ∙ one_given_more m c.args.line c.loop-position.position c.loop-position.givens.items p c.loop-position.invariant c.place_on-row.ensures (c.is_given.ensures.0 w.if-is_given.true))
      | else-is_given w ↦
          ap (λ (v : Vec (ℕ × ℕ) Global). v.items) w.givens-is ∙ no_given_here m c.args.line c.loop-position.position c.loop-position.givens.items p c.loop-position.invariant c.place_on-row.ensures
          small (λ one. absurd (cc (c.is_given.ensures.1 one, w.if-is_given.false)))
    ]

pub returns : goal.returns
returns c = grind (arith, all_givens, length, marks_along, marks_of, width_of)
