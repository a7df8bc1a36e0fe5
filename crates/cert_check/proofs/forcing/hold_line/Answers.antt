use Rattle.std.proofs.Common.{◌≡◌, ◌≢◌, ℕ, ◌+◌, List, ap, arith, get_or, IsBitSet, inl, inr, refl, subst, sym, ◌∙◌}
use Rattle.std.proofs.lemmas.Bool.{cases_eq}
use Rattle.line_facts.proofs.AlongLaws.{Written, written_all, written_apart, written_more}
use Rattle.line_facts.proofs.GridLaws.{cell_on}
use Rattle.line_facts.specs.FactSets.{col_on, row_on}
use Rattle.line_facts.specs.Masks.{Masks}
use Rattle.picture.specs.LineSet.{HasName}
use Rattle.picture.specs.declared.line_id.LineId.{LineId}
use Rattle.picture.specs.Rows.{Rows, cell_at, line_of}
use Rattle.cert_check.specs.Boards.{Boarded, IsTallied}
use Rattle.cert_check.proofs.forcing.hold_line.Goals.{then-masks-i, else-masks-i}
use Rattle.cert_check.proofs.forcing.hold_line.Goals as goal

-- a place that has its mask already
written_there : (line : LineId) (old : Masks) (rows : Rows) (masks : List ℕ) (i : ℕ) → Written line old rows masks i → get_or (line_of rows line) i 0 ≡ get_or masks i 0
    → Written line old rows masks (i + 1)
written_there line old rows masks i w e = record {
  same_shape = w.same_shape;
  so_far = λ j m. elim (cases_eq j i) [
    | inl k ↦ (let P : ℕ → Type 0 = λ n. get_or (line_of rows line) n 0 ≡ get_or masks n 0 in subst P (sym k) e)
    | inr n ↦ w.so_far j (omega arith)
  ];
  elsewhere = w.elsewhere;
}

pub loop-i-preserved : goal.loop-i-preserved
loop-i-preserved c =
    let kept = c.loop-i.invariant in
    let i = c.loop-i.i in
    let line = c.args.line in
    let old = c.args.board.now.at_hand in
    let before = c.loop-i.board.at_hand in
    let masks = c.args.masks.now in
    let left = c.args.left.now in
    elim c.if-masks-i.branch [
      | then-masks-i w ↦
          let is = w.hold_on.ensures.at_hand in
          let new = w.hold_on.new.self.at_hand in
          let facts : c.if-masks-i.board.at_hand ≡ new = ap {B = Masks} (λ (b : Boarded). b.at_hand) w.board-is in
          record {
            written = subst (λ (f : Masks). Written line old f masks (i + 1)) (sym facts)
                (written_more line old before new masks i _ w.hold_on.ensures.facts c.requires.line c.requires.whole (omega arith) refl kept.written is);
            rest = λ j m.
                let apart : j ≢ i = omega arith in
                ap (λ (f : Masks). get_or (line_of f line) j 0) (facts ∙ is) ∙ (written_apart before line i j _ apart ∙ kept.rest j (omega arith));
            behind = ap {B = List Masks} (λ (b : Boarded). b.behind) w.board-is ∙ (w.hold_on.ensures.behind ∙ kept.behind);
            tallied = subst (IsTallied c.args.picture.now) (sym w.board-is) w.hold_on.ensures.tallied;
            unsettled = subst (λ (b : Boarded). HasName b.settled line → ⊥) (sym w.board-is) w.hold_on.ensures.unsettled;
            parts = ap (λ (b : Boarded). b.parts) w.board-is ∙ (w.hold_on.ensures.parts ∙ kept.parts);
          }
      | else-masks-i w ↦
          let facts : c.if-masks-i.board.at_hand ≡ before = ap {B = Masks} (λ (b : Boarded). b.at_hand) w.board-is in
          let same : get_or left i 0 ≡ get_or masks i 0 = sym w.if-masks-i.false in
          record {
            written = subst (λ (f : Masks). Written line old f masks (i + 1)) (sym facts) (written_there line old before masks i kept.written (kept.rest i (omega arith) ∙ same));
            rest = λ j m. ap (λ (f : Masks). get_or (line_of f line) j 0) facts ∙ kept.rest j (omega arith);
            behind = ap {B = List Masks} (λ (b : Boarded). b.behind) w.board-is ∙ kept.behind;
            tallied = subst (IsTallied c.args.picture.now) (sym w.board-is) kept.tallied;
            unsettled = subst (λ (b : Boarded). HasName b.settled line → ⊥) (sym w.board-is) kept.unsettled;
            parts = ap (λ (b : Boarded). b.parts) w.board-is ∙ kept.parts;
          }
    ]

pub returns-clause-holds : goal.returns-clause-holds
returns-clause-holds c = written_all c.args.line c.args.board.now.at_hand c.loop-i.board.at_hand c.args.masks.now c.loop-i.i c.requires.whole (omega arith) c.loop-i.invariant.written

pub hold_on-requires-clause-left : goal.hold_on-requires-clause-left
hold_on-requires-clause-left c = λ k s.
    let i = c.loop-i.i in
    let line = c.args.line in
    let here : cell_at c.loop-i.board.at_hand (row_on line.axis line.at i) (col_on line.axis line.at i) ≡ get_or (line_of c.args.board.now.at_hand line) i 0 =
    sym (cell_on c.loop-i.board.at_hand line i) ∙ (c.loop-i.invariant.rest i (omega arith) ∙ ap (λ (ls : List ℕ). get_or ls i 0) c.requires.left) in
    let P : ℕ → Type 0 = λ n. IsBitSet n k in
    subst P (sym here) (c.requires.among i k s)
