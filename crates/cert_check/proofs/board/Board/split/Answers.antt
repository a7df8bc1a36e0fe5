use Rattle.std.proofs.Common.{◌≡◌, ◌<◌, ap, arith, inr, refl, sym, ◌∙◌}
use Rattle.std.specs.Int.{trailing_zeros, w16}
use Rattle.std.proofs.lemmas.Nat.Bits.{bit_at-trailing_zeros}
use Rattle.line_facts.specs.Masks.{Masks}
use Rattle.line_facts.specs.FactSets.{IsFacts}
use Rattle.picture.proofs.BitLaws.{bit_is_set}
use Rattle.picture.specs.Rows.{cell_at}
use Rattle.cert_check.specs.Boards.{Boarded}
use Rattle.cert_check.proofs.BoardLemmas.{part_of, splitting_end, splitting_more, splitting_same, splitting_start}
use Rattle.cert_check.proofs.MachineLemmas.{none_after}
use Rattle.cert_check.proofs.board.Board.split.Goals.{then-left-colour-ne0, else-left-colour-ne0}
use Rattle.cert_check.proofs.board.Board.split.Goals as goal

pub loop-n-init : goal.loop-n-init
loop-n-init c =
    let facts = ap {B = Masks} (λ (b : Boarded). b.at_hand) c.self.view_is in
    let left : c.left-left.result ≡ cell_at c.args.self.now.at_hand c.args.cell.row c.args.cell.col = rw (c.at_hand.ensures, facts) at c.left-left.ensures.value in
    let is : IsFacts c.args.self.now.at_hand = rw (c.at_hand.ensures, facts) at c.left-left.ensures.facts in
    record {
      splitting = splitting_start c.args.self.now.at_hand c.args.self.now.behind c.args.cell.row c.args.cell.col c.left-left.result is c.requires.in_rows c.requires.in_columns left;
      tallied = c.requires.tallied;
      parts = refl;
    }

pub part-requires-clause-parts : goal.part-requires-clause-parts
part-requires-clause-parts c =
    let facts = ap {B = Masks} (λ (b : Boarded). b.at_hand) c.self.view_is in
    let left : c.left-left.result ≡ cell_at c.args.self.now.at_hand c.args.cell.row c.args.cell.col = rw (c.at_hand.ensures, facts) at c.left-left.ensures.value in
    let is : IsFacts c.args.self.now.at_hand = rw (c.at_hand.ensures, facts) at c.left-left.ensures.facts in
    let some : 0 < c.left-left.result = rw left c.requires.some in
    let t = bit_at-trailing_zeros w16 c.left-left.result some c.left-left.type_inv in
    let up = c.loop-n-test.true in
    inr (part_of c.args.self.now.at_hand c.args.self.now.behind c.args.cell.row c.args.cell.col c.left-left.result is c.requires.in_rows c.requires.in_columns left c.loop-n.n _ c.loop-n.self.at_hand
    c.loop-n.self.behind (omega arith) refl c.loop-n.invariant.splitting c.if-left-colour-ne0.true (trailing_zeros w16 c.left-left.result) (bit_is_set c.left-left.result _ t.1) (omega arith))

pub loop-n-preserved : goal.loop-n-preserved
loop-n-preserved c =
    let facts = ap {B = Masks} (λ (b : Boarded). b.at_hand) c.self.view_is in
    let left : c.left-left.result ≡ cell_at c.args.self.now.at_hand c.args.cell.row c.args.cell.col = rw (c.at_hand.ensures, facts) at c.left-left.ensures.value in
    let is : IsFacts c.args.self.now.at_hand = rw (c.at_hand.ensures, facts) at c.left-left.ensures.facts in
    let some : 0 < c.left-left.result = rw left c.requires.some in
    let t = bit_at-trailing_zeros w16 c.left-left.result some c.left-left.type_inv in
    let up = c.loop-n-test.true in
    let old = c.args.self.now in
    let at = c.loop-n.self in
    let kept = c.loop-n.invariant in
    elim c.if-left-colour-ne0.branch [
      | then-left-colour-ne0 w ↦
          let both = part_of old.at_hand old.behind c.args.cell.row c.args.cell.col c.left-left.result is c.requires.in_rows c.requires.in_columns left c.loop-n.n _ at.at_hand
          at.behind (omega arith) refl kept.splitting w.if-left-colour-ne0.true (trailing_zeros w16 c.left-left.result) (bit_is_set c.left-left.result _ t.1) (omega arith) in
          rw w.self-is (record {
            splitting = splitting_more old.at_hand old.behind c.args.cell.row c.args.cell.col c.left-left.result is c.requires.in_rows c.requires.in_columns left c.loop-n.n _ at.at_hand
                at.behind (omega arith) refl kept.splitting w.if-left-colour-ne0.true w.part.new.self.at_hand w.part.new.self.behind w.part.ensures.at_hand w.part.ensures.behind;
            tallied = w.part.ensures.tallied;
            parts = w.part.ensures.kept both.0 both.1 ∙ kept.parts;
          })
      | else-left-colour-ne0 w ↦
          rw w.self-is (record {
            splitting = splitting_same old.at_hand old.behind c.args.cell.row c.args.cell.col c.left-left.result is c.requires.in_rows c.requires.in_columns left c.loop-n.n _ at.at_hand
                at.behind (omega arith) refl kept.splitting w.if-left-colour-ne0.false;
            tallied = kept.tallied;
            parts = kept.parts;
          })
    ]

pub returns-clause-branches : goal.returns-clause-branches
returns-clause-branches c =
    let facts = ap {B = Masks} (λ (b : Boarded). b.at_hand) c.self.view_is in
    let left : c.left-left.result ≡ cell_at c.args.self.now.at_hand c.args.cell.row c.args.cell.col = rw (c.at_hand.ensures, facts) at c.left-left.ensures.value in
    let is : IsFacts c.args.self.now.at_hand = rw (c.at_hand.ensures, facts) at c.left-left.ensures.facts in
    let some : 0 < c.left-left.result = rw left c.requires.some in
    let end = c.loop-n-test.false in
    let last = c.loop-n.auto.n-end in
    rw (← left) (splitting_end c.args.self.now.at_hand c.args.self.now.behind c.args.cell.row c.args.cell.col c.left-left.result is c.requires.in_rows c.requires.in_columns left c.loop-n.n
    c.loop-n.self.at_hand c.loop-n.self.behind some (omega arith) c.loop-n.invariant.splitting)

pub returns-clause-last : goal.returns-clause-last
returns-clause-last c = λ e. none_after _ _ (sym c.loop-n.invariant.splitting.waits_are ∙ e)
