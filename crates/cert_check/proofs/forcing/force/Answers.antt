use Rattle.std.proofs.Common.{◌≡◌, ◌∙◌, ℕ, List, ap, arith, length, subst, take}
use Rattle.picture.specs.Rows.{line_of}
use Rattle.line_facts.specs.NarrowedLine.{Narrows}
use Rattle.cert_check.proofs.SettledLemmas.{had}
use Rattle.cert_check.proofs.WalkLemmas.{forced_by, line_clue}
use Rattle.cert_check.proofs.forcing.force.Goals as goal

pub clue-requires : goal.clue-requires
clue-requires g c = line_clue c.args.claim.now.picture.now c.args.board.now.at_hand c.args.claim.now.clues.now _ c.args.line c.requires.can c.requires.tallied.same_shape c.requires.line

pub returns-clause-forced : goal.returns-clause-forced
returns-clause-forced g c =
    let facts = c.at_hand-facts.result.now in
    let cells : c.from-cells.result ≡ length (line_of facts c.args.line) = omega arith in
    let left : take c.from-cells.result c.cells_of-left.result ≡ line_of facts c.args.line = ap (λ (k : ℕ). take k c.cells_of-left.result) cells ∙ c.cells_of-left.ensures in
    let here = subst (λ (ls : List ℕ). Narrows c.clue.result.now ls c.narrow-outcome.result c.narrow-outcome.new.out) left c.narrow-outcome.ensures.narrows in
    let n = rw c.at_hand-facts.ensures at here in
    rw c.settle.ensures.at_hand
    (forced_by c.args.claim.now.picture.now c.args.board.now.at_hand c.hold_line.new.board.at_hand c.args.claim.now.clues.now _ _ c.args.line c.narrow-outcome.result _ c.requires.can
    c.clue.ensures.value n c.hold_line.ensures.holds)

pub hold_line-requires-clause-among : goal.hold_line-requires-clause-among
hold_line-requires-clause-among g c = λ i k s.
    let facts = c.at_hand-facts.result.now in
    let cells : c.from-cells.result ≡ length (line_of facts c.args.line) = omega arith in
    let left : take c.from-cells.result c.cells_of-left.result ≡ line_of facts c.args.line = ap (λ (k : ℕ). take k c.cells_of-left.result) cells ∙ c.cells_of-left.ensures in
    let here = subst (λ (ls : List ℕ). Narrows c.clue.result.now ls c.narrow-outcome.result c.narrow-outcome.new.out) left c.narrow-outcome.ensures.narrows in
    let n = rw c.at_hand-facts.ensures at here in
    had c.clue.result.now (line_of c.args.board.now.at_hand c.args.line) i k ((n.exact i k).0 s)
