-- Two clues are the same when their blocks are, one by one.
use Rattle.std.proofs.Common.{◌≡◌, ◌&&◌, ◌==◌, Decides, ap}
use Rattle.std.proofs.lemmas.Bool.Decides.{Decides-and, Decides-eqb, Decides-like}
use Rattle.std.proofs.lemmas.Slice.Eq.{slice_eq-Decides}
use Rattle.clues.specs.declared.block.Block.{Block}
use Rattle.clues.specs.Clue.{block}
use Rattle.clues.proofs.clue.Clue.same.Goals as goal

decides : (a b : Block) → Decides ((a.len == b.len) && (a.colour == b.colour)) (a ≡ b)
decides a b =
    Decides-like _ (λ (e : (a.len ≡ b.len) × (a.colour ≡ b.colour)). let joined : block a.len a.colour ≡ block b.len b.colour = cc (e.0, e.1) in joined)
    (λ (e : a ≡ b). (ap (λ (x : Block). x.len) e, ap (λ (x : Block). x.colour) e))
    (Decides-and _ _ (Decides-eqb a.len b.len) (Decides-eqb a.colour b.colour))

pub returns : goal.returns
returns c =
    let d = slice_eq-Decides decides c.blocks-2.result.now c.blocks-3.result.now c.eq.result c.eq.ensures in
    let h = rw (c.blocks-2.ensures.blocks, c.blocks-3.ensures.blocks) at d in
    h
