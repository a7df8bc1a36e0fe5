use Rattle.std.proofs.Common.{ℕ, ◌-◌, ◌<◌, List, ◌∷◌, ◌++◌, length, take, drop, decimal, sym, ap, ◌∙◌, append_assoc, rules}
use Rattle.std.specs.List.{flat_map}
use Rattle.std.proofs.lemmas.List.{take_all}
use Rattle.clues.specs.declared.block.Block.{Block}
use Rattle.non_text.proofs.TextLemmas.{clue_text_at}
use Rattle.non_text.proofs.text.put_blocks.Goals as goal

pub returns : goal.returns
returns c =
    let old = c.args.text.now.items in
    let blocks = c.args.blocks.now in
    let others = take (length blocks - 1) (drop 1 blocks) in
    let text = λ (b : Block). 44 ∷ decimal b.len in
    let some : 0 < length blocks = search rules in
    c.loop-block.invariant
    ∙ ap (λ (xs : List Block). c.put_number.new.text.items ++ flat_map text xs) (take_all c.loop-block.block-index others c.loop-block-test.false)
    ∙ ap (λ (front : List ℕ). front ++ flat_map text others) c.in_ok-put_number.ensures
    ∙ append_assoc old _ (flat_map text others)
    ∙ ap (λ (rest : List ℕ). old ++ rest) (sym (clue_text_at blocks _ some))
