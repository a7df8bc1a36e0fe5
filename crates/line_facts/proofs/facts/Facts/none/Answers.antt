use Rattle.std.proofs.Common.{◌∙◌, ◌*◌, ◌≡◌, sym, ap, subst, replicate, List, ℕ, ◌<◌}
use Rattle.std.specs.Prelude.{IsBitSet}
use Rattle.picture.specs.Rows.{rows_of, cell_at}
use Rattle.line_facts.proofs.GridLaws.{all_left}
use Rattle.line_facts.proofs.FactLemmas.{rows_of_one}
use Rattle.line_facts.proofs.facts.Facts.none.Goals as goal

pub returns-clause-all_left : goal.returns-clause-all_left
returns-clause-all_left c =
    let h = c.args.height in
    let w = c.args.width in
    let all : c.in_ok-masks.masks.items ≡ replicate (h * w) 65535 = c.in_ok-masks.ensures.items_if_clones_equal (λ y e. e) in
    let e : c.from_masks.result ≡ replicate h (replicate w 65535) = c.from_masks.ensures ∙ (ap (rows_of h w) all ∙ rows_of_one h w 65535) in
    let P : List (List ℕ) → Type 0 = λ f. (row col k : ℕ) → row < h → col < w → k < 16 → IsBitSet (cell_at f row col) k in
    subst P (sym e) (all_left h w)
