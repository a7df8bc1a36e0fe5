use Rattle.std.proofs.Common.{◌≡◌, ℕ, ◌+◌, ◌-◌, ◌*◌, ◌/◌, ◌∙◌, ap, subst, arith, refl, bit_and, length}
use Rattle.line_settle.specs.Positions.{IsColoured}
use Rattle.line_settle.proofs.ColouringLemmas.{coloured_on, coloured_last, low_eight, rest_more}
use Rattle.line_settle.proofs.positions.colour_line.Goals as goal

pub loop-chunk-preserved : goal.loop-chunk-preserved
loop-chunk-preserved g c =
    let set = g.W.Word.bits c.args.set in
    let rest = g.W.Word.bits c.loop-chunk.rest in
    let chunk = c.loop-chunk.chunk in
    record {
      left = λ j. rw c.down-rest.ensures (rest_more set rest chunk j c.loop-chunk.invariant.left);
      coloured = coloured_on set _ _ _ (8 * chunk) (8 * chunk) (8 * chunk + 8) (8 * (chunk + 1)) _ _ _ refl (omega arith) (omega arith)
          (λ j h. rw (c.low_eight-in-loop-chunk.ensures, low_eight rest j (omega arith)) (c.loop-chunk.invariant.left j))
          c.loop-chunk.invariant.coloured c.colour_cells-in-loop-chunk.ensures;
    }

pub returns-then-cells-lt8 : goal.returns-then-cells-lt8
returns-then-cells-lt8 g c = λ i k h.
    rw (c.colour_cells.ensures.inside i i k (omega arith) (omega arith), c.low_eight.ensures, low_eight (g.W.Word.bits c.args.set) i (omega arith)) refl

pub returns-then-cells-ne0 : goal.returns-then-cells-ne0
returns-then-cells-ne0 g c =
    let n = length c.args.out.now in
    let out = c.loop-chunk.out in
    let new = c.colour_cells-then-cells-ne0.new.out in
    let Q : ℕ → Type 0 = λ s. IsColoured s c.args.colour c.args.keep (n - 8) (n - 8 + 8) out new in
    let P : ℕ → Type 0 = λ m. IsColoured (g.W.Word.bits c.args.set) c.args.colour c.args.keep 0 m c.args.out.now out in
    coloured_last _ _ _ (n - 8) (8 * (n / 8)) n _ out new (omega arith) (omega arith) (omega arith)
    (subst P (let e : 8 * c.loop-chunk.chunk ≡ 8 * (n / 8) = omega arith in e) c.loop-chunk.invariant.coloured)
    (subst Q (c.low_eight-then-cells-ne0.ensures ∙ ap (λ s. bit_and s 255) c.down.ensures) c.colour_cells-then-cells-ne0.ensures)
