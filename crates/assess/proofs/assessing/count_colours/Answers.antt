use Rattle.std.proofs.Common.{◌≡◌, ◌∙◌, ◌+◌, Bool, ℕ, cond, sym, ap, arith}
use Rattle.std.proofs.lemmas.List.FromFn.{sum_by-map-range_with_len_more}
use Rattle.flaws.specs.Cells.{has_colour}
use Rattle.assess.specs.Assessed.{colour_count, colours_below}
use Rattle.assess.proofs.assessing.count_colours.Goals as goal
use Rattle.assess.proofs.assessing.count_colours.Goals.{then-has_colour, else-has_colour}

pub loop-colour-preserved : goal.loop-colour-preserved
loop-colour-preserved c =
    let picture = c.args.picture.now in
    let colour = c.loop-colour.colour in
    let one : Bool → ℕ = λ has. cond has 1 0 in
    let step : colours_below picture (colour + 1) ≡ colours_below picture colour + one (has_colour colour picture) =
    sum_by-map-range_with_len_more one (λ (k : ℕ). has_colour k picture) 0 colour colour (omega arith) in
    let before = c.loop-colour.invariant.counted in
    let few = c.loop-colour.invariant.few in
    elim c.if-has_colour.branch [
      | then-has_colour w ↦
          let has : one (has_colour colour picture) ≡ 1 = ap one (sym c.has_colour.ensures ∙ w.if-has_colour.true) in
          record { counted = omega arith; few = omega arith }
      | else-has_colour w ↦
          let has : one (has_colour colour picture) ≡ 0 = ap one (sym c.has_colour.ensures ∙ w.if-has_colour.false) in
          record { counted = omega arith; few = omega arith }
    ]

pub returns : goal.returns
unfolding colour_count
returns c =
    let all : c.loop-colour.colour ≡ 16 = omega arith in
    c.loop-colour.invariant.counted ∙ ap (colours_below c.args.picture.now) all
