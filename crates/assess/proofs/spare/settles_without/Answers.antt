use Rattle.std.proofs.Common.{Bool, length, subst, sym, ap, ◌∙◌, arith}
use Rattle.picture.specs.Rows.{cell_at, width_of}
use Rattle.clues.specs.ClueBook.{clues_of}
use Rattle.assess.specs.Spares.{IsSettledIf}
use Rattle.assess.proofs.SpareLemmas.{map_tall, map_wide, settled_so, settles_as}
use Rattle.assess.proofs.spare.settles_without.Goals as goal

pub settled-requires : goal.settled-requires
settled-requires g c = record { book = c.requires.book ∙ ap clues_of (sym c.in_ok-copy.ensures.picture); long = c.requires.long }

pub shown-shown-requires : goal.shown-shown-requires
shown-shown-requires g c =
    let same = ap length c.in_ok-copy.ensures.picture in
    let tall = map_tall _ _ _ c.in_ok-map.ensures.map in
    let wide = map_wide _ _ _ c.in_ok-map.ensures.map in
    record { in_rows = omega (arith, c.requires.in_rows, tall, same); in_columns = omega (arith, c.requires.in_columns, wide, ap width_of c.in_ok-copy.ensures.picture) }

pub returns-clause-settles : goal.returns-clause-settles
returns-clause-settles g c =
    let e = c.in_ok-copy.ensures in
    settles_as c.args.document.now.picture _ c.args.document.now.givens _ c.take_out.new.self _ _ _ _ e.picture e.givens c.take_out.ensures.members c.in_ok-map.ensures.map
    (subst (λ (b : Bool). IsSettledIf b (cell_at c.in_ok-map.map c.args.cell.row c.args.cell.col)) (sym c.is_some.ensures) (settled_so c.shown-shown.result _ c.shown-shown.ensures))
