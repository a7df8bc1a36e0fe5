use Rattle.std.proofs.Common.{◌≡◌, ◌*◌, length, ap, ◌∙◌, arith}
use Rattle.std.specs.List.{concat}
use Rattle.std.specs.Vec.{with_items}
use Rattle.std.proofs.lemmas.List.{with_items_is}
use Rattle.picture.specs.declared.line_id.Axis.TheVariants.{Down}
use Rattle.picture.specs.Picture.{part, with_part}
use Rattle.picture.specs.Rows.{rows_of, lines_swapped}
use Rattle.picture.proofs.LineEditLemmas.{Lies, rows_swapped, columns_swapped}
use Rattle.picture.proofs.picture.Picture.swap_lines.Goals as goal

across : (c : goal.After-self-1)
    → Lies c.self.inside.height c.self.inside.width (with_items c.self.inside.cells c.swap_rows.new.cells).items (lines_swapped c.args.axis c.args.i c.args.j c.args.self.now)
across c =
    let p = c.self.inside in
    let long : length c.swap_rows.new.cells ≡ p.cells.len = omega (arith, c.swap_rows.auto.cells, c.deref_mut.ensures.len) in
    rows_swapped p.height p.width p.cells.items _ c.args.self.now c.self.view_is c.self.invariant c.args.axis c.args.i c.args.j c.in-Across.is c.requires.first c.requires.second
    (with_items_is p.cells c.swap_rows.new.cells long ∙ c.swap_rows.ensures
    ∙ ap (λ xs. with_part (with_part xs (c.args.i * p.width) (part xs (c.args.j * p.width) p.width)) (c.args.j * p.width) (part xs (c.args.i * p.width) p.width)) c.deref_mut.ensures.value)

down : (c : goal.After-self-in-Down-1)
    → Lies c.self.inside.height c.self.inside.width (with_items c.self.inside.cells c.swap_columns.new.cells).items (lines_swapped c.args.axis c.args.i c.args.j c.args.self.now)
down c =
    let p = c.self.inside in
    let long : length c.swap_columns.new.cells ≡ p.cells.len = omega (arith, c.swap_columns.auto.cells, c.deref_mut-in-Down.ensures.len) in
    columns_swapped p.height p.width p.cells.items _ c.args.self.now c.self.view_is c.self.invariant c.args.axis c.args.i c.args.j c.in-Down.is c.requires.first c.requires.second
    (with_items_is p.cells c.swap_columns.new.cells long ∙ c.swap_columns.ensures
    ∙ ap (λ xs. concat (lines_swapped Down c.args.i c.args.j (rows_of p.height p.width xs))) c.deref_mut-in-Down.ensures.value)

pub invariant_of-self : goal.invariant_of-self
invariant_of-self c = (across c).are

pub returns-in-Across : goal.returns-in-Across
returns-in-Across c = (across c).reads

pub invariant_of-self-in-Down : goal.invariant_of-self-in-Down
invariant_of-self-in-Down c = (down c).are

pub returns-in-Down : goal.returns-in-Down
returns-in-Down c = (down c).reads
