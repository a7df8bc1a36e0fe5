use Rattle.std.proofs.Common.{◌∙◌}
use Rattle.picture.proofs.OrderLemmas.{cells_coloured, seen_in_rows, are_numbers, rows_renumbered, numbers_coloured}
use Rattle.picture.proofs.picture.Picture.renumbered.Goals as goal

pub numbers_for-requires-clause-coloured : goal.numbers_for-requires-clause-coloured
numbers_for-requires-clause-coloured c =
    let p = c.self.inside in
    λ k lt. cells_coloured p.height p.width p.cells.items c.args.self.now c.self.view_is c.self.invariant c.args.colours.now.triples c.deref.result.now c.deref.ensures.value _
    c.len.ensures.palette.has_background c.requires.coloured k

pub from_cells-requires : goal.from_cells-requires
from_cells-requires c =
    let p = c.self.inside in
    are_numbers p.height p.width p.cells.items c.args.self.now c.self.view_is c.self.invariant c.args.colours.now.triples c.deref.result.now c.deref.ensures.value
    c.args.palette.now c.numbers_for.new.palette _ c.len-2.ensures.palette c.in_ok-numbers.ensures.palette c.in_ok-numbers.ensures.numbers

pub returns-clause-palette : goal.returns-clause-palette
returns-clause-palette c =
    let p = c.self.inside in
    seen_in_rows p.height p.width p.cells.items c.args.self.now c.self.view_is c.self.invariant c.args.colours.now.triples c.deref.result.now c.deref.ensures.value
    c.args.palette.now c.numbers_for.new.palette c.in_ok-numbers.ensures.palette

pub returns-clause-rows : goal.returns-clause-rows
returns-clause-rows c =
    let p = c.self.inside in
    c.from_cells.ensures
    ∙ rows_renumbered p.height p.width p.cells.items c.args.self.now c.self.view_is c.self.invariant c.args.colours.now.triples c.deref.result.now c.deref.ensures.value
    c.args.palette.now c.numbers_for.new.palette _ c.len-2.ensures.palette c.in_ok-numbers.ensures.palette c.in_ok-numbers.ensures.numbers

pub returns-clause-coloured : goal.returns-clause-coloured
returns-clause-coloured c =
    let p = c.self.inside in
    numbers_coloured p.height p.width p.cells.items c.args.self.now c.self.view_is c.self.invariant c.args.colours.now.triples c.deref.result.now c.deref.ensures.value
    c.args.palette.now c.numbers_for.new.palette _ c.len-2.ensures.palette c.in_ok-numbers.ensures.palette c.in_ok-numbers.ensures.numbers c.from_cells.result c.from_cells.ensures
