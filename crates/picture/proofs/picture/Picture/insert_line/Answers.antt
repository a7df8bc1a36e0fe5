use Rattle.picture.proofs.LineEditLemmas.{row_inserted, column_inserted}
use Rattle.picture.proofs.picture.Picture.insert_line.Goals as goal

pub invariant_of-self-in-Down : goal.invariant_of-self-in-Down
invariant_of-self-in-Down c = (column_inserted _ _ c.self.inside.cells.items c.insert_column.new.cells.items c.args.self.now c.self.view_is c.self.invariant c.args.line c.in-Down.is c.requires.place
    c.requires.room c.in_ok-insert_column-in-Down.ensures.ok).are

pub returns-in_ok-insert_row-in-Across-clause-ok : goal.returns-in_ok-insert_row-in-Across-clause-ok
returns-in_ok-insert_row-in-Across-clause-ok c = (row_inserted _ _ c.self.inside.cells.items c.insert_row.new.cells.items c.args.self.now c.self.view_is c.self.invariant c.args.line c.in-Across.is
    c.requires.place c.requires.room c.in_ok-insert_row-in-Across.ensures.ok).reads

pub returns-in_ok-insert_column-in-Down-clause-ok : goal.returns-in_ok-insert_column-in-Down-clause-ok
returns-in_ok-insert_column-in-Down-clause-ok c = (column_inserted _ _ c.self.inside.cells.items c.insert_column.new.cells.items c.args.self.now c.self.view_is c.self.invariant c.args.line
    c.in-Down.is c.requires.place c.requires.room c.in_ok-insert_column-in-Down.ensures.ok).reads
