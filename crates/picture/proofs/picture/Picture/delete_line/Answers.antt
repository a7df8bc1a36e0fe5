use Rattle.picture.proofs.LineEditLemmas.{row_deleted, column_deleted}
use Rattle.picture.proofs.picture.Picture.delete_line.Goals as goal

pub invariant_of-self : goal.invariant_of-self
invariant_of-self c = (row_deleted _ _ c.self.inside.cells.items c.delete_row.new.cells.items c.args.self.now c.self.view_is c.self.invariant c.args.line c.in-Across.is c.requires.line
    c.requires.others c.delete_row.ensures).are

pub invariant_of-self-in-Down : goal.invariant_of-self-in-Down
invariant_of-self-in-Down c = (column_deleted _ _ c.self.inside.cells.items c.delete_column.new.cells.items c.args.self.now c.self.view_is c.self.invariant c.args.line c.in-Down.is c.requires.line
    c.requires.others c.delete_column.ensures).are

pub returns-in-Across : goal.returns-in-Across
returns-in-Across c = (row_deleted _ _ c.self.inside.cells.items c.delete_row.new.cells.items c.args.self.now c.self.view_is c.self.invariant c.args.line c.in-Across.is c.requires.line
    c.requires.others c.delete_row.ensures).reads

pub returns-in-Down : goal.returns-in-Down
returns-in-Down c = (column_deleted _ _ c.self.inside.cells.items c.delete_column.new.cells.items c.args.self.now c.self.view_is c.self.invariant c.args.line c.in-Down.is c.requires.line
    c.requires.others c.delete_column.ensures).reads
