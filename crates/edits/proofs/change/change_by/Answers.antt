use Rattle.std.proofs.Common.{sym}
use Rattle.edits.proofs.change.change_by.Goals as goal

pub returns-in-InsertLine-clause-exact : goal.returns-in-InsertLine-clause-exact
returns-in-InsertLine-clause-exact c =
    let leads = rw c.in-InsertLine.is at c.requires in
    c.insert.ensures.agreeing c.args.old.now c.args.new.now
    (record { is_picture = c.width-width.ensures.picture; row_count = sym c.height-height.ensures.value; column_count = sym c.width-width.ensures.value })
    c.height.ensures.picture leads.2

pub returns-in-DeleteLine-clause-exact : goal.returns-in-DeleteLine-clause-exact
returns-in-DeleteLine-clause-exact c =
    let leads = rw c.in-DeleteLine.is at c.requires in
    rw leads.2
    (c.delete.ensures.exact c.args.old.now
    (record { is_picture = c.width-width.ensures.picture; row_count = sym c.height-height.ensures.value; column_count = sym c.width-width.ensures.value })
    (rw leads.2 at c.height.ensures.picture))
