use Rattle.std.proofs.Common.{List, ℕ, ap, ◌∙◌, length}
use Rattle.picture.specs.Rows.{width_of, with_cell}
use Rattle.edits.specs.Design.{marks_of}
use Rattle.edits.proofs.DesignLemmas.{assembled, pinned_marks}
use Rattle.edits.proofs.parts.pinned.Goals as goal

pub returns : goal.returns
returns c =
    let rows = c.args.document.now.picture in
    let e = c.in_ok-after.ensures in
    assembled c.args.document.now.palette c.in_ok-after.after.palette rows c.in_ok-after.after.picture c.put.new.self _ e.palette e.picture
    (pinned_marks _ _ c.in_ok-after.after.givens c.put.new.self c.args.row c.args.col c.requires.in_rows c.requires.in_columns c.put.ensures.members
    ∙ ap (λ (g : List ℕ). with_cell (marks_of (length rows) (width_of rows) g) c.args.row c.args.col 1) e.givens)
