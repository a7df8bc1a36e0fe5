use Rattle.picture.specs.declared.line_id.Axis.TheVariants.{Across, Down}
use Rattle.picture.specs.LineSet.{Lines}
use Rattle.picture.proofs.LineSetLaws.{absent_out, fewer_out}
use Rattle.picture.proofs.LineSetLemmas.{takes_out, takes_table}
use Rattle.picture.proofs.line_set.LineSet.take_out.Goals as goal

pub returns-in-Across : goal.returns-in-Across
returns-in-Across c =
    let old : Lines = record { rows = c.self.inside.rows; columns = c.self.inside.columns } in
    let members = takes_out Across old c.args.line c.self.invariant c.requires c.in-Across.is in
    let set = takes_table Across old c.args.line c.self.invariant c.requires c.in-Across.is in
    rw (← c.self.view_is) (record { members = members; set = set; absent = absent_out old _ c.args.line c.self.invariant set members; fewer = fewer_out old _ c.args.line members })

pub returns-in-Down : goal.returns-in-Down
returns-in-Down c =
    let old : Lines = record { rows = c.self.inside.rows; columns = c.self.inside.columns } in
    let members = takes_out Down old c.args.line c.self.invariant c.requires c.in-Down.is in
    let set = takes_table Down old c.args.line c.self.invariant c.requires c.in-Down.is in
    rw (← c.self.view_is) (record { members = members; set = set; absent = absent_out old _ c.args.line c.self.invariant set members; fewer = fewer_out old _ c.args.line members })
