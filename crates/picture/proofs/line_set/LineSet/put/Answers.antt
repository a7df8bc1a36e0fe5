use Rattle.picture.specs.declared.line_id.Axis.TheVariants.{Across, Down}
use Rattle.picture.specs.LineSet.{Lines}
use Rattle.picture.proofs.LineSetLaws.{known_put, more_put}
use Rattle.picture.proofs.LineSetLemmas.{puts, puts_table}
use Rattle.picture.proofs.line_set.LineSet.put.Goals as goal

pub returns-in-Across : goal.returns-in-Across
returns-in-Across c =
    let old : Lines = record { rows = c.self.inside.rows; columns = c.self.inside.columns } in
    let members = puts Across old c.args.line c.self.invariant c.requires c.in-Across.is in
    let set = puts_table Across old c.args.line c.self.invariant c.requires c.in-Across.is in
    rw (← c.self.view_is) (record { members = members; set = set; known = known_put old _ c.args.line c.self.invariant set members; more = more_put old _ c.args.line members })

pub returns-in-Down : goal.returns-in-Down
returns-in-Down c =
    let old : Lines = record { rows = c.self.inside.rows; columns = c.self.inside.columns } in
    let members = puts Down old c.args.line c.self.invariant c.requires c.in-Down.is in
    let set = puts_table Down old c.args.line c.self.invariant c.requires c.in-Down.is in
    rw (← c.self.view_is) (record { members = members; set = set; known = known_put old _ c.args.line c.self.invariant set members; more = more_put old _ c.args.line members })

pub invariant_of-self : goal.invariant_of-self
invariant_of-self c = puts_table Across (record { rows = c.self.inside.rows; columns = c.self.inside.columns }) c.args.line c.self.invariant c.requires c.in-Across.is

pub invariant_of-self-in-Down : goal.invariant_of-self-in-Down
invariant_of-self-in-Down c = puts_table Down (record { rows = c.self.inside.rows; columns = c.self.inside.columns }) c.args.line c.self.invariant c.requires c.in-Down.is
