use Rattle.picture.specs.LineSet.{Lines}
use Rattle.picture.proofs.UnionLemmas.{union_names, union_is_set}
use Rattle.picture.proofs.line_set.LineSet.put_all.Goals as goal

pub returns : goal.returns
returns c =
    let old : Lines = record { rows = c.self.inside.rows; columns = c.self.inside.columns } in
    let names : Lines = record { rows = c.names.inside.rows; columns = c.names.inside.columns } in
    rw (← c.self.view_is, ← c.names.view_is) (record { members = union_names old names; set = union_is_set old names c.self.invariant c.names.invariant })

pub invariant_of-self : goal.invariant_of-self
invariant_of-self c =
    union_is_set (record { rows = c.self.inside.rows; columns = c.self.inside.columns }) (record { rows = c.names.inside.rows; columns = c.names.inside.columns }) c.self.invariant c.names.invariant
