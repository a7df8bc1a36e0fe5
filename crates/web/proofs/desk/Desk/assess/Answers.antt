use Rattle.std.proofs.Common.{inl, inr}
use Rattle.web.proofs.desk.Desk.assess.Goals as goal

pub returns-in-Ok-clause-assesses : goal.returns-in-Ok-clause-assesses
returns-in-Ok-clause-assesses c =
    elim c.show.ensures.shows [
      | inl short ↦ inr (inl short)
      | inr done ↦ inl (done.0, record { block = c.in-Ok.block; assesses = c.in-Ok.ensures; is = done.1 })
    ]
