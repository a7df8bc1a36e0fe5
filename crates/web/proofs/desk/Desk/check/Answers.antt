use Rattle.std.proofs.Common.{inl, inr}
use Rattle.answers.specs.Check.{IsCheckOf}
use Rattle.answers.proofs.CheckLemmas.{checked_by, line_by}
use Rattle.web.proofs.CheckLemmas.{refused_by}
use Rattle.web.proofs.desk.Desk.check.Goals as goal

pub returns-in-Ok-clause-checks : goal.returns-in-Ok-clause-checks
returns-in-Ok-clause-checks c =
    elim c.show.ensures.shows [
      | inl short ↦ inr (inl short)
      | inr done ↦ inl (
        done.0,
        record {
          only = c.in-Ok.ensures.unique;
          line = c.in-Ok.accepted.line.items;
          shows = line_by _ _ _ _ _ c.in-Ok.ensures.shown;
          named = c.in-Ok.accepted.givens.items;
          are_named = c.in-Ok.ensures.givens;
          is = done.1;
        },
      )
    ]

pub returns-in-Err-clause-checks : goal.returns-in-Err-clause-checks
returns-in-Err-clause-checks c =
    inr (refused_by (IsCheckOf c.args.file.now c.args.background _ c.args.cert.now) c.from.result _ c.refuse.result
    (checked_by _ _ _ _ c.in-Err.fault c.from.result c.from.ensures c.in-Err.ensures.shown) c.refuse.ensures.tells c.refuse.ensures.memory)
