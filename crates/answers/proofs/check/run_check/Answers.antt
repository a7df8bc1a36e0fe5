use Rattle.std.proofs.Common.{inr}
use Rattle.std.proofs.KnownBytes.{Keeps-refl}
use Rattle.std.proofs.lemmas.Result.{err_from_is_err_and}
use Rattle.answers.proofs.CheckLemmas.{checked_by}
use Rattle.answers.proofs.check.run_check.Goals as goal

pub returns-in_err-accepted-clause-writes : goal.returns-in_err-accepted-clause-writes
returns-in_err-accepted-clause-writes g c =
    let p = err_from_is_err_and c.from_residual.result c.from_residual.ensures.1 in
    rw p.1 (inr (checked_by _ _ _ _ _ p.0 p.2 c.in_err-accepted.ensures.shown, Keeps-refl _))
