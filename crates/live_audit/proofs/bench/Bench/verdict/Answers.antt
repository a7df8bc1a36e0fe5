use Rattle.std.proofs.Common.{refl}
use Rattle.live_audit.proofs.VerdictLemmas.{verdict_was}
use Rattle.live_audit.proofs.bench.Bench.verdict.Goals as goal

pub returns : goal.returns
returns g c =
    let d = c.in_ok-is_decided.ensures in
    let j = d.decides.0 in
    let s = c.shown.ensures j d.decides.1.0 in (
      (refl, λ b. tt, (d.audited, (c.decide.ensures.calls, (j, (s.0, d.decides.1.1))))),
      record { keeps = tt; headline = verdict_was c.args.self.now c.decide.new.self c.shown.result j d.decides.1.1 s.1 },
    )
