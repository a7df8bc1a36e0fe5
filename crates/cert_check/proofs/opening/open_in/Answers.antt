use Rattle.std.proofs.Common.{ℕ, ◌<◌, arith, subst}
use Rattle.cert_check.proofs.OpenLemmas.{more_told, not_first}
use Rattle.cert_check.proofs.opening.open_in.Goals as goal

pub returns-in-One : goal.returns-in-One
returns-in-One c =
    let some : 0 < c.left_of.result = omega arith in
    record {
      told = more_told c.args.facts.now c.args.literals.now c.loop-i.i _ c.loop-i-test.true c.loop-i.found c.loop-i.invariant.told (not_first c.loop-i.found c.in-One.is)
          (subst (λ (n : ℕ). 0 < n) c.left_of.ensures some);
      left = tt;
    }
