use Rattle.std.proofs.Common.{refl}
use Rattle.cert_check.proofs.StrayLemmas.{no_stray, one_stray}
use Rattle.cert_check.proofs.stray.stray.Goals as goal

pub returns-then-mask-colour-eq0-clause-value : goal.returns-then-mask-colour-eq0-clause-value
returns-then-mask-colour-eq0-clause-value c = no_stray c.args.mask c.args.colour _ c.requires refl c.if-mask-colour-eq0.true

pub returns-else-mask-colour-eq0-clause-value : goal.returns-else-mask-colour-eq0-clause-value
returns-else-mask-colour-eq0-clause-value c = one_stray c.args.mask c.args.colour _ c.requires refl c.if-mask-colour-eq0.false
