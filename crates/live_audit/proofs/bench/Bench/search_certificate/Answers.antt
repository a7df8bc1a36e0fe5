use Rattle.std.proofs.Common.{ap, subst, ◌∙◌}
use Rattle.edits.specs.Design.{Design}
use Rattle.live_audit.specs.Bench.{Seen}
use Rattle.live_audit.specs.Certify.{Certifies}
use Rattle.live_audit.proofs.bench.Bench.search_certificate.Goals as goal

pub returns-clause-certifies : goal.returns-clause-certifies
returns-clause-certifies g c =
    subst (λ (d : Design). Certifies d c.in_ok-cert.cert) (c.document-document.ensures ∙ ap (λ (s : Seen). s.history.document) c.self.view_is) c.in_ok-cert.ensures.certifies
