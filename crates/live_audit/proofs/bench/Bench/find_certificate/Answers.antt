use Rattle.std.proofs.Common.{List, ap, subst}
use Rattle.second_search.specs.declared.keeper.KeptPart.{KeptPart}
use Rattle.second_search.specs.JudgedParts.{FirstFilling}
use Rattle.live_audit.specs.Bench.{IsAudited, Seen}
use Rattle.live_audit.proofs.LearnLemmas.{found_at_once, none_at_once}
use Rattle.live_audit.proofs.bench.Bench.find_certificate.Goals as goal

pub returns-in-Some-clause-finds : goal.returns-in-Some-clause-finds
returns-in-Some-clause-finds g c =
    let other = c.in-Some.field-0.now in
    let first = subst (λ (kept : List KeptPart). FirstFilling kept other) (ap (λ (s : Seen). s.kept) c.self.view_is) c.in-Some.ensures.0 in
    found_at_once c.args.self.now other first (subst IsAudited c.self.view_is c.self.invariant.audited)

pub returns-in-None-clause-at_once : goal.returns-in-None-clause-at_once
returns-in-None-clause-at_once g c =
    none_at_once c.search_certificate.result c.self.inside.keeper c.args.self.now c.search_certificate.new.self c.in-None.ensures (ap (λ (s : Seen). s.kept) c.self.view_is)
