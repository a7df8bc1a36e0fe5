use Rattle.live_audit.proofs.LearnLemmas.{learnt_on}
use Rattle.session.proofs.answer.certificate_text.Goals as goal

pub returns-clause-text : goal.returns-clause-text
returns-clause-text g c = (c.in_ok-found.found.cert, (c.in_ok-found.ensures.certifies, c.in_ok-push_found.ensures))

pub returns-clause-learns : goal.returns-clause-learns
returns-clause-learns g c = learnt_on c.args.bench.now c.find_certificate.new.self c.keep.new.self c.find_certificate.ensures.as_before c.keep.ensures.learns
