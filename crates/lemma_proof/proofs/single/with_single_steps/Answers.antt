use Rattle.std.proofs.Common.{◌++◌, ◌∙◌, ap, List}
use Rattle.cert_text.specs.declared.cert_line.CellNumber.{CellNumber}
use Rattle.cert_text.specs.declared.cert_line.CertLine.{CertLine}
use Rattle.lemma_proof.proofs.FormLemmas.{as_good}
use Rattle.lemma_proof.proofs.single.with_single_steps.Goals as goal

pub returns-clause-good : goal.returns-clause-good
returns-clause-good c =
    as_good c.args.cert.now c.extend_from_slice.new.self.items c.extend_from_slice-2.new.self.items c.new.result.items c.new-2.result
    (c.in_ok-extend_from_slice.ensures.items ∙ (ap (λ (cells : List CellNumber). cells ++ c.givens.result.now) c.new-givens.ensures.items ∙ c.givens.ensures))
    (c.in_ok-extend_from_slice-2.ensures.items ∙ (ap (λ (lines : List CertLine). lines ++ c.lines.result.now) c.new-lines.ensures.items ∙ c.lines.ensures))
    c.new.ensures.items c.new-2.ensures
