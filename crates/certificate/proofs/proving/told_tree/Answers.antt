use Rattle.std.proofs.Common.{List, ap, subst, sym, ◌∙◌}
use Rattle.cert_text.specs.declared.cert_line.CellNumber.{CellNumber}
use Rattle.cert_text.specs.Cert.{Certificate}
use Rattle.lemma_proof.specs.Naming.{NamesGivens}
use Rattle.certificate.proofs.proving.told_tree.Goals as goal

pub check_made-requires-clause-names : goal.check_made-requires-clause-names
check_made-requires-clause-names g c =
    let s = c.args.scene.now in
    let names : List CellNumber → Type 0 = NamesGivens s.picture.now s.givens.now in
    subst names (sym (ap (λ (cert : Certificate). cert.givens) c.new-cert.ensures ∙ c.in_ok-givens.ensures)) c.requires.names
