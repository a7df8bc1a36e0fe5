use Rattle.certificate.proofs.MadeLemmas.{tree_cert}
use Rattle.certificate.proofs.trees.of_tree.Goals as goal

pub returns-clause-cert : goal.returns-clause-cert
returns-clause-cert c =
    tree_cert c.tree_form-form.result c.args.givens.items c.args.lines.items c.new.result.items c.new-2.result c.new-2.ensures c.new.ensures.items
    (rw c.deref.ensures.value at c.tree_form-form.ensures) c.requires.givens c.requires.lines
