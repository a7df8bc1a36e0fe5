use Rattle.cert_check.specs.FirstFault.{CertFirstFault}
use Rattle.cert_check.proofs.Answering.{answers_first, answers_only, answers_only_tree, answers_tree, answers_unique}
use Rattle.cert_check.proofs.checking.check_cert.Goals as goal

pub returns-clause-first : goal.returns-clause-first
returns-clause-first g c =
    let exact = rw c.in_ok-checker.ensures.picture at c.check.ensures.exact in
    answers_first (CertFirstFault c.args.picture.now c.args.cert.now) c.check.result exact

pub returns-clause-tree : goal.returns-clause-tree
returns-clause-tree g c = answers_tree c.args.picture.now c.args.cert.now c.check.result (returns-clause-first g c)

pub returns-clause-only : goal.returns-clause-only
returns-clause-only g c = answers_only c.args.picture.now c.args.cert.now c.check.result (returns-clause-first g c)

pub returns-clause-only_tree : goal.returns-clause-only_tree
returns-clause-only_tree g c = answers_only_tree c.args.picture.now c.args.cert.now c.check.result (returns-clause-first g c)

pub returns-clause-unique : goal.returns-clause-unique
returns-clause-unique g c = answers_unique c.args.picture.now c.args.cert.now c.check.result c.height.ensures.picture (returns-clause-first g c)
