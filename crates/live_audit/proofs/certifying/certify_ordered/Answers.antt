use Rattle.edits.specs.Design.{design_of}
use Rattle.live_audit.proofs.CertifyLemmas.{certified}
use Rattle.live_audit.proofs.OthersLemmas.{joined, same_others}
use Rattle.edits.proofs.DesignLemmas.{all_marked as marks_are_givens}
use Rattle.second_search.proofs.KnownLaws.{books_are_their_clues, clues_are_of_lines}
use Rattle.live_audit.proofs.certifying.certify_ordered.Goals as goal

pub returns-clause-certifies : goal.returns-clause-certifies
returns-clause-certifies g c =
    let d = c.args.document.now in
    let o = c.in_ok-document in
    let others =
    same_others clues_are_of_lines books_are_their_clues d o.document c.know.ensures.design.is_palette d.coloured c.know.ensures.design.is_picture c.know-2.ensures.design.is_picture o.ensures.content o.ensures.shown in
    joined (design_of d) c.make_cert_within.result others
    (certified marks_are_givens d o.document c.make_cert_within.result d.inside o.ensures.content c.make_cert_within.ensures.makes)
