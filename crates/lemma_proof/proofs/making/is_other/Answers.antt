use Rattle.std.proofs.lemmas.Bool.{false≢true}
use Rattle.std.proofs.Common.{sym, ◌∙◌}
use Rattle.lemma_proof.proofs.MakingLemmas.{other_found}
use Rattle.lemma_proof.proofs.making.is_other.Goals as goal

pub returns : goal.returns
returns c = λ agrees.
    other_found c.args.clues.now c.args.givens.now c.args.picture.now c.args.other.now c.requires.clues c.requires.inside (c.has_clues.ensures.0 c.if-not-has_clues.false)
    (λ e. false≢true (sym c.if-same.false ∙ c.same.ensures.1 e)) (c.agrees_in.ensures agrees)
