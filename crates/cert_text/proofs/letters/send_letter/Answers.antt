use Rattle.cert_text.proofs.LetterLemmas.{a_letter, no_letter}
use Rattle.cert_text.proofs.letters.send_letter.Goals as goal

pub returns-then-colours-colour-eq0-clause-ok : goal.returns-then-colours-colour-eq0-clause-ok
returns-then-colours-colour-eq0-clause-ok g c = rw (no_letter c.args.colours c.args.colour c.requires c.if-colours-colour-eq0.true) c.send.ensures.ok

pub returns-else-colours-colour-eq0-clause-ok : goal.returns-else-colours-colour-eq0-clause-ok
returns-else-colours-colour-eq0-clause-ok g c =
    rw (a_letter c.args.colours c.args.colour c.requires c.if-colours-colour-eq0.false) (rw c.letter_of.ensures at c.send-else-colours-colour-eq0.ensures.ok)

pub returns-else-colours-colour-eq0-clause-err : goal.returns-else-colours-colour-eq0-clause-err
returns-else-colours-colour-eq0-clause-err g c =
    rw (a_letter c.args.colours c.args.colour c.requires c.if-colours-colour-eq0.false) (rw c.letter_of.ensures at c.send-else-colours-colour-eq0.ensures.err)
