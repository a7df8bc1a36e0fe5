use Rattle.cert_text.proofs.WordLemmas.{more_words}
use Rattle.cert_text.proofs.words.three_words.Goals as goal

pub returns-in-Some : goal.returns-in-Some
returns-in-Some c = more_words c.args.line.now c.in_ok-word.word.now c.in_ok-word.behind.now c.in_ok-first.first.now c.in_ok-first.second.now c.in-Some.field-0.0.now c.in-Some.field-0.1.now
    c.in_ok-word.ensures.cut c.in_ok-first.ensures.cut c.in-Some.ensures.cut
