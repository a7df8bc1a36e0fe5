use Rattle.cert_text.proofs.StepLemmas.{of_four, of_three, of_two}
use Rattle.cert_text.proofs.steps.lemma_line.Goals as goal

pub returns-in_default-cut_word-clause-value : goal.returns-in_default-cut_word-clause-value
returns-in_default-cut_word-clause-value c = of_two c.args.line.now c.two_words.result c.in-Some.word.now c.in-Some.behind.now c.in-Some.ensures.cut c.in_default-cut_word.ensures.cut
    c.two_words.ensures.value

pub returns-in_default-cut_word-2-clause-value : goal.returns-in_default-cut_word-2-clause-value
returns-in_default-cut_word-2-clause-value c = of_three c.args.line.now c.three_words.result c.in-Some.word.now c.in-Some-cut_word.first.now c.in-Some.behind.now c.in-Some-cut_word.behind.now
    c.in-Some.ensures.cut
    c.in-Some-cut_word.ensures.cut c.in_default-cut_word-2.ensures.cut c.three_words.ensures.value

pub returns-in-None-clause-value : goal.returns-in-None-clause-value
returns-in-None-clause-value c = of_four c.args.line.now c.four_words.result c.in-Some.word.now c.in-Some-cut_word.first.now c.in-Some-cut_word-2.second.now c.in-Some.behind.now
    c.in-Some-cut_word.behind.now
    c.in-Some-cut_word-2.behind.now c.in-Some.ensures.cut c.in-Some-cut_word.ensures.cut c.in-Some-cut_word-2.ensures.cut c.in-None.ensures.cut c.four_words.ensures.value
