use Rattle.std.proofs.Common.{refl, sym, ◌∙◌}
use Rattle.command_text.proofs.WordLemmas.{behind_shorter, some_line, word_last, word_more, words_none}
use Rattle.command_text.proofs.words.next_word.Goals as goal

pub returns-in_err-start : goal.returns-in_err-start
returns-in_err-start c = rw c.from_residual.ensures (words_none c.args.line.now (sym c.word_place.ensures ∙ c.in_err-start.was))

pub returns-in-Some : goal.returns-in-Some
returns-in-Some c =
    let begins = sym c.word_place.ensures ∙ c.in_ok-start.was in
    let found = sym c.blank_place.ensures ∙ c.in-Some.is in
    (word_more c.args.line.now _ c.in_ok-start.start begins refl c.in-Some.end found, behind_shorter c.args.line.now _ c.in_ok-start.start begins refl c.in-Some.end)

pub returns-in-None : goal.returns-in-None
returns-in-None c =
    let begins = sym c.word_place.ensures ∙ c.in_ok-start.was in
    let none = sym c.blank_place.ensures ∙ c.in-None.is in
    (word_last c.args.line.now _ c.in_ok-start.start begins refl none, some_line c.args.line.now _ c.in_ok-start.start begins refl)
