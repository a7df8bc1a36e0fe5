use Rattle.std.proofs.lemmas.Bool.{false≢true}
use Rattle.std.proofs.lemmas.Result.{IfOk-weaker}
use Rattle.second_search.specs.SettledFacts.{FindsFilling}
use Rattle.second_search.specs.Other.{FindsFirst}
use Rattle.second_search.proofs.FindLemmas.{finds_first}
use Rattle.second_search.proofs.KnownLaws.{clues_are_of_lines}
use Rattle.second_search.proofs.finding.find_first_within.Goals as goal

pub returns-clause-finds : goal.returns-clause-finds
returns-clause-finds g c =
    let book = c.args.book.now in
    let facts = c.in_ok-facts in
    IfOk-weaker c.find_in_turns.result (FindsFilling book facts.facts c.in_ok-blank.blank) (FindsFirst book)
    (λ found. finds_first book facts.facts c.in_ok-blank.blank c.height-3.result c.width-2.result found clues_are_of_lines.sizes c.height-3.ensures.value c.width-2.ensures.value facts.ensures.value
    facts.ensures.all_left (λ e. false≢true (c.if-has_clues.ensures.1 e)))
    c.find_in_turns.ensures.finds
