use Rattle.std.proofs.Common.{arith, refl}
use Rattle.std.proofs.lemmas.Result.{IfOk-weaker}
use Rattle.second_search.specs.SettledFacts.{FindsFilling}
use Rattle.second_search.specs.Other.{FindsOther}
use Rattle.second_search.proofs.FindLemmas.{can_close, finds_other}
use Rattle.second_search.proofs.KnownLaws.{clues_are_of_lines}
use Rattle.second_search.proofs.finding.find_other.Goals as goal

pub find_filling-requires-clause-closable : goal.find_filling-requires-clause-closable
find_filling-requires-clause-closable g c =
    can_close c.args.book.now c.args.picture.now c.args.facts.now c.args.facts.now _ (clues_are_of_lines.sizes c.args.picture.now) c.requires.clues c.requires.sound.same_shape refl (omega arith)
    (omega arith)

pub returns-clause-finds : goal.returns-clause-finds
returns-clause-finds g c =
    let facts = c.args.facts.now in
    IfOk-weaker c.find_filling.result (FindsFilling c.args.book.now facts c.args.picture.now) (FindsOther c.args.book.now c.args.givens.now c.args.picture.now)
    (λ found. finds_other c.args.book.now c.args.givens.now c.args.picture.now facts facts found c.requires.sound refl)
    c.find_filling.ensures.finds
