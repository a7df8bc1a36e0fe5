use Rattle.line_facts.proofs.GridLaws.{shape_trans}
use Rattle.second_search.proofs.ComingLemmas.{comes_closed, splits_but}
use Rattle.second_search.proofs.DrawLemmas.{closing_few}
use Rattle.second_search.proofs.LookLemmas.{others_stay, rows_stay}
use Rattle.second_search.proofs.coming.come_to.Goals as goal

pub split_or_end-requires-clause-same_shape : goal.split_or_end-requires-clause-same_shape
split_or_end-requires-clause-same_shape g c = shape_trans c.requires.same_shape (rw c.in_ok-settled.ensures at c.close_naming-closed.ensures.closes.holds.same_shape)

pub split_or_end-requires-clause-others : goal.split_or_end-requires-clause-others
split_or_end-requires-clause-others g c = others_stay c.args.book.now c.args.known.now c.args.facts.now c.in_ok-settled.settled c.close_naming-closed.new.facts _ c.args.due.now.rows
    c.in_ok-settled.ensures c.close_naming-closed.ensures.closes c.in-Narrowed.is c.requires.others

pub split_or_end-requires-clause-above : goal.split_or_end-requires-clause-above
split_or_end-requires-clause-above g c = rows_stay c.args.book.now c.args.facts.now c.in_ok-settled.settled c.close_naming-closed.new.facts _ c.args.due.now.top c.in_ok-settled.ensures
    c.close_naming-closed.ensures.closes c.in-Narrowed.is c.requires.above

pub returns-in_ok-coming-in-Narrowed-clause-comes :
    goal.returns-in_ok-coming-in-Narrowed-clause-comes
returns-in_ok-coming-in-Narrowed-clause-comes g c = comes_closed c.args.book.now c.args.facts.now c.in_ok-settled.settled c.close_naming-closed.new.facts _ c.in_ok-coming-in-Narrowed.coming
    c.in_ok-settled.ensures c.close_naming-closed.ensures.closes c.in-Narrowed.is c.in_ok-coming-in-Narrowed.ensures

pub returns-in_ok-coming-in-Narrowed-clause-kept :
    goal.returns-in_ok-coming-in-Narrowed-clause-kept
returns-in_ok-coming-in-Narrowed-clause-kept g c = splits_but c.args.facts.now c.in_ok-settled.settled c.close_naming-closed.new.facts c.in_ok-coming-in-Narrowed.coming _ c.in_ok-settled.ensures
    c.close_naming-closed.ensures.kept c.in_ok-coming-in-Narrowed.ensures

pub returns-in_err-coming-in-Narrowed-clause-few : goal.returns-in_err-coming-in-Narrowed-clause-few
returns-in_err-coming-in-Narrowed-clause-few g c =
    closing_few c.args.book.now c.args.facts.now _ c.args.due.now.lines _ _ _ _ _ c.height.ensures.facts c.requires.lines (rw c.in_ok-settled.ensures at c.close_naming-closed.ensures.works)

pub returns-in-Dead-clause-few : goal.returns-in-Dead-clause-few
returns-in-Dead-clause-few g c =
    closing_few c.args.book.now c.args.facts.now _ c.args.due.now.lines _ _ _ _ _ c.height.ensures.facts c.requires.lines (rw c.in_ok-settled.ensures at c.close_naming-closed.ensures.works)

pub returns-in_ok-coming-in-Narrowed-clause-few : goal.returns-in_ok-coming-in-Narrowed-clause-few
returns-in_ok-coming-in-Narrowed-clause-few g c =
    closing_few c.args.book.now c.args.facts.now _ c.args.due.now.lines _ _ _ _ _ c.height.ensures.facts c.requires.lines (rw c.in_ok-settled.ensures at c.close_naming-closed.ensures.works)
