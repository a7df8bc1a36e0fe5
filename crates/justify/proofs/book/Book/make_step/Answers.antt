use Rattle.std.proofs.Common.{◌≡◌, ℕ, List, subst, ap, ◌∙◌}
use Rattle.std.proofs.lemmas.Bool.{MatchBool-at_true, MatchBool-at_false}
use Rattle.picture.specs.Rows.{line_of}
use Rattle.justify.specs.NewSteps.{DrawsNothing}
use Rattle.justify.proofs.MakingLemmas.{draws_nothing, new_step}
use Rattle.justify.proofs.book.Book.make_step.Goals as goal

pub returns-then-not-keep_lost-clause-makes : goal.returns-then-not-keep_lost-clause-makes
returns-then-not-keep_lost-clause-makes g c =
    let clue = c.args.clue.now in
    let left = c.copy_line.new.masks in
    let e : left ≡ line_of c.args.self.now.facts c.args.line = c.copy_line.ensures ∙ ap (λ (f : List (List ℕ)). line_of f c.args.line) c.facts-2.ensures.value in
    subst (λ (masks : List ℕ). DrawsNothing clue masks) e
    (draws_nothing clue left c.narrow.new.out c.keep_lost.new.masks c.in-Narrowed.ensures.narrows c.keep_lost.ensures.kept (MatchBool-at_false _ _ c.if-not-keep_lost.true c.keep_lost.ensures.any))

pub returns-clause-makes : goal.returns-clause-makes
returns-clause-makes g c =
    let clue = c.args.clue.now in
    let left = c.copy_line.new.masks in
    let premises = c.in_ok-premises.premises in
    let lost = c.in_ok-lost.lost in
    let e : left ≡ line_of c.args.self.now.facts c.args.line = c.copy_line.ensures ∙ ap (λ (f : List (List ℕ)). line_of f c.args.line) c.facts-2.ensures.value in
    rw (← e) (new_step clue left c.narrow.new.out c.keep_lost.new.masks lost c.in-Narrowed.ensures.narrows c.keep_lost.ensures.kept c.in_ok-lost.ensures c.args.line premises c.in_ok-premises.ensures
    (MatchBool-at_true _ _ c.if-not-keep_lost.false c.keep_lost.ensures.any))
