use Rattle.std.proofs.Common.{◌≡◌, refl, subst, sym}
use Rattle.std.proofs.lemmas.Result.{IfOk-weaker}
use Rattle.std.proofs.lemmas.Bool.{false≢true}
use Rattle.second_search.specs.declared.keeper.Answer.{Answer}
use Rattle.second_search.specs.CarriedParts.{IsCarried, carried}
use Rattle.second_search.specs.JudgedParts.{IsTrueOf, answer_at, cells_at}
use Rattle.second_search.specs.Parts.{board}
use Rattle.second_search.proofs.CarryLemmas.{answer_carried, carried_true, holds_known, named_keeps, nothing_carried, part_before}
use Rattle.second_search.proofs.VerdictLemmas.{answer_is}
use Rattle.second_search.proofs.KnownLaws.{fillings_stay}
use Rattle.second_search.proofs.keeper.Keeper.carried.Goals as goal
use Rattle.second_search.proofs.AloneLemmas.{part_inside}

pub are_named-requires : goal.are_named-requires
are_named-requires c = λ row col h.
    part_inside c.args.after.now.facts.now c.args.cells.now row col c.height.ensures.facts c.requires.part h

pub returns-then-not-are_named-clause-carried : goal.returns-then-not-are_named-clause-carried
returns-then-not-are_named-clause-carried c =
    let b = c.args.before.now in
    let a = c.args.after.now in
    nothing_carried b.clues.now b.facts.now b.picture.now a.clues.now a.givens.now a.facts.now a.picture.now c.args.self.now c.args.same.now c.args.cells.now c.requires.same
    (λ named. false≢true (c.if-not-are_named.ensures.1 named))

pub place_of-at-requires-clause-part : goal.place_of-at-requires-clause-part
place_of-at-requires-clause-part c =
    let b = c.args.before.now in
    let a = c.args.after.now in
    let keeps = named_keeps b.clues.now b.facts.now b.picture.now a.clues.now a.givens.now a.facts.now a.picture.now c.args.same.now c.args.cells.now c.requires.after c.requires.part c.requires.same
    (c.if-not-are_named.ensures.0 refl) in
    part_before b.clues.now b.facts.now b.picture.now a.clues.now a.givens.now a.facts.now a.picture.now fillings_stay c.args.cells.now c.requires.part keeps

pub answer_for-requires : goal.answer_for-requires
answer_for-requires c =
    let b = c.args.before.now in
    let a = c.args.after.now in
    let at = c.place_of-at.result in
    let kept = c.args.self.now in
    let keeps = named_keeps b.clues.now b.facts.now b.picture.now a.clues.now a.givens.now a.facts.now a.picture.now c.args.same.now c.args.cells.now c.requires.after c.requires.part c.requires.same
    (c.if-not-are_named.ensures.0 refl) in
    let part = part_before b.clues.now b.facts.now b.picture.now a.clues.now a.givens.now a.facts.now a.picture.now fillings_stay c.args.cells.now c.requires.part keeps in
    let same = answer_is c.self.inside.kept.items kept at c.index.result.now c.self.view_is c.place_of-at.ensures.place c.index.ensures in
    holds_known b.clues.now b.givens.now b.facts.now b.picture.now c.args.cells.now (cells_at kept at) c.index.result.now.answer c.requires.before part c.place_of-at.ensures.cells
    (rw same at (c.requires.true_answers at c.place_of-at.ensures.place))

pub returns : goal.returns
returns c =
    let b = c.args.before.now in
    let a = c.args.after.now in
    let at = c.place_of-at.result in
    let kept = c.args.self.now in
    let cells = c.args.cells.now in
    let keeps = named_keeps b.clues.now b.facts.now b.picture.now a.clues.now a.givens.now a.facts.now a.picture.now c.args.same.now cells c.requires.after c.requires.part c.requires.same
    (c.if-not-are_named.ensures.0 refl) in
    let part = part_before b.clues.now b.facts.now b.picture.now a.clues.now a.givens.now a.facts.now a.picture.now fillings_stay cells c.requires.part keeps in
    let same = answer_is c.self.inside.kept.items kept at c.index.result.now c.self.view_is c.place_of-at.ensures.place c.index.ensures in
    let P : Answer → Answer → Type 0 = λ known x. known ≡ carried cells a.picture.now x in
    let Is : Answer → Type 0 = λ known. known ≡ carried cells a.picture.now c.index.result.now.answer in
    record {
      carried = IfOk-weaker c.answer_for.result Is (IsCarried (board b.clues.now b.facts.now b.picture.now) (board a.clues.now a.facts.now a.picture.now) kept cells)
          (λ known e. answer_carried b.clues.now b.facts.now b.picture.now a.clues.now a.givens.now a.facts.now a.picture.now kept at cells known keeps c.place_of-at.ensures.place
          c.place_of-at.ensures.cells (subst (P known) (sym same) e)) c.answer_for.ensures;
      true_answer = IfOk-weaker c.answer_for.result Is (IsTrueOf a.clues.now a.givens.now a.picture.now cells)
          (λ known e. carried_true b.clues.now b.facts.now b.picture.now a.clues.now a.givens.now a.facts.now a.picture.now fillings_stay b.givens.now cells (cells_at kept at) (answer_at kept at)
          known c.requires.before c.requires.after keeps part c.place_of-at.ensures.cells (subst (P known) (sym same) e) (c.requires.true_answers at c.place_of-at.ensures.place)) c.answer_for.ensures;
    }
