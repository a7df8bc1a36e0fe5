use Rattle.std.proofs.Common.{◌∙◌, List, ℕ, ap, arith, length, refl, sym}
use Rattle.std.proofs.lemmas.Result.{IfOk-weaker}
use Rattle.second_search.specs.Parts.{AreParts, part_at, board}
use Rattle.second_search.specs.CarriedParts.{Carries}
use Rattle.second_search.specs.JudgedParts.{AreTrue, Starts, parts_of}
use Rattle.second_search.specs.declared.keeper.KeptPart.{KeptPart}
use Rattle.second_search.proofs.CarryLemmas.{all_carried, carries_more, nothing_known}
use Rattle.second_search.proofs.KnownLaws.{fillings_stay, same_cells_are_equal}
use Rattle.second_search.proofs.keeper.Keeper.carry.Goals as goal

pub loop-i-preserved : goal.loop-i-preserved
loop-i-preserved c =
    let b = c.args.before.now in
    let a = c.args.after.now in
    let same = ap (λ (xs : List (List ℕ)). part_at xs c.loop-i.i) (sym c.parts.view_is) in
    carries_more b.clues.now b.facts.now b.picture.now a.clues.now a.givens.now a.facts.now a.picture.now c.args.self.now c.parts.inside.parts.items c.loop-i.kept.items c.push.new.self.items _ _
    c.loop-i.i c.loop-i.invariant c.in_ok-push.ensures.items (c.cells.ensures ∙ same) c.in_ok-answer.ensures.carried c.in_ok-answer.ensures.true_answer

pub returns-clause-parts : goal.returns-clause-parts
returns-clause-parts c =
    let count = ap length c.parts.view_is in
    all_carried c.args.after.now.facts.now c.parts.inside.parts.items c.loop-i.kept.items c.loop-i.i (rw c.parts.view_is c.in_ok-parts.ensures) c.loop-i.invariant.count_is c.loop-i.invariant.cells
    (omega (arith, count, c.loop-i-test.false, c.loop-i.auto.i-end, c.len-i-end.ensures))

pub returns-then-knows_nothing-clause-parts : goal.returns-then-knows_nothing-clause-parts
returns-then-knows_nothing-clause-parts c =
    let facts = c.args.after.now.facts.now in
    IfOk-weaker c.start.result (Starts facts) (λ (kept : List KeptPart). AreParts facts (parts_of kept)) (λ kept starts. starts.parts) c.start.ensures

pub returns-then-knows_nothing-clause-true_answers : goal.returns-then-knows_nothing-clause-true_answers
returns-then-knows_nothing-clause-true_answers c =
    let a = c.args.after.now in
    IfOk-weaker c.start.result (Starts a.facts.now) (AreTrue a.clues.now a.givens.now a.picture.now) (λ kept starts. starts.true_answers a.clues.now a.givens.now a.picture.now) c.start.ensures

pub returns-then-knows_nothing-clause-carries : goal.returns-then-knows_nothing-clause-carries
returns-then-knows_nothing-clause-carries c =
    let b = c.args.before.now in
    let a = c.args.after.now in
    IfOk-weaker c.start.result (Starts a.facts.now) (Carries (board b.clues.now b.facts.now b.picture.now) (board a.clues.now a.facts.now a.picture.now) c.args.self.now)
    (λ kept starts. nothing_known fillings_stay same_cells_are_equal b.clues.now b.facts.now b.picture.now a.clues.now a.givens.now a.facts.now a.picture.now c.args.self.now kept c.requires.parts
    (c.if-knows_nothing.ensures.0 refl) starts) c.start.ensures
