use Rattle.std.proofs.Common.{◌≤◌, arith, refl}
use Rattle.second_search.specs.JudgedParts.{Judges}
use Rattle.second_search.specs.Parts.{board}
use Rattle.second_search.proofs.KnownLaws.{books_are_their_clues, closing_keeps_fillings, clues_are_of_lines, fillings_are_of_facts, only_is_closed, parts_decide}
use Rattle.second_search.proofs.TruthLemmas.{answer_true}
use Rattle.second_search.proofs.VerdictLemmas.{done_added, spent_added}
use Rattle.second_search.proofs.keeper.Keeper.judge.Goals as goal

pub returns : goal.returns
returns g c =
    let s = c.args.scene.now in
    let d = c.in-Ok.ensures in
    let all = c.decide.ensures in
    let v = d.judges.0 in
    let told = d.judges.1.0 in
    let new = c.decide.new.self in
    let answers = c.judged.ensures v told in
    let rises : (c.args.searched.now ≤ c.saturating_add.result) × (c.args.splits.now ≤ c.saturating_add-2.result) = (omega arith, omega arith) in
    let done = done_added c.args.searched.now _ c.args.splits.now _ c.in-Ok.decided.1 c.args.meter.now _ _ _
    (Judges (board s.clues.now s.facts.now s.picture.now) c.args.allowance c.args.self.now new v) d.judges.1.1 (omega arith) (omega arith) (omega arith) (omega arith) in (
      (refl, λ b. tt, (all.parts, all.true_answers, (v, (answers, done)))),
      record {
        keeps = tt;
        answer = answer_true clues_are_of_lines books_are_their_clues closing_keeps_fillings only_is_closed fillings_are_of_facts parts_decide s.clues.now s.givens.now s.facts.now s.picture.now
            c.requires.scene c.args.allowance c.args.self.now new _ v done.searched done.splits c.requires.parts c.requires.true_answers done.is answers;
        counts = (c.in-Ok.decided.1.evaluations, spent_added c.in-Ok.decided.1 c.args.meter.now _ _ _ _ d.judges.1.1 (omega arith) (omega arith), d.spent);
        rises = rises;
        as_before = tt;
        same_longest = all.same_longest;
      },
    )
