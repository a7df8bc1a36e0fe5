use Rattle.std.proofs.Common.{arith, refl, rules, subst, sym}
use Rattle.second_search.specs.JudgedParts.{Judges, Stops}
use Rattle.second_search.specs.Parts.{AreParts, board}
use Rattle.second_search.specs.Verdict.{Other}
use Rattle.second_search.proofs.VerdictLemmas.{done_as, done_none, each_is_part, judges_as, keeps_other, one_kept, same_kept, stops_place, told_by, verdict_of}
use Rattle.second_search.proofs.TruthLemmas.{judged_true}
use Rattle.second_search.proofs.KnownLaws.{books_are_their_clues, closing_keeps_fillings, clues_are_of_lines, fillings_are_of_facts, only_is_closed, parts_decide}
use Rattle.second_search.proofs.keeper.Keeper.decide.Goals as goal

pub search_parts-requires-clause-parts : goal.search_parts-requires-clause-parts
search_parts-requires-clause-parts g c = each_is_part c.args.scene.now.facts.now c.args.self.now c.requires.parts

pub returns-in-Some-clause-judges : goal.returns-in-Some-clause-judges
returns-in-Some-clause-judges g c =
    let s = c.args.scene.now in
    let f = c.in-Some.ensures in
    (Other, ((refl, one_kept c.args.self.now _ f), done_none _ _ (omega arith) (keeps_other s.clues.now s.facts.now s.picture.now c.args.allowance c.args.self.now _ f)))

pub note-is_decided-requires : goal.note-is_decided-requires
note-is_decided-requires g c =
    let s = c.args.scene.now in
    let d = c.in_ok-at-in-None.ensures.stops in
    stops_place s.clues.now s.facts.now s.picture.now c.args.allowance c.args.self.now _ _ d.searched d.splits d.is

pub returns-in_ok-at-in-None : goal.returns-in_ok-at-in-None
returns-in_ok-at-in-None g c =
    let s = c.args.scene.now in
    let old = c.args.self.now in
    let new = c.note-is_decided.new.self in
    let at = c.in_ok-at-in-None in
    let d = at.ensures.stops in
    let noted = c.note-is_decided.ensures in
    let is_decided = c.note-is_decided.result in
    let verdict = verdict_of at.ending in
    let turn = judges_as s.clues.now s.facts.now s.picture.now c.args.allowance old new at.at at.ending is_decided in
    let j = turn d.searched d.splits c.in-None.ensures d.is noted in
    let place = stops_place s.clues.now s.facts.now s.picture.now c.args.allowance old at.at at.ending d.searched d.splits d.is in
    let done = done_as _ _ _ (Stops (board s.clues.now s.facts.now s.picture.now) c.args.allowance old at.at at.ending)
    (Judges (board s.clues.now s.facts.now s.picture.now) c.args.allowance old new verdict) d
    (λ m n h. turn m n c.in-None.ensures h noted) in
    record {
      judges = (verdict, (told_by old new at.at at.ending is_decided c.in-None.ensures place noted, done));
      spent = at.ensures.spent;
      few = c.search_parts.ensures.few;
      refused = search rules;
      parts = subst (AreParts s.facts.now) (sym (same_kept s.clues.now s.facts.now s.picture.now c.args.allowance old new verdict d.searched d.splits j)) c.requires.parts;
      true_answers = judged_true clues_are_of_lines books_are_their_clues closing_keeps_fillings only_is_closed fillings_are_of_facts parts_decide s.clues.now s.givens.now s.facts.now s.picture.now
          c.requires.can.is_scene c.args.allowance old new verdict d.searched d.splits c.requires.true_answers j;
      calls = search rules;
      same_longest = search rules;
    }
