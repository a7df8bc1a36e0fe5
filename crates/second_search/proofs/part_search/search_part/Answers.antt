use Rattle.std.proofs.Common.{refl}
use Rattle.line_facts.proofs.GridLaws.{shape_sym, shape_trans}
use Rattle.second_search.proofs.AloneLemmas.{closable_alone, lines_alone, names_lines, names_some}
use Rattle.second_search.proofs.DrawLemmas.{few_alike}
use Rattle.second_search.proofs.KeepLemmas.{quiet_outside, show_others}
use Rattle.second_search.proofs.KnownLaws.{clues_are_of_lines}
use Rattle.second_search.proofs.part_search.search_part.Goals as goal

pub search_counted-requires : goal.search_counted-requires
search_counted-requires g c =
    let s = c.args.scene.now in
    let cells = c.args.cells.now in
    let facts = c.in_ok-facts_on.field-0 in
    let keeps = c.in_ok-facts_on.ensures.outside in
    let lines = c.lines_through in
    let scene = c.requires.can.is_scene in
    let names = names_lines s.facts.now cells lines.result _ c.height.ensures.facts c.requires.part refl lines.ensures.through in
    record {
      closable = closable_alone clues_are_of_lines s.clues.now cells s.picture.now facts _ scene.has_clues keeps c.requires.can.tall c.requires.can.wide;
      lines = lines_alone cells s.picture.now s.facts.now facts lines.result scene.sound.same_shape keeps lines.ensures.lines;
      quiet = quiet_outside clues_are_of_lines s.clues.now cells s.picture.now facts lines.result scene.is_picture scene.has_clues keeps names;
      same_shape = keeps.same_shape;
      others = show_others cells s.picture.now facts lines.result scene.is_picture keeps names;
      some = names_some s.facts.now cells lines.result c.requires.part names;
    }

pub returns-clause-ends : goal.returns-clause-ends
returns-clause-ends g c = rw (← c.in_ok-facts_on.ensures.alone) c.search_counted.ensures.ends

pub returns-clause-few : goal.returns-clause-few
returns-clause-few g c =
    let s = c.args.scene.now in
    let shape = shape_trans (shape_sym c.requires.can.is_scene.sound.same_shape) c.in_ok-facts_on.ensures.outside.same_shape in
    few_alike c.args.allowance s.facts.now c.in_ok-facts_on.field-0 1 _ shape c.search_counted.ensures.few
