use Rattle.std.proofs.Common.{Some, arith}
use Rattle.line_facts.proofs.GridLaws.{shape_sym, shape_trans}
use Rattle.second_search.proofs.AloneLemmas.{closable_alone, lines_alone}
use Rattle.second_search.proofs.KeepLemmas.{quiet_outside, show_others}
use Rattle.second_search.proofs.WithinLemmas.{found_inside, opened_outside}
use Rattle.second_search.proofs.KnownLaws.{books_are_their_clues, closing_keeps_fillings, clues_are_of_lines, fillings_are_of_facts, only_is_closed}
use Rattle.second_search.proofs.near.find_inside.Goals as goal

pub open_in-requires : goal.open_in-requires
open_in-requires g c =
    let s = c.args.scene.now in
    rw c.requires.home (shape_trans (shape_sym (only_is_closed.same_shape s.picture.now)) c.requires.can.is_scene.sound.same_shape)

pub search_counted-requires : goal.search_counted-requires
search_counted-requires g c =
    let s = c.args.scene.now in
    let facts = c.in_ok-open_in.field-0 in
    let window = c.args.window.now in
    let keeps = opened_outside only_is_closed window.cells s.picture.now s.facts.now facts (rw c.requires.home at c.in_ok-open_in.ensures) in
    record {
      closable = closable_alone clues_are_of_lines s.clues.now window.cells s.picture.now facts _ c.requires.can.is_scene.has_clues keeps c.requires.can.tall c.requires.can.wide;
      lines = lines_alone window.cells s.picture.now s.facts.now facts window.lines c.requires.can.is_scene.sound.same_shape keeps c.requires.window.lines;
      quiet = quiet_outside clues_are_of_lines s.clues.now window.cells s.picture.now facts window.lines c.requires.can.is_scene.is_picture c.requires.can.is_scene.has_clues keeps
          c.requires.window.through;
      same_shape = keeps.same_shape;
      others = show_others window.cells s.picture.now facts window.lines c.requires.can.is_scene.is_picture keeps c.requires.window.through;
      some = omega arith;
    }

pub returns-in-Found-clause-other : goal.returns-in-Found-clause-other
returns-in-Found-clause-other g c =
    let s = c.args.scene.now in
    let facts = c.in_ok-open_in.field-0 in
    let window = c.args.window.now in
    found_inside clues_are_of_lines books_are_their_clues closing_keeps_fillings only_is_closed fillings_are_of_facts s.clues.now s.givens.now s.facts.now s.picture.now c.requires.can.is_scene
    window.cells facts (rw c.requires.home at c.in_ok-open_in.ensures)
    (Some window.splits) _ _ c.in-Found.picture c.in-Found.is c.args.cells.now c.requires.window.among c.in_ok-searched.ensures.ends
