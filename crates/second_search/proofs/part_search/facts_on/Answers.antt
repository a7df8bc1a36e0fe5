use Rattle.std.proofs.Common.{◌≡◌, arith, length, refl}
use Rattle.second_search.proofs.AloneLemmas.{alone_is, keeps_outside, leaves_more, leaves_none}
use Rattle.second_search.proofs.KnownLaws.{only_is_closed}
use Rattle.second_search.proofs.part_search.facts_on.Goals as goal

pub loop-row-init : goal.loop-row-init
loop-row-init c = leaves_none c.args.cells.now c.args.scene.now.picture.now c.args.scene.now.facts.now c.in_ok-facts.facts c.in_ok-facts.ensures

pub loop-row-preserved : goal.loop-row-preserved
loop-row-preserved c = leaves_more c.args.cells.now c.args.scene.now.picture.now c.args.scene.now.facts.now c.loop-row.facts c.leave_row_alone.new.facts c.loop-row.row _ refl c.loop-row.invariant
    c.leave_row_alone.ensures

pub returns : goal.returns
returns c =
    let s = c.args.scene.now in
    let i = c.loop-row.invariant in
    let full : c.loop-row.row ≡ length s.facts.now = omega (arith, c.height-row-end.ensures.value) in
    record {
      alone = alone_is only_is_closed c.args.cells.now s.picture.now s.facts.now c.loop-row.facts c.loop-row.row c.requires.is_picture c.requires.sound.same_shape full i;
      outside = keeps_outside c.args.cells.now s.picture.now s.facts.now c.loop-row.facts c.loop-row.row c.height-row-end.ensures.facts c.requires.sound.same_shape full i;
    }
