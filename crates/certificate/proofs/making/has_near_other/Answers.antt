use Rattle.std.proofs.Common.{◌≡◌, ◌∙◌, ap, arith, length, sym}
use Rattle.picture.specs.declared.line_id.Axis.TheVariants.{Across, Down}
use Rattle.picture.specs.Rows.{width_of}
use Rattle.clues.specs.ClueBook.{Clues}
use Rattle.certificate.proofs.MadeLemmas.{near_other}
use Rattle.second_search.proofs.KnownLaws.{clues_are_of_lines}
use Rattle.certificate.proofs.making.has_near_other.Goals as goal

pub find_near_other-requires-clause-tall : goal.find_near_other-requires-clause-tall
find_near_other-requires-clause-tall g c =
    let s = c.args.scene.now in
    let rows : length s.clues.now.rows ≡ length s.picture.now = ap (λ (k : Clues). length k.rows) c.requires.can.clues_are ∙ clues_are_of_lines.sizes s.picture.now Across in
    omega arith

pub find_near_other-requires-clause-wide : goal.find_near_other-requires-clause-wide
find_near_other-requires-clause-wide g c =
    let s = c.args.scene.now in
    let columns : length s.clues.now.columns ≡ width_of s.picture.now = ap (λ (k : Clues). length k.columns) c.requires.can.clues_are ∙ clues_are_of_lines.sizes s.picture.now Down in
    omega arith

pub returns-clause-other : goal.returns-clause-other
returns-clause-other g c =
    let s = c.args.scene.now in
    λ yes. near_other s.picture.now s.givens.now s.clues.now c.in_ok-near.near c.requires.can.clues_are c.in_ok-near.ensures.other (sym c.is_some-2.ensures ∙ yes)
