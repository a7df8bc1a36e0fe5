use Rattle.std.proofs.Common.{◌≡◌, ◌∙◌, ◌++◌, ◌∷◌, [], ap, sym, length, rules}
use Rattle.picture.specs.Rows.{width_of}
use Rattle.trail.specs.declared.note.Note.TheVariants.{Branch}
use Rattle.trail.specs.declared.note.Wait.TheVariants.{Each}
use Rattle.trail.proofs.NoteLemmas.{skips}
use Rattle.trail.proofs.trail.put_back.Goals as goal

pub loop-note-preserved : goal.loop-note-preserved
loop-note-preserved c =
    let i = c.loop-note.invariant in
    let facts = c.loop-note.facts in
    let last : c.loop-note.notes.items ≡ c.pop.new.self.items ++ Branch (Each c.in-Branch-Each.cell) ∷ [] = search rules in
    let same = skips facts (length facts) (width_of facts) c.loop-note.notes.items c.pop.new.self.items c.in-Branch-Each.cell last c.if-cell-ne0.false in
    record { waits = sym same.0 ∙ i.waits; cells = sym same.1.0 ∙ i.cells; same_shape = i.same_shape; inside = same.1.1 i.inside }
