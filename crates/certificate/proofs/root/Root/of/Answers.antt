use Rattle.std.proofs.Common.{subst, sym}
use Rattle.clues.specs.ClueBook.{Clues}
use Rattle.second_search.specs.Parts.{IsScene}
use Rattle.certificate.proofs.root.Root.of.Goals as goal

pub returns : goal.returns
returns c = record {
  clues = c.in_ok-clues.ensures;
  is_scene = subst (λ (k : Clues). IsScene k c.args.givens.now c.in_ok-facts.facts c.args.picture.now) (sym c.in_ok-clues.ensures) c.in_ok-facts.ensures.scene;
  names = c.in_ok-cells.ensures.named;
  base = rw c.deref.ensures.value at c.in_ok-facts.ensures.root;
}
