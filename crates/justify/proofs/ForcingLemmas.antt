-- Lists that fit the masks of a line, and lists that avoid what is said to be excluded.
use Rattle.std.proofs.Common.{◌≡◌, ℕ, ◌<◌, List, length, sym, ◌∙◌, arith, get_or}
use Rattle.std.specs.Prelude.{IsBitSet}
use Rattle.std.proofs.lemmas.List.{get_or_past}
use Rattle.clues.specs.declared.block.Block.{Block}
use Rattle.line_facts.specs.Fits.{Fits, CanHave}
use Rattle.justify.specs.Exclusions.{FitsWithout, CanHaveWithout}

module _ (clue : List Block) (left : List ℕ) (cells : ℕ) (said : ℕ → ℕ → Type 0) (len : length left ≡ cells) where
  -- the masks leave nothing that is said
  pub fits_without : ((i k : ℕ) → i < cells → IsBitSet (get_or left i 0) k → (k < 16) × (said i k → ⊥)) → (line : List ℕ) → Fits clue left line → FitsWithout clue cells said line
  fits_without h line f = grind (arith, get_or, get_or_past, length)

  pub have_without : ((i k : ℕ) → i < cells → IsBitSet (get_or left i 0) k → (k < 16) × (said i k → ⊥)) → (i k : ℕ) → CanHave clue left i k → CanHaveWithout clue cells said i k
  have_without h i k c = record {
    line = c.line;
    fits = fits_without h c.line c.fits;
    within = (let w = c.within in omega arith);
    has = c.has;
  }

  -- the masks leave all that is not said
  pub without_fits : ((i k : ℕ) → i < cells → k < 16 → (said i k → ⊥) → IsBitSet (get_or left i 0) k) → (line : List ℕ) → FitsWithout clue cells said line → Fits clue left line
  without_fits h line f = record {
    same_length = f.same_length ∙ sym len;
    has_clue = f.has_clue;
    keeps = λ i l. (let m : i < cells = omega arith in h i (get_or line i 0) m (f.colours i) (f.avoids i m));
  }

  pub without_have : ((i k : ℕ) → i < cells → k < 16 → (said i k → ⊥) → IsBitSet (get_or left i 0) k) → (i k : ℕ) → CanHaveWithout clue cells said i k → CanHave clue left i k
  without_have h i k c = record {
    line = c.line;
    fits = without_fits h c.line c.fits;
    within = (let w = c.within in omega arith);
    has = c.has;
  }
