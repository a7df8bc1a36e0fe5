-- Fitting a line, by the tables over the pattern of its clue.
use Rattle.std.proofs.Common.{◌≡◌, ℕ, zero, suc, ◌+◌, ◌<◌, true, List, [], ◌∷◌, refl, subst, arith, length, get_or, eq-eqb}
use Rattle.std.specs.Prelude.{IsBitSet}
use Rattle.std.proofs.lemmas.Bool.{eqb-true}
use Rattle.std.proofs.lemmas.Nat.{bit_set_by_shift}
use Rattle.clues.specs.declared.block.Block.{Block}
use Rattle.clues.specs.Clue.{IsClue}
use Rattle.line_facts.specs.Fits.{Fits, CanFit, CanHave}
use Rattle.line_settle.specs.Patterns.{pattern_of, allows, finishes, reaches}
use Rattle.line_settle.proofs.PatternLemmas.{clue_is_spelled, spells_clue, spells_length}
use Rattle.line_settle.proofs.StateLemmas.{SpellsAt}
use Rattle.line_settle.proofs.TableLemmas.{Keeps, Shown, shown_spelled, spelled_shown, finishes_from, ending_of}

pub allows_bit : (mask k : ℕ) → allows mask k ≡ true → IsBitSet mask k
allows_bit mask k h = (bit_set_by_shift mask k).0 (eqb-true _ _ h)

pub bit_allows : (mask k : ℕ) → IsBitSet mask k → allows mask k ≡ true
bit_allows mask k h = eq-eqb _ _ ((bit_set_by_shift mask k).1 h)

keeps_length : (masks line : List ℕ) → Keeps masks line → length line ≡ length masks
keeps_length [] [] k = refl
keeps_length [] (x ∷ line) k = absurd k
keeps_length (m ∷ masks) [] k = absurd k
keeps_length (m ∷ masks) (x ∷ line) k = let e = keeps_length masks line k.1 in omega arith

keeps_each : (masks line : List ℕ) → Keeps masks line → (i : ℕ) → i < length masks → IsBitSet (get_or masks i 0) (get_or line i 0)
keeps_each [] line k i h = absurd (omega arith)
keeps_each (m ∷ masks) [] k i h = absurd k
keeps_each (m ∷ masks) (x ∷ line) k zero h = allows_bit m x k.0
keeps_each (m ∷ masks) (x ∷ line) k (suc i) h = keeps_each masks line k.1 i (omega arith)

keeps_from : (masks line : List ℕ) → length line ≡ length masks → ((i : ℕ) → i < length masks → IsBitSet (get_or masks i 0) (get_or line i 0)) → Keeps masks line
keeps_from [] [] e h = tt
keeps_from [] (x ∷ line) e h = absurd (omega arith)
keeps_from (m ∷ masks) [] e h = absurd (omega arith)
keeps_from (m ∷ masks) (x ∷ line) e h =
    (bit_allows m x (h 0 (omega arith)), keeps_from masks line (omega arith) (λ i l. h (suc i) (omega arith)))

pub fits_from : (clue : List Block) (left line : List ℕ) → IsClue clue → Keeps left line → SpellsAt (pattern_of clue) 0 line → Fits clue left line
fits_from clue left line b k s = record {
  same_length = keeps_length left line k;
  has_clue = clue_is_spelled clue line b s;
  keeps = keeps_each left line k;
}

pub fits_keeps : {clue : List Block} {left line : List ℕ} → Fits clue left line → Keeps left line
fits_keeps {clue = clue} {left = left} {line = line} f = keeps_from left line f.same_length f.keeps

pub fits_spells : (clue : List Block) {left : List ℕ} (line : List ℕ) → IsClue clue → Fits clue left line → SpellsAt (pattern_of clue) 0 line
fits_spells clue line b f = spells_clue clue line b f.has_clue

-- some list fits exactly where the first state finishes
pub fit_finishes : (clue : List Block) (left : List ℕ) → IsClue clue → CanFit clue left → finishes (pattern_of clue) left 0 ≡ true
fit_finishes clue left b c = finishes_from (pattern_of clue) left c.0 0 (omega arith) (fits_keeps c.1) (fits_spells clue c.0 b c.1)

pub finishes_fit : (clue : List Block) (left : List ℕ) → IsClue clue → finishes (pattern_of clue) left 0 ≡ true → CanFit clue left
finishes_fit clue left b h =
    let e = ending_of (pattern_of clue) left 0 (omega arith) h in
    (e.line, fits_from clue left e.line b e.keeps e.spells)

-- a colour is in a cell of some list that fits exactly where the tables show it
pub have_shown : (clue : List Block) (left : List ℕ) (i k : ℕ) → IsClue clue → CanHave clue left i k → Shown (pattern_of clue) left i k
have_shown clue left i k b c = spelled_shown (pattern_of clue) left i k (record {
  state = 0;
  within = omega arith;
  starts = refl;
  line = c.line;
  keeps = fits_keeps c.fits;
  spells = fits_spells clue c.line b c.fits;
  inside = c.within;
  has = c.has;
})

starts_at_first : (pattern masks : List ℕ) (q : ℕ) → reaches pattern masks 0 q ≡ true → q ≡ 0
starts_at_first pattern masks q h = eqb-true _ _ h

pub shown_have : (clue : List Block) (left : List ℕ) (i k : ℕ) → IsClue clue → i < length left → Shown (pattern_of clue) left i k → CanHave clue left i k
shown_have clue left i k b h p =
    let t = shown_spelled (pattern_of clue) left i k h p in
    let P : ℕ → Type 0 = λ q. SpellsAt (pattern_of clue) q t.line in
    record {
      line = t.line;
      fits = fits_from clue left t.line b t.keeps (subst P (starts_at_first (pattern_of clue) left t.state t.starts) t.spells);
      within = h;
      has = t.has;
    }

-- a pattern longer than the line and its first cell leaves no list that fits
pub too_long : (clue : List Block) (left : List ℕ) → IsClue clue → length left + 1 < length (pattern_of clue) → ¬ CanFit clue left
too_long clue left b h c =
    let l = spells_length 0 _ c.0 (fits_spells clue c.0 b c.1) in
    omega arith

pub have_fits : {clue : List Block} {left : List ℕ} {i k : ℕ} → CanHave clue left i k → CanFit clue left
have_fits c = (c.line, c.fits)
