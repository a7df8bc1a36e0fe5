-- Laws of lists that fit, of what a line forces, and of counts.
use Rattle.std.proofs.Common.{◌≡◌, ℕ, ◌+◌, List, [], ◌↔◌, refl, sym, ap, subst, ◌∙◌, arith, length, get_or}
use Rattle.std.specs.Prelude.{IsBitSet}
use Rattle.std.proofs.lemmas.List.{ext_get_or}
use Rattle.line_facts.specs.Masks.{Masks}
use Rattle.picture.specs.declared.line_id.LineId.{LineId}
use Rattle.picture.specs.Rows.{row_at, line_of}
use Rattle.clues.specs.declared.block.Block.{Block}
use Rattle.line_facts.specs.declared.line_engine.Outcome.{Outcome}
use Rattle.line_facts.specs.declared.line_engine.Outcome.TheVariants.{Narrowed, Dead}
use Rattle.line_facts.specs.Counts.{counted}
use Rattle.line_facts.specs.Fits.{Fits, CanFit, CanHave, IsTighter}
use Rattle.line_facts.specs.FactSets.{IsWithin, SameShape, Leaves, row_on, col_on}
use Rattle.line_facts.specs.NarrowedLine.{Narrows}
use Rattle.line_facts.specs.Laws.{CountsAdd, OneLineDecides}
use Rattle.picture.proofs.BitLaws.{same_bits}
use Rattle.line_facts.proofs.GridLaws.{cell_on, same_list, same_line_length}

pub tighter_fits : (clue : List Block) (left fewer line : List ℕ) → IsTighter left fewer → Fits clue fewer line → Fits clue left line
tighter_fits clue left fewer line t f = record {
  same_length = f.same_length ∙ t.same_length;
  has_clue = f.has_clue;
  keeps = λ i l. t.leaves i (get_or line i 0) (f.keeps i (let n = t.same_length in omega arith));
}

pub tighter_have : (clue : List Block) (left fewer : List ℕ) → IsTighter left fewer → (i k : ℕ) → CanHave clue fewer i k → CanHave clue left i k
tighter_have clue left fewer t i k h = record {
  line = h.line;
  fits = tighter_fits clue left fewer h.line t h.fits;
  within = (let n = t.same_length in let w = h.within in omega arith);
  has = h.has;
}

pub tighter_can_fit : (clue : List Block) (left fewer : List ℕ) → IsTighter left fewer → CanFit clue fewer → CanFit clue left
tighter_can_fit clue left fewer t f = (f.0, tighter_fits clue left fewer f.0 t f.1)

pub within_tighter : (few many : Masks) → IsWithin few many → (line : LineId) → IsTighter (line_of few line) (line_of many line)
within_tighter few many w line = record {
  same_length = same_line_length few many line w.same_shape;
  leaves = λ i k s.
      let P : ℕ → Type 0 = λ m. IsBitSet m k in
      subst P (sym (cell_on few line i)) (w.leaves (row_on line.axis line.at i) (col_on line.axis line.at i) k (subst P (cell_on many line i) s));
}

pub have_left : {clue : List Block} {left : List ℕ} {i k : ℕ} → CanHave clue left i k → IsBitSet (get_or left i 0) k
have_left {left = left} {i = i} h = let P : ℕ → Type 0 = λ c. IsBitSet (get_or left i 0) c in subst P h.has (h.fits.keeps i h.within)

pub narrowed_tighter : (clue : List Block) (left out : List ℕ) (outcome : Outcome) → Narrows clue left outcome out → IsTighter left out
narrowed_tighter clue left out outcome n = record { same_length = n.same_length; leaves = λ i k s. have_left ((n.exact i k).0 s) }

-- a list that fits still fits after narrowing
pub fits_narrowed : (clue : List Block) (left line out : List ℕ) (outcome : Outcome) → Fits clue left line → Narrows clue left outcome out → Fits clue out line
fits_narrowed clue left line out outcome f n = record {
  same_length = f.same_length ∙ sym n.same_length;
  has_clue = f.has_clue;
  keeps = λ i l. (n.exact i (get_or line i 0)).1 (record { line = line; fits = f; within = (let e = n.same_length in omega arith); has = refl });
}

pub have_narrowed : (clue : List Block) (left out : List ℕ) (outcome : Outcome) → Narrows clue left outcome out → (i k : ℕ) → CanHave clue left i k → CanHave clue out i k
have_narrowed clue left out outcome n i k h = record {
  line = h.line;
  fits = fits_narrowed clue left h.line out outcome h.fits n;
  within = (let e = n.same_length in let w = h.within in omega arith);
  has = h.has;
}

pub same_outcome : (a b : Outcome) → (a ≡ Narrowed → b ≡ Narrowed) → (b ≡ Narrowed → a ≡ Narrowed) → a ≡ b
same_outcome Narrowed b h g = sym (h refl)
same_outcome Dead Narrowed h g = g refl
same_outcome Dead Dead h g = refl

pub same_masks : (a b : List ℕ) → length a ≡ length b → ((i k : ℕ) → IsBitSet (get_or a i 0) k ↔ IsBitSet (get_or b i 0) k) → a ≡ b
same_masks a b e h = same_list a b e (λ i _. same_bits (get_or a i 0) (get_or b i 0) (h i))

pub one_line : OneLineDecides
one_line clue left out other first second n m = (
  same_masks out other (n.same_length ∙ sym m.same_length) (λ i k. ((λ s. (m.exact i k).1 ((n.exact i k).0 s)), (λ s. (n.exact i k).1 ((m.exact i k).0 s)))),
  same_outcome first second (λ e. m.fits.1 (n.fits.0 e)) (λ e. n.fits.1 (m.fits.0 e)),
)

pub same_facts : (a b : List (List ℕ)) → SameShape a b → ((r c k : ℕ) → Leaves a r c k ↔ Leaves b r c k) → a ≡ b
same_facts a b s h = ext_get_or [] a b s.rows (λ r _. same_masks (row_at a r) (row_at b r) (s.each r) (λ c k. h r c k))

pub within_both : (a b : List (List ℕ)) → IsWithin a b → IsWithin b a → a ≡ b
within_both a b h g = same_facts a b h.same_shape (λ r c k. (g.leaves r c k, h.leaves r c k))

counted_twice : (n a b : ℕ) → counted (counted n a) b ≡ counted n (a + b)
counted_twice n a b = omega arith

pub counting_adds : CountsAdd
counting_adds e t f u start between end p q r a b = record {
  evaluations = b.evaluations ∙ (ap (λ n. counted n f) a.evaluations ∙ counted_twice start.evaluations e f);
  trials = b.trials ∙ (ap (λ n. counted n u) a.trials ∙ counted_twice start.trials t u);
  calls = b.calls ∙ (ap (λ n. counted n (f + u)) a.calls ∙ (counted_twice p (e + t) (f + u) ∙ ap (counted p) (let s : e + t + (f + u) ≡ e + f + (t + u) = omega arith in s)));
}
