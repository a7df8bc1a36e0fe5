-- Lines whose cells show a colour, and lines without blocks.
use Rattle.std.proofs.Common.{◌≡◌, ◌≢◌, ℕ, zero, suc, ◌+◌, ◌^◌, ◌<◌, ◌≤◌, ◌++◌, ◌↔◌, List, [], ◌∷◌, length, get_or, drop, drop-cons, replicate, refl, sym, ap, subst, ◌∙◌, arith, add-one, inl, inr}
use Rattle.std.proofs.Common.{true, bit_and}
use Rattle.std.specs.Prelude.{IsBitSet, IsTrue, Option, Some, None, MatchOption, is_some}
use Rattle.std.specs.List.{All}
use Rattle.std.proofs.Math.ListN.{get_or-eq_default}
use Rattle.std.proofs.lemmas.Bool.{cases_eq, cases_lt}
use Rattle.std.proofs.lemmas.Nat.{pow_pos}
use Rattle.std.proofs.lemmas.List.{length-map, length-replicate, get_or-map, get_or-replicate, drop_all}
use Rattle.std.proofs.lemmas.List.Elements.{All-get_or, All-from_get_or}
use Rattle.std.proofs.lemmas.Grind.{same_number_lists}
use Rattle.clues.specs.declared.block.Block.{Block}
use Rattle.clues.specs.Clue.{clue_of, blocks_of}
use Rattle.line_facts.specs.declared.line_engine.Outcome.TheVariants.{Narrowed, Dead}
use Rattle.line_facts.specs.Fits.{Fits, CanHave}
use Rattle.line_facts.specs.NarrowedLine.{Narrows}
use Rattle.line_settle.specs.Patterns.{allows}
use Rattle.line_facts.specs.Masks.{IsOnly}
use Rattle.line_settle.specs.Shown.{lowest_colour, IsShown, AreShown, lowest_colours}
use Rattle.clues.proofs.RunLaws.{clue_of-run, clue_of-last_run, replicate-more}
use Rattle.picture.proofs.BitLaws.{no_bit, power_has, bit_below}
use Rattle.line_facts.proofs.MaskLaws.{only_is_power, lowest_of_power}
use Rattle.line_settle.proofs.FittingLemmas.{allows_bit, bit_allows}
use Rattle.line_settle.proofs.NarrowLemmas.{zeros, narrows_dead}
use Rattle.line_settle.proofs.ClueLemmas.{no_block}
use Rattle.line_settle.proofs.StateSetLemmas.{allowed_both, both_allowed}

-- a mask's only colour is its lowest
only_shown : (mask k : ℕ) → mask < 2 ^ 16 → IsOnly mask k → IsShown mask
only_shown mask k h o =
    let e : mask ≡ 2 ^ k = only_is_power mask k o in
    let b : k < 16 = bit_below mask 16 k h ((o k).1 refl) in
    let p : 0 < 2 ^ k = pow_pos k in
    let l : lowest_colour mask ≡ k = ap lowest_colour e ∙ lowest_of_power k b p (subst (λ m. m < 2 ^ 16) e h) in
    subst (IsOnly mask) (sym l) o

pub one_colour : (mask : ℕ) (found : Option ℕ) → mask < 2 ^ 16 → MatchOption found ((k : ℕ) → IsOnly mask k → ⊥) (λ k. IsOnly mask k) → IsTrue (is_some found) ↔ IsShown mask
one_colour mask (Some k) h o = ((λ _. only_shown mask k h o), (λ _. refl))
one_colour mask None h o = ((λ e. absurd (let z : ⊥ = cc in z)), (λ s. absurd (o (lowest_colour mask) s)))

-- ---- the walk over such a line

-- the colours from cell i on
colours_on : (left : List ℕ) (i : ℕ) → i < length left → lowest_colours (drop i left) ≡ lowest_colour (get_or left i 0) ∷ lowest_colours (drop (i + 1) left)
colours_on left i h = rw add-one (ap lowest_colours (drop-cons left i 0 h))

-- the open run, one cell longer
pub run_longer : (n x : ℕ) (left : List ℕ) (i : ℕ) → i < length left → lowest_colour (get_or left i 0) ≡ x
    → replicate (n + 1) x ++ lowest_colours (drop (i + 1) left) ≡ replicate n x ++ lowest_colours (drop i left)
run_longer n x left i h e =
    replicate-more n x (lowest_colours (drop (i + 1) left))
    ∙ ap (λ cells. replicate n x ++ cells) (ap (λ y. y ∷ lowest_colours (drop (i + 1) left)) (sym e) ∙ sym (colours_on left i h))

-- the open run, where another colour ends it
pub run_ends : (n x : ℕ) (left : List ℕ) (i : ℕ) → (x ≢ 0 → 0 < n) → i < length left → lowest_colour (get_or left i 0) ≢ x
    → clue_of (replicate n x ++ lowest_colours (drop i left)) ≡ blocks_of n x ++ clue_of (lowest_colours (drop i left))
run_ends n x left i some h n0 = rw colours_on (clue_of-run n x (lowest_colour (get_or left i 0)) (lowest_colours (drop (i + 1) left)) some n0)

-- the run that begins there
pub run_begins : (left : List ℕ) (i : ℕ) → i < length left → replicate 1 (lowest_colour (get_or left i 0)) ++ lowest_colours (drop (i + 1) left) ≡ lowest_colours (drop i left)
run_begins left i h = sym (colours_on left i h)

-- no cell is to come
pub colours_past : (left : List ℕ) (i : ℕ) → length left ≤ i → lowest_colours (drop i left) ≡ []
colours_past left i h = ap lowest_colours (drop_all i left h)

pub ruleset walking = (run_longer, run_ends, run_begins, colours_past, clue_of-last_run)

-- ---- what narrowing such a line promises

shown_at : (left : List ℕ) (i : ℕ) → AreShown left → i < length left → IsShown (get_or left i 0)
shown_at left i s h = All-get_or IsShown left i 0 h s

colour_at : (left : List ℕ) (i : ℕ) → i < length left → get_or (lowest_colours left) i 0 ≡ lowest_colour (get_or left i 0)
colour_at left i h = get_or-map lowest_colour left i 0 0 h

-- the colours that the cells show fit where they have the clue, and no other list does
colours_fit : (clue : List Block) (left : List ℕ) → AreShown left → clue_of (lowest_colours left) ≡ clue → Fits clue left (lowest_colours left)
colours_fit clue left s e = record {
  same_length = length-map left lowest_colour;
  has_clue = e;
  keeps = λ i h. (shown_at left i s h (get_or (lowest_colours left) i 0)).1 (colour_at left i h);
}

only_colours_fit : (clue : List Block) (left line : List ℕ) → AreShown left → Fits clue left line → line ≡ lowest_colours left
only_colours_fit clue left line s f =
    same_number_lists line (lowest_colours left) (f.same_length ∙ sym (length-map left lowest_colour))
    (λ i h.
    let l : i < length left = let e = f.same_length in omega arith in
    (shown_at left i s l (get_or line i 0)).0 (f.keeps i l) ∙ sym (colour_at left i l))

-- a colour is left only in a cell of the line
within : (left : List ℕ) (i k : ℕ) → IsBitSet (get_or left i 0) k → i < length left
within left i k s = elim (cases_lt i (length left)) [
  | inl l ↦ l
  | inr g ↦ absurd (no_bit k (let P : ℕ → Type 0 = λ m. IsBitSet m k in subst P (get_or-eq_default left 0 g) s))
]

shown_lines_have : (clue : List Block) (left : List ℕ) (i k : ℕ) → AreShown left → clue_of (lowest_colours left) ≡ clue → IsBitSet (get_or left i 0) k → CanHave clue left i k
shown_lines_have clue left i k s e b =
    let h = within left i k b in
    record {
      line = lowest_colours left;
      fits = colours_fit clue left s e;
      within = h;
      has = colour_at left i h ∙ sym ((shown_at left i s h k).0 b);
    }

have_left : (clue : List Block) (left : List ℕ) (i k : ℕ) → CanHave clue left i k → IsBitSet (get_or left i 0) k
have_left clue left i k h = let P : ℕ → Type 0 = λ x. IsBitSet (get_or left i 0) x in subst P h.has (h.fits.keeps i h.within)

pub shown_stays : (clue : List Block) (left : List ℕ) → AreShown left → clue_of (lowest_colours left) ≡ clue → Narrows clue left Narrowed left
shown_stays clue left s e = record {
  same_length = refl;
  fits = ((λ _. (lowest_colours left, colours_fit clue left s e)), (λ _. refl));
  exact = λ i k. (shown_lines_have clue left i k s e, have_left clue left i k);
  empty = λ e. absurd (let z : ⊥ = cc in z);
}

pub narrows_another : (clue : List Block) (left : List ℕ) → AreShown left → clue_of (lowest_colours left) ≢ clue → Narrows clue left Dead (replicate (length left) 0)
narrows_another clue left s n = narrows_dead clue left (λ h. n (ap clue_of (sym (only_colours_fit clue left h.0 s h.1)) ∙ h.1.has_clue))

-- ---- what narrowing a line without blocks promises

no_blocks : (n : ℕ) → clue_of (replicate n 0) ≡ []
no_blocks zero = refl
no_blocks (suc n) = no_blocks n

only_background : (line : List ℕ) (i : ℕ) → clue_of line ≡ [] → get_or line i 0 ≡ 0
only_background [] i e = refl
only_background (zero ∷ rest) zero e = refl
only_background (zero ∷ rest) (suc i) e = only_background rest i e
only_background (suc x ∷ rest) i e = absurd (no_block (suc x) rest (λ z. absurd (omega arith)) e)

background_fits : (left : List ℕ) → All (λ mask. IsTrue (allows mask 0)) left → Fits [] left (replicate (length left) 0)
background_fits left b = record {
  same_length = length-replicate (length left) 0;
  has_clue = no_blocks (length left);
  keeps = λ i h. let P : ℕ → Type 0 = λ k. IsBitSet (get_or left i 0) k in subst P (sym (zeros (length left) i)) (allows_bit _ 0 (All-get_or (λ mask. IsTrue (allows mask 0)) left i 0 h b));
}

blank_have : (left : List ℕ) (i k : ℕ) → All (λ mask. IsTrue (allows mask 0)) left → IsBitSet (get_or (replicate (length left) 1) i 0) k → CanHave [] left i k
blank_have left i k b s =
    let l = within (replicate (length left) 1) i k s in
    let h : i < length left = omega (arith, length-replicate {A = ℕ} (length left) 1) in
    let z : k ≡ 0 = (power_has 0 k).0 (let P : ℕ → Type 0 = λ m. IsBitSet m k in subst P (get_or-replicate (length left) i 1 0 h) s) in
    record {
      line = replicate (length left) 0;
      fits = background_fits left b;
      within = h;
      has = zeros (length left) i ∙ sym z;
    }

have_blank : (left : List ℕ) (i k : ℕ) → CanHave [] left i k → IsBitSet (get_or (replicate (length left) 1) i 0) k
have_blank left i k h =
    let z : k ≡ 0 = sym h.has ∙ only_background h.line i h.fits.has_clue in
    let P : ℕ → Type 0 = λ m. IsBitSet m k in
    subst P (sym (get_or-replicate (length left) i 1 0 h.within)) ((power_has 0 k).1 z)

pub blank_narrows : (left : List ℕ) → All (λ mask. IsTrue (allows mask 0)) left → Narrows [] left Narrowed (replicate (length left) 1)
blank_narrows left b = record {
  same_length = length-replicate (length left) 1;
  fits = ((λ _. (replicate (length left) 0, background_fits left b)), (λ _. refl));
  exact = λ i k. (blank_have left i k b, have_blank left i k);
  empty = λ e. absurd (let z : ⊥ = cc in z);
}

pub narrows_not_blank : (left : List ℕ) → (All (λ mask. IsTrue (allows mask 0)) left → ⊥) → Narrows [] left Dead (replicate (length left) 0)
narrows_not_blank left n =
    narrows_dead [] left (λ h. n (All-from_get_or (λ mask. IsTrue (allows mask 0)) left 0
    (λ i l. bit_allows _ 0 (subst (λ k. IsBitSet (get_or left i 0) k) (only_background h.0 i h.1.has_clue) (h.1.keeps i l)))))

-- background in common with one cell more
pub common_more : (left : List ℕ) (common n : ℕ) → ((allows common 0 ≡ true) ↔ ((i : ℕ) → i < n → allows (get_or left i 0) 0 ≡ true))
    → (allows (bit_and common (get_or left n 0)) 0 ≡ true) ↔ ((i : ℕ) → i < n + 1 → allows (get_or left i 0) 0 ≡ true)
common_more left common n e =
    let P : ℕ → Type 0 = λ i. allows (get_or left i 0) 0 ≡ true in (
      (λ h i l.
          let both = allowed_both common (get_or left n 0) 0 h in
          elim (cases_eq i n) [
            | inl s ↦ subst P (sym s) both.1
            | inr d ↦ e.0 both.0 i (omega arith)
          ]),
      (λ each. both_allowed common (get_or left n 0) 0 (e.1 (λ i l. each i (omega arith))) (each n (omega arith))),
    )
