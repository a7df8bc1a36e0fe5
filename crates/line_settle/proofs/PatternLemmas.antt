-- A clue's pattern has that clue, and background only where two blocks of one colour meet.
use Rattle.std.proofs.Common.{◌≡◌, ◌≢◌, ℕ, zero, suc, ◌+◌, ◌<◌, ◌≤◌, Bool, true, false, List, [], ◌∷◌, ◌++◌, replicate, refl, sym, ap, subst, ◌∙◌, arith, inl, inr, ◌==◌, eq-eqb, ne_eqb, length}
use Rattle.std.specs.List.{All}
use Rattle.std.proofs.lemmas.Bool.{cases_eq}
use Rattle.clues.specs.declared.block.Block.{Block}
use Rattle.clues.specs.Clue.{block, longer, clue_of, IsBlock, IsClue}
use Rattle.line_settle.specs.Patterns.{gap, spelled_after}
use Rattle.line_settle.proofs.ClueLemmas.{Apart, clue_more, clue_apart}
use Rattle.line_settle.proofs.SpellsLemmas.{Spells, Tight, clue_from_spells, spells_from_clue}

pub first_is : {A : Type 0} (P : A → Type 0) (x : A) (xs : List A) → All P (x ∷ xs) → P x
first_is P x xs h = h 0 x (omega arith)

pub rest_are : {A : Type 0} (P : A → Type 0) (x : A) (xs : List A) → All P (x ∷ xs) → All P xs
rest_are P x xs h = λ k d l. h (suc k) d (omega arith)

tight_run : (p n c : ℕ) (rest : List ℕ) → c ≢ 0 → Tight c rest → Tight p (replicate (suc n) c ++ rest)
tight_run p n zero rest h t = absurd (h refl)
tight_run p zero (suc c) rest h t = t
tight_run p (suc n) (suc c) rest h t = tight_run (suc c) n (suc c) rest h t

clue_run : (n c : ℕ) (rest : List ℕ) → c ≢ 0 → Apart c rest → clue_of (replicate (suc n) c ++ rest) ≡ block (suc n) c ∷ clue_of rest
clue_run zero c rest h a = clue_apart c rest h a
clue_run (suc n) c rest h a = clue_more c (replicate n c ++ rest) h ∙ (ap longer (clue_run n c rest h a) ∙ ap (λ k. block k c ∷ clue_of rest) (let e : suc n + 1 ≡ suc (suc n) = omega arith in e))

-- the cells of one block and of what follows, where `meets` says that the block before has its colour
abbrev piece : Bool → ℕ → ℕ → List Block → List ℕ
piece meets len colour bs = gap meets ++ (replicate len colour ++ spelled_after colour bs)

tight_piece : (last len colour : ℕ) (bs : List Block) → 0 < len → colour ≢ 0 → Tight colour (spelled_after colour bs) → Tight last (piece (colour == last) len colour bs)
tight_piece last zero colour bs l h t = absurd (omega arith)
tight_piece last (suc n) colour bs l h t = elim (cases_eq colour last) [
  | inl e ↦
      let P : Bool → Type 0 = λ m. Tight last (piece m (suc n) colour bs) in
      subst P (sym (eq-eqb colour last e)) ((λ z. h (e ∙ z)), e, tight_run 0 n colour (spelled_after colour bs) h t)
  | inr d ↦
      let P : Bool → Type 0 = λ m. Tight last (piece m (suc n) colour bs) in
      subst P (sym (ne_eqb colour last d)) (tight_run last n colour (spelled_after colour bs) h t)
]

pub tight_spelled : (last : ℕ) (bs : List Block) → IsClue bs → Tight last (spelled_after last bs)
tight_spelled last [] h = tt
tight_spelled last (b ∷ bs) h =
    let f = first_is IsBlock b bs h in
    tight_piece last b.len b.colour bs f.has_cells (λ z. absurd (omega arith)) (tight_spelled b.colour bs (rest_are IsBlock b bs h))

-- a block is not followed by a cell of its colour
apart_piece : (c len colour : ℕ) (bs : List Block) → c ≢ 0 → 0 < len → Apart c (piece (colour == c) len colour bs)
apart_piece c zero colour bs n l = absurd (omega arith)
apart_piece c (suc k) colour bs n l = elim (cases_eq colour c) [
  | inl e ↦ let P : Bool → Type 0 = λ m. Apart c (piece m (suc k) colour bs) in subst P (sym (eq-eqb colour c e)) n
  | inr d ↦ let P : Bool → Type 0 = λ m. Apart c (piece m (suc k) colour bs) in subst P (sym (ne_eqb colour c d)) (λ e. d (sym e))
]

apart_spelled : (c : ℕ) (bs : List Block) → c ≢ 0 → IsClue bs → Apart c (spelled_after c bs)
apart_spelled c [] n h = tt
apart_spelled c (b ∷ bs) n h = apart_piece c b.len b.colour bs n (first_is IsBlock b bs h).has_cells

clue_gap : (meets : Bool) (rest : List ℕ) → clue_of (gap meets ++ rest) ≡ clue_of rest
clue_gap true rest = refl
clue_gap false rest = refl

clue_piece : (meets : Bool) (len colour : ℕ) (bs : List Block) → 0 < len → colour ≢ 0 → Apart colour (spelled_after colour bs)
    → clue_of (piece meets len colour bs) ≡ block len colour ∷ clue_of (spelled_after colour bs)
clue_piece meets zero colour bs l h a = absurd (omega arith)
clue_piece meets (suc n) colour bs l h a = clue_gap meets _ ∙ clue_run n colour (spelled_after colour bs) h a

pub clue_spelled : (last : ℕ) (bs : List Block) → IsClue bs → clue_of (spelled_after last bs) ≡ bs
clue_spelled last [] h = refl
clue_spelled last (b ∷ bs) h =
    let f = first_is IsBlock b bs h in
    let n : b.colour ≢ 0 = λ z. absurd (omega arith) in
    let r = rest_are IsBlock b bs h in
    clue_piece (b.colour == last) b.len b.colour bs f.has_cells n (apart_spelled b.colour bs n r) ∙ ap (λ l. b ∷ l) (clue_spelled b.colour bs r)

-- a list has the clue exactly when it spells the clue's pattern
pub clue_is_spelled : (bs : List Block) (line : List ℕ) → IsClue bs → Spells 0 (spelled_after 0 bs) line → clue_of line ≡ bs
clue_is_spelled bs line h s = clue_from_spells 0 (spelled_after 0 bs) line (tight_spelled 0 bs h) s ∙ clue_spelled 0 bs h

pub spells_clue : (bs : List Block) (line : List ℕ) → IsClue bs → clue_of line ≡ bs → Spells 0 (spelled_after 0 bs) line
spells_clue bs line h e = spells_from_clue 0 (spelled_after 0 bs) line (tight_spelled 0 bs h) (e ∙ sym (clue_spelled 0 bs h))

-- a line is no shorter than the pattern that it spells
pub spells_length : (last : ℕ) (rest line : List ℕ) → Spells last rest line → length rest ≤ length line
spells_length last [] line s = omega arith
spells_length last (y ∷ rest) [] s = absurd s
spells_length last (y ∷ rest) (x ∷ line) s = elim s [
  | inl a ↦ let i = spells_length y rest line a.1 in omega arith
  | inr b ↦ let i = spells_length last (y ∷ rest) line b.3 in omega arith
]
