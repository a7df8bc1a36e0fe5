-- Clues of lines whose colours are renumbered.
use Rattle.std.proofs.Common.{◌≡◌, ℕ, zero, suc, ◌==◌, Bool, true, false, if◌then◌else◌, List, [], ◌∷◌, map, refl, sym, ap, subst, ◌∙◌, eqb-true, eq-eqb, ne_eqb}
use Rattle.std.proofs.lemmas.Bool.{eqb-false}
use Rattle.clues.specs.declared.block.Block.{Block}
use Rattle.clues.specs.Clue.{block, clue_of, joined, longer}

-- ---- what holds of each colour of a line holds of each colour of its clue, and the other way round

abbrev pub EachIs : (ℕ → Type 0) → List ℕ → Type 0
EachIs P [] = Unit {0}
EachIs P (x ∷ cells) = P x × EachIs P cells

abbrev pub EachBlockIs : (ℕ → Type 0) → List Block → Type 0
EachBlockIs P [] = Unit {0}
EachBlockIs P (b ∷ blocks) = P b.colour × EachBlockIs P blocks

longer_is : (P : ℕ → Type 0) (blocks : List Block) → EachBlockIs P blocks → EachBlockIs P (longer blocks)
longer_is P [] h = tt
longer_is P (b ∷ blocks) h = h

longer_was : (P : ℕ → Type 0) (blocks : List Block) → EachBlockIs P (longer blocks) → EachBlockIs P blocks
longer_was P [] h = tt
longer_was P (b ∷ blocks) h = h

joined_is : (P : ℕ → Type 0) (x : ℕ) (rest : List ℕ) (blocks : List Block) → P x → EachBlockIs P blocks → EachBlockIs P (joined x rest blocks)
joined_is P x [] blocks p h = (p, h)
joined_is P x (y ∷ rest) blocks p h = either (x == y)
  where
    either : (s : Bool) → EachBlockIs P (if s then longer blocks else (block 1 x ∷ blocks))
    either true = longer_is P blocks h
    either false = (p, h)

pub blocks_are : (P : ℕ → Type 0) (cells : List ℕ) → EachIs P cells → EachBlockIs P (clue_of cells)
blocks_are P [] h = tt
blocks_are P (zero ∷ cells) h = blocks_are P cells h.1
blocks_are P (suc x ∷ cells) h = joined_is P (suc x) cells (clue_of cells) h.0 (blocks_are P cells h.1)

joined_was : (P : ℕ → Type 0) (x y : ℕ) (cells : List ℕ) (blocks : List Block) (s : Bool) → (x == y) ≡ s → (EachBlockIs P blocks → EachIs P (y ∷ cells))
    → EachBlockIs P (if s then longer blocks else (block 1 x ∷ blocks)) → EachIs P (x ∷ y ∷ cells)
joined_was P x y cells blocks true e before h =
    let r = before (longer_was P blocks h) in
    (subst P (sym (eqb-true x y e)) r.0, r)
joined_was P x y cells blocks false e before h = (h.0, before h.1)

pub cells_are : (P : ℕ → Type 0) → P 0 → (cells : List ℕ) → EachBlockIs P (clue_of cells) → EachIs P cells
cells_are P z [] h = tt
cells_are P z (zero ∷ cells) h = (z, cells_are P z cells h)
cells_are P z (suc x ∷ []) h = (h.0, tt)
cells_are P z (suc x ∷ y ∷ cells) h = joined_was P (suc x) y cells (clue_of (y ∷ cells)) (suc x == y) refl (cells_are P z (y ∷ cells)) h

-- ---- the clue of a line whose colours are renumbered

-- a colour is got back
abbrev pub ComesBack : (ℕ → ℕ) → (ℕ → ℕ) → ℕ → Type 0
ComesBack there back x = back (there x) ≡ x

abbrev pub recoloured : (ℕ → ℕ) → Block → Block
recoloured there b = block b.len (there b.colour)

longer_recoloured : (there : ℕ → ℕ) (blocks : List Block) → longer (map (recoloured there) blocks) ≡ map (recoloured there) (longer blocks)
longer_recoloured there [] = refl
longer_recoloured there (b ∷ blocks) = refl

same_test : (there back : ℕ → ℕ) (x y : ℕ) (s : Bool) → ComesBack there back x → ComesBack there back y → (x == y) ≡ s → (there x == there y) ≡ s
same_test there back x y true p q e = eq-eqb (there x) (there y) (ap there (eqb-true x y e))
same_test there back x y false p q e = ne_eqb (there x) (there y) (λ h. eqb-false x y e (sym p ∙ (ap back h ∙ q)))

joined_recoloured : (there back : ℕ → ℕ) (x : ℕ) (cells : List ℕ) (blocks : List Block) → ComesBack there back x → EachIs (ComesBack there back) cells
    → joined (there x) (map there cells) (map (recoloured there) blocks) ≡ map (recoloured there) (joined x cells blocks)
joined_recoloured there back x [] blocks p h = refl
joined_recoloured there back x (y ∷ cells) blocks p h = either (x == y) (there x == there y) (same_test there back x y (x == y) p h.0 refl)
  where
    either : (s t : Bool) → t ≡ s
        → (if t then longer (map (recoloured there) blocks) else (block 1 (there x) ∷ map (recoloured there) blocks)) ≡ map (recoloured there) (if s then longer blocks else (block 1 x ∷ blocks))
    either true true e = longer_recoloured there blocks
    either false false e = refl
    either true false e = cc
    either false true e = cc

joins : (x : ℕ) (cells : List ℕ) → (x ≡ 0 → ⊥) → clue_of (x ∷ cells) ≡ joined x cells (clue_of cells)
joins zero cells n = absurd (n refl)
joins (suc x) cells n = refl

pub clue_recoloured : (there back : ℕ → ℕ) → there 0 ≡ 0 → back 0 ≡ 0 → (cells : List ℕ) → EachIs (ComesBack there back) cells → clue_of (map there cells) ≡ map (recoloured there) (clue_of cells)
clue_recoloured there back t b [] h = refl
clue_recoloured there back t b (zero ∷ cells) h = ap (λ (x : ℕ). clue_of (x ∷ map there cells)) t ∙ clue_recoloured there back t b cells h.1
clue_recoloured there back t b (suc x ∷ cells) h =
    let n : there (suc x) ≡ 0 → ⊥ = λ e. let f : suc x ≡ 0 = sym h.0 ∙ (ap back e ∙ b) in cc in
    let others = clue_recoloured there back t b cells h.1 in
    joins (there (suc x)) (map there cells) n
    ∙ (ap (λ (blocks : List Block). joined (there (suc x)) (map there cells) blocks) others ∙ joined_recoloured there back (suc x) cells (clue_of cells) h.0 h.1)
