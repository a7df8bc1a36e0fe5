-- What the clue of a list says of its first cells.
use Rattle.std.proofs.Common.{◌≡◌, ◌≢◌, ℕ, zero, suc, ◌+◌, List, [], ◌∷◌, refl, sym, ap, subst, ◌∙◌, arith, cond, ◌==◌, eq-eqb, ne_eqb, inl, inr}
use Rattle.std.proofs.lemmas.Bool.{cond-true, cond-false, cases_eq}
use Rattle.clues.specs.declared.block.Block.{Block}
use Rattle.clues.specs.Clue.{block, longer, joined, clue_of}

-- the list doesn't begin with this colour
abbrev pub Apart : ℕ → List ℕ → Type 0
Apart c [] = Unit {0}
Apart c (x ∷ f) = c ≢ x

pub joined_more : (c : ℕ) (f : List ℕ) (bs : List Block) → joined c (c ∷ f) bs ≡ longer bs
joined_more c f bs = cond-true _ _ _ (eq-eqb c c refl)

pub joined_apart : (c : ℕ) (f : List ℕ) (bs : List Block) → Apart c f → joined c f bs ≡ block 1 c ∷ bs
joined_apart c [] bs h = refl
joined_apart c (x ∷ f) bs h = cond-false _ _ _ (ne_eqb c x h)

-- two cells of one colour make the first block one longer
pub clue_more : (c : ℕ) (f : List ℕ) → c ≢ 0 → clue_of (c ∷ c ∷ f) ≡ longer (clue_of (c ∷ f))
clue_more zero f h = absurd (h refl)
clue_more (suc c) f h = joined_more (suc c) f (clue_of (suc c ∷ f))

-- a cell before another colour is a block of its own
pub clue_apart : (c : ℕ) (f : List ℕ) → c ≢ 0 → Apart c f → clue_of (c ∷ f) ≡ block 1 c ∷ clue_of f
clue_apart zero f h a = absurd (h refl)
clue_apart (suc c) f h a = joined_apart (suc c) f (clue_of f) a

-- a clue whose first block has this colour, and at least this length
pub record FirstBlock (c : ℕ) (bs : List Block) : Type 0 where
  pub more : ℕ
  pub rest : List Block
  pub is : bs ≡ block (more + 1) c ∷ rest

abbrev pub first_colour : List Block → ℕ
first_colour [] = 0
first_colour (b ∷ bs) = b.colour

abbrev rest_of : List Block → List Block
rest_of [] = []
rest_of (b ∷ bs) = bs

abbrev first_len : List Block → ℕ
first_len [] = 0
first_len (b ∷ bs) = b.len

pub first_block : (c : ℕ) (f : List ℕ) → c ≢ 0 → FirstBlock c (clue_of (c ∷ f))
first_block c [] h = record { more = 0; rest = []; is = clue_apart c [] h tt }
first_block c (x ∷ f) h = elim (cases_eq c x) [
  | inl e ↦ subst (λ y. FirstBlock c (clue_of (c ∷ y ∷ f))) e
      (let b = first_block c f h in record { more = b.more + 1; rest = b.rest; is = clue_more c f h ∙ ap longer b.is })
  | inr n ↦ record { more = 0; rest = clue_of (x ∷ f); is = clue_apart c (x ∷ f) h n }
]

-- a clue is empty only where no cell has a colour
pub no_block : (c : ℕ) (f : List ℕ) → c ≢ 0 → clue_of (c ∷ f) ≢ []
no_block c f h e = let b = first_block c f h in let i : block (b.more + 1) c ∷ b.rest ≡ [] = sym b.is ∙ e in cc

-- the first blocks of equal clues have one colour
pub same_colour : (c d : ℕ) (f e : List ℕ) → c ≢ 0 → d ≢ 0 → clue_of (c ∷ f) ≡ clue_of (d ∷ e) → c ≡ d
same_colour c d f e hc hd eq =
    let b = first_block c f hc in
    let k = first_block d e hd in
    let i : block (b.more + 1) c ∷ b.rest ≡ block (k.more + 1) d ∷ k.rest = sym b.is ∙ eq ∙ k.is in
    ap (λ bs. first_colour bs) i

-- a longer first block is longer than one cell
pub longer_first : (c : ℕ) (f : List ℕ) (bs : List Block) → c ≢ 0 → longer (clue_of (c ∷ f)) ≢ block 1 c ∷ bs
longer_first c f bs h e =
    let b = first_block c f h in
    let i : longer (block (b.more + 1) c ∷ b.rest) ≡ block 1 c ∷ bs = sym (ap longer b.is) ∙ e in
    let n : b.more + 1 + 1 ≡ 1 = ap first_len i in
    absurd (omega arith)

pub shorter_first : (c : ℕ) (f e : List ℕ) → c ≢ 0 → longer (clue_of (c ∷ f)) ≡ longer (clue_of (c ∷ e)) → clue_of (c ∷ f) ≡ clue_of (c ∷ e)
shorter_first c f e h eq =
    let b = first_block c f h in
    let k = first_block c e h in
    let i : longer (block (b.more + 1) c ∷ b.rest) ≡ longer (block (k.more + 1) c ∷ k.rest) = sym (ap longer b.is) ∙ eq ∙ ap longer k.is in
    let n : b.more + 1 + 1 ≡ k.more + 1 + 1 = ap first_len i in
    let m : b.more ≡ k.more = omega arith in
    let t : b.rest ≡ k.rest = ap rest_of i in
    b.is ∙ (ap (λ x. block (x + 1) c ∷ b.rest) m ∙ (ap (λ x. block (k.more + 1) c ∷ x) t ∙ sym k.is))

pub clue_more_at : (c x : ℕ) (f : List ℕ) → c ≢ 0 → c ≡ x → clue_of (c ∷ x ∷ f) ≡ longer (clue_of (c ∷ f))
clue_more_at c x f h e = ap (λ y. clue_of (c ∷ y ∷ f)) (sym e) ∙ clue_more c f h

-- a list whose clue begins with another colour is apart from this one
pub apart_from_clue : (c : ℕ) (f : List ℕ) → c ≢ 0 → first_colour (clue_of f) ≢ c → Apart c f
apart_from_clue c [] h n = tt
apart_from_clue c (x ∷ f) h n = λ e.
    let b = first_block c f h in
    let i : first_colour (clue_of (c ∷ f)) ≡ c = ap first_colour b.is in
    n (ap (λ y. first_colour (clue_of (y ∷ f))) (sym e) ∙ i)

-- one equal cell before two lists with equal clues changes the clues alike
pub clue_behind : (c x : ℕ) (f e : List ℕ) → clue_of (x ∷ f) ≡ clue_of (x ∷ e) → clue_of (c ∷ x ∷ f) ≡ clue_of (c ∷ x ∷ e)
clue_behind zero x f e h = h
clue_behind (suc c) x f e h = ap (λ bs. cond (suc c == x) (longer bs) (block 1 (suc c) ∷ bs)) h

-- background after a cell that ends its run
pub clue_background : (c : ℕ) (f : List ℕ) → (c ≢ 0 → Apart c f) → clue_of (c ∷ 0 ∷ f) ≡ clue_of (c ∷ f)
clue_background zero f h = refl
clue_background (suc c) f h =
    let n : suc c ≢ 0 = λ e. absurd (omega arith) in
    clue_apart (suc c) (0 ∷ f) n n ∙ sym (clue_apart (suc c) f n (h n))
