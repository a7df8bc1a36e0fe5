-- Laws of runs: what the clue of a line says of the run that it begins with.
use Rattle.std.proofs.Common.{◌≡◌, ◌≢◌, ℕ, zero, suc, ◌+◌, ◌<◌, true, cond, eqb, List, [], ◌∷◌, ◌++◌, length, replicate, refl, sym, ap, ◌∙◌, add-one, arith, ◌↔◌}
use Rattle.std.proofs.lemmas.Bool.{eq-eqb}
use Rattle.std.proofs.lemmas.List.{append_cancel_left, nil_from_length}
use Rattle.clues.specs.declared.block.Block.{Block}
use Rattle.clues.specs.Clue.{block, longer, joined, clue_of, blocks_of}
use Rattle.std.proofs.lemmas.Bool.{ne_eqb}

-- a colour that is not the first of the rest
abbrev IsApart : ℕ → List ℕ → Type 0
IsApart x [] = Unit {0}
IsApart x (y ∷ ys) = x ≢ y

-- a colour is itself
eqb-same : (x : ℕ) → eqb x x ≡ true
eqb-same x = eq-eqb x x refl

joined-apart : (x : ℕ) (rest : List ℕ) (blocks : List Block) → IsApart x rest → joined x rest blocks ≡ block 1 x ∷ blocks
joined-apart x [] blocks h = refl
joined-apart x (y ∷ ys) blocks h = ap (λ b. cond b (longer blocks) (block 1 x ∷ blocks)) (ne_eqb x y h)

joined-same : (x : ℕ) (ys : List ℕ) (blocks : List Block) → joined x (x ∷ ys) blocks ≡ longer blocks
joined-same x ys blocks = ap (λ b. cond b (longer blocks) (block 1 x ∷ blocks)) (eqb-same x)

-- a run of background says nothing
clue_of-background : (n : ℕ) (rest : List ℕ) → clue_of (replicate n 0 ++ rest) ≡ clue_of rest
clue_of-background zero rest = refl
clue_of-background (suc n) rest = clue_of-background n rest

-- a run of colour x that ends is a block
clue_of-coloured : (n x : ℕ) (rest : List ℕ) → IsApart (suc x) rest → clue_of (replicate (suc n) (suc x) ++ rest) ≡ block (suc n) (suc x) ∷ clue_of rest
clue_of-coloured zero x rest h = joined-apart (suc x) rest (clue_of rest) h
clue_of-coloured (suc n) x rest h =
    joined-same (suc x) (replicate n (suc x) ++ rest) (clue_of (replicate (suc n) (suc x) ++ rest))
    ∙ (ap longer (clue_of-coloured n x rest h) ∙ ap (λ k. block k (suc x) ∷ clue_of rest) (add-one (suc n)))

pub blocks_of-coloured : (n x : ℕ) → blocks_of n (suc x) ≡ block n (suc x) ∷ []
blocks_of-coloured n x = ap (λ b. cond b [] (block n (suc x) ∷ [])) (ne_eqb (suc x) 0 (omega arith))

clue_of-run_before : (n x : ℕ) (rest : List ℕ) → (x ≢ 0 → 0 < n) → IsApart x rest → clue_of (replicate n x ++ rest) ≡ blocks_of n x ++ clue_of rest
clue_of-run_before n zero rest some apart = clue_of-background n rest
clue_of-run_before zero (suc x) rest some apart = absurd (omega (arith, some (omega arith)))
clue_of-run_before (suc n) (suc x) rest some apart = rw blocks_of-coloured (clue_of-coloured n x rest apart)

-- the open run, where another cell ends it
pub clue_of-run : (n x y : ℕ) (rest : List ℕ) → (x ≢ 0 → 0 < n) → y ≢ x → clue_of (replicate n x ++ y ∷ rest) ≡ blocks_of n x ++ clue_of (y ∷ rest)
clue_of-run n x y rest some apart = clue_of-run_before n x (y ∷ rest) some (λ e. apart (sym e))

-- the open run, where the line ends
pub clue_of-last_run : (n x : ℕ) → (x ≢ 0 → 0 < n) → clue_of (replicate n x ++ []) ≡ blocks_of n x ++ []
clue_of-last_run n x some = clue_of-run_before n x [] some tt

-- the open run, one cell longer
replicate-suc : (n x : ℕ) (rest : List ℕ) → replicate (suc n) x ++ rest ≡ replicate n x ++ x ∷ rest
replicate-suc zero x rest = refl
replicate-suc (suc n) x rest = ap (λ cells. x ∷ cells) (replicate-suc n x rest)

pub replicate-more : (n x : ℕ) (rest : List ℕ) → replicate (n + 1) x ++ rest ≡ replicate n x ++ x ∷ rest
replicate-more n x rest = rw add-one (replicate-suc n x rest)

-- where the line ends, the last run has to be all that is left
pub last_run-matches : (n x : ℕ) (left rest : List Block) → (x ≢ 0 → 0 < n) → left ≡ blocks_of n x ++ rest → (clue_of (replicate n x ++ []) ≡ left) ↔ (length rest ≡ 0)
last_run-matches n x left rest some e = (
  λ h. ap length (append_cancel_left (blocks_of n x) rest [] (sym e ∙ (sym h ∙ clue_of-last_run n x some))),
  λ h. clue_of-last_run n x some ∙ (ap (λ blocks. blocks_of n x ++ blocks) (sym (nil_from_length rest h)) ∙ sym e),
)
