-- The clue of a line that begins with a run.
use Rattle.std.proofs.Common.{◌≡◌, ◌≢◌, ℕ, zero, suc, ◌+◌, ◌<◌, ◌≤◌, true, false, cond, eqb, List, [], ◌∷◌, ◌++◌, length, replicate, get_or, take, set, refl, sym, ap, ◌∙◌, arith, append_assoc}
use Rattle.std.proofs.lemmas.Bool.{ne_eqb}
use Rattle.std.proofs.lemmas.List.{append-nil, take_more_set}
use Rattle.std.proofs.lemmas.List.Elements.{All-nil, All-cons, All-head, All-tail}
use Rattle.clues.specs.declared.block.Block.{Block}
use Rattle.clues.specs.Clue.{block, longer, joined, clue_of, blocks_of, IsBlock, IsClue}
use Rattle.clues.proofs.RunLaws.{blocks_of-coloured, clue_of-run, clue_of-last_run, replicate-more, last_run-matches}

-- the same after the blocks before
pub blocks-run : (before : List Block) (n x y : ℕ) (rest : List ℕ) → (x ≢ 0 → 0 < n) → y ≢ x → (before ++ blocks_of n x) ++ clue_of (y ∷ rest) ≡ before ++ clue_of (replicate n x ++ y ∷ rest)
blocks-run before n x y rest some apart = append_assoc before (blocks_of n x) (clue_of (y ∷ rest)) ∙ ap (λ blocks. before ++ blocks) (sym (clue_of-run n x y rest some apart))

-- what is counted on a line is a clue
longer-clue : (blocks : List Block) → IsClue blocks → IsClue (longer blocks)
longer-clue [] clue = clue
longer-clue (b ∷ bs) clue =
    let first = All-head IsBlock b bs clue in
    All-cons IsBlock (block (b.len + 1) b.colour) bs
    (record { has_cells = omega arith; has_colour = first.has_colour; in_palette = first.in_palette })
    (All-tail IsBlock b bs clue)

one_more-clue : (x : ℕ) (blocks : List Block) → suc x < 16 → IsClue blocks → IsClue (block 1 (suc x) ∷ blocks)
one_more-clue x blocks small clue =
    All-cons IsBlock (block 1 (suc x)) blocks (record { has_cells = omega arith; has_colour = omega arith; in_palette = small }) clue

joined-clue : (x : ℕ) (rest : List ℕ) (blocks : List Block) → suc x < 16 → IsClue blocks → IsClue (joined (suc x) rest blocks)
joined-clue x [] blocks small clue = one_more-clue x blocks small clue
joined-clue x (y ∷ ys) blocks small clue =
    elim (eqb (suc x) y) as (λ b. IsClue (cond b (longer blocks) (block 1 (suc x) ∷ blocks))) [ true ↦ longer-clue blocks clue | false ↦ one_more-clue x blocks small clue ]

pub clue_of-clue : (cells : List ℕ) → ((i : ℕ) → get_or cells i 0 < 16) → IsClue (clue_of cells)
clue_of-clue [] small = All-nil IsBlock
clue_of-clue (zero ∷ rest) small = clue_of-clue rest (λ i. small (suc i))
clue_of-clue (suc x ∷ rest) small = joined-clue x rest (clue_of rest) (small 0) (clue_of-clue rest (λ i. small (suc i)))

-- a block that is put after those before it
pub block-put : (blocks : List Block) (count : ℕ) (run : Block) → count < length blocks → run.colour ≢ 0 → take (count + 1) (set blocks count run) ≡ take count blocks ++ blocks_of run.len run.colour
block-put blocks count run lt coloured = take_more_set blocks count run lt ∙ ap (λ (last : List Block). take count blocks ++ last) (sym (one run coloured)) where
  one : (run : Block) → run.colour ≢ 0 → blocks_of run.len run.colour ≡ run ∷ []
  one run coloured = rw (ne_eqb run.colour 0 coloured) refl

pub no-block : (blocks : List Block) (count : ℕ) (run : Block) → run.colour ≡ 0 → take count blocks ≡ take count blocks ++ blocks_of run.len run.colour
no-block blocks count run background = sym (rw background (append-nil (take count blocks)))

pub ruleset finishing = (block-put, no-block)

-- a run has no more blocks than cells
pub blocks-few : (n x : ℕ) → (x ≢ 0 → 0 < n) → length (blocks_of n x) ≤ n
blocks-few n zero some = omega arith
blocks-few n (suc x) some = rw blocks_of-coloured (some (omega arith))

pub ruleset matching = (clue_of-run, clue_of-last_run, replicate-more, last_run-matches)

pub ruleset runs = (blocks-run, blocks-few, clue_of-last_run, replicate-more, clue_of-clue)
