-- Clue texts piece by piece, as they are pushed.
use Rattle.std.proofs.Common.{◌≡◌, ℕ, suc, ◌+◌, ◌-◌, ◌<◌, ◌≤◌, List, [], ◌∷◌, ◌++◌, length, get_or, take, drop, refl, sym, ap, ◌∙◌, append_assoc, arith}
use Rattle.std.specs.List.{flat_map}
use Rattle.std.proofs.lemmas.List.{append-nil, take_more, take_rest, length-take-le}
use Rattle.clues.specs.declared.block.Block.{Block}
use Rattle.report_text.specs.ClueText.{behind, block_text, blocks_text, numbered_clue, numbered_clues}

pub blocks_text-cons : (b : Block) (blocks : List Block) → blocks_text (b ∷ blocks) ≡ block_text b ++ flat_map behind blocks
blocks_text-cons b [] = sym (append-nil (block_text b))
blocks_text-cons b (c ∷ blocks) = ap (λ (rest : List ℕ). block_text b ++ 32 ∷ rest) (blocks_text-cons c blocks)

-- the first block, and the others after it, as a slice has them
pub blocks_text_first : (blocks : List Block) → 1 ≤ length blocks
    → blocks_text blocks ≡ block_text (get_or blocks 0 (record { len = 0; colour = 0 })) ++ flat_map behind (take (length blocks - 1) (drop 1 blocks))
blocks_text_first [] some = absurd (omega (arith, some))
blocks_text_first (b ∷ blocks) some = blocks_text-cons b blocks ∙ ap (λ bs. block_text b ++ flat_map behind bs) (sym (take_rest (b ∷ blocks) 1))

-- the first block pushed, and then the others
pub pushed_all : (before between after : List ℕ) (blocks : List Block) → 1 ≤ length blocks → between ≡ before ++ block_text (get_or blocks 0 (record { len = 0; colour = 0 }))
    → after ≡ between ++ flat_map behind (take (length blocks - 1) (drop 1 blocks)) → after ≡ before ++ blocks_text blocks
pushed_all before between after blocks some first others =
    let b = block_text (get_or blocks 0 (record { len = 0; colour = 0 })) in
    let rest = flat_map behind (take (length blocks - 1) (drop 1 blocks)) in
    others ∙ ap (λ (front : List ℕ). front ++ rest) first ∙ append_assoc before b rest ∙ ap (λ (text : List ℕ). before ++ text) (sym (blocks_text_first blocks some))

-- the lines of the first clues, and of one more
pub numbered_clues-push : (letter number : ℕ) (clues : List (List Block)) (clue : List Block)
    → numbered_clues letter number (clues ++ clue ∷ []) ≡ numbered_clues letter number clues ++ numbered_clue letter (number + length clues) clue
unfolding numbered_clues
numbered_clues-push letter number [] clue =
    let same : number + 0 ≡ number = omega arith in
    rw same (append-nil (numbered_clue letter number clue))
numbered_clues-push letter number (first ∷ clues) clue =
    let later : number + 1 + length clues ≡ number + suc (length clues) = omega arith in
    ap (λ (rest : List ℕ). numbered_clue letter number first ++ rest)
    (numbered_clues-push letter (number + 1) clues clue ∙ ap (λ n. numbered_clues letter (number + 1) clues ++ numbered_clue letter n clue) later)
    ∙ sym (append_assoc (numbered_clue letter number first) (numbered_clues letter (number + 1) clues) (numbered_clue letter (number + suc (length clues)) clue))

pub numbered_clues-nil : (letter number : ℕ) → numbered_clues letter number [] ≡ []
unfolding numbered_clues
numbered_clues-nil letter number = refl

pub numbered_clues-more : (letter : ℕ) (clues : List (List Block)) (i : ℕ) → i < length clues
    → numbered_clues letter 1 (take (i + 1) clues) ≡ numbered_clues letter 1 (take i clues) ++ numbered_clue letter (i + 1) (get_or clues i [])
numbered_clues-more letter clues i lt =
    rw (take_more clues i [] lt) (numbered_clues-push letter 1 (take i clues) (get_or clues i [])
    ∙ ap (λ n. numbered_clues letter 1 (take i clues) ++ numbered_clue letter n (get_or clues i [])) (omega (arith, length-take-le i clues (omega arith))))
