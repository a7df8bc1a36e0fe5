-- Writing a pattern block by block.
use Rattle.std.proofs.Common.{◌≡◌, ℕ, suc, ◌+◌, ◌<◌, ◌≤◌, Bool, List, [], ◌∷◌, ◌++◌, ◌==◌, replicate, refl, sym, ap, ◌∙◌, arith, length, get_or, take, drop, drop-cons, append_assoc, add-one}
use Rattle.std.proofs.lemmas.List.{length-append, length-take}
use Rattle.std.proofs.Math.ListN.{set}
use Rattle.clues.specs.declared.block.Block.{Block}
use Rattle.line_settle.specs.Patterns.{gap, spelled_after, pattern_of}

-- what is written for one block
abbrev pub cells_of : Bool → ℕ → ℕ → List ℕ
cells_of meets len colour = gap meets ++ replicate len colour

pub spelled_next : (last : ℕ) (blocks : List Block) (i : ℕ) (b d : Block) → i < length blocks → b ≡ get_or blocks i d
    → spelled_after last (drop i blocks) ≡ gap (b.colour == last) ++ (replicate b.len b.colour ++ spelled_after b.colour (drop (i + 1) blocks))
spelled_next last blocks i b d h e =
    let s : drop i blocks ≡ b ∷ drop (suc i) blocks = drop-cons blocks i d h ∙ ap (λ x. x ∷ drop (suc i) blocks) (sym e) in
    rw add-one (ap (spelled_after last) s)

pub spelled_on : (last : ℕ) (blocks : List Block) (i : ℕ) (b : Block) (front more all : List ℕ) → i < length blocks → b ≡ get_or blocks i b → front ++ spelled_after last (drop i blocks) ≡ all
    → more ≡ front ++ (gap (b.colour == last) ++ replicate b.len b.colour) → more ++ spelled_after b.colour (drop (i + 1) blocks) ≡ all
spelled_on last blocks i b front more all h e f m =
    let n = spelled_next last blocks i b b h e in
    let g = gap (b.colour == last) in
    let r = replicate b.len b.colour in
    let t = spelled_after b.colour (drop (i + 1) blocks) in
    ap (λ x. x ++ t) m ∙ (append_assoc front (g ++ r) t ∙ (ap (λ x. front ++ x) (append_assoc g r t ∙ sym n) ∙ f))

pub spelled_past : (last : ℕ) (blocks : List Block) (i : ℕ) (b d : Block) (buffer : List ℕ) (end : ℕ) → i < length blocks → b ≡ get_or blocks i d → end ≤ length buffer → take end buffer
    ++ spelled_after last (drop i blocks) ≡ pattern_of blocks → length buffer < end + length (gap (b.colour == last) ++ replicate b.len b.colour) → length buffer < length (pattern_of blocks)
spelled_past last blocks i b d buffer end h e w f l =
    let g = gap (b.colour == last) in
    let r = replicate b.len b.colour in
    let t = spelled_after b.colour (drop (i + 1) blocks) in
    let s : take end buffer ++ (g ++ (r ++ t)) ≡ pattern_of blocks = ap (λ x. take end buffer ++ x) (sym (spelled_next last blocks i b d h e)) ∙ f in
    let k = ap length s in
    let k0 = length-take end buffer in
    let k1 = length-append (take end buffer) (g ++ (r ++ t)) in
    let k2 = length-append g (r ++ t) in
    let k3 = length-append r t in
    let k4 = length-append g r in
    omega arith

pub first_written : (buffer : List ℕ) (x : ℕ) → 0 < length buffer → take 1 (set buffer 0 x) ≡ x ∷ []
first_written [] x h = absurd (omega arith)
first_written (y ∷ buffer) x h = refl

pub ruleset spelling = (spelled_on, first_written)
