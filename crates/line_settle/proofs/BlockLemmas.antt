-- The places of a clue's blocks in its pattern.
use Rattle.std.proofs.Common.{◌≡◌, ◌≢◌, ℕ, zero, suc, ◌+◌, ◌-◌, ◌<◌, ◌≤◌, Bool, true, false, not, ◌&&◌, ◌||◌, List, [], ◌∷◌, ◌++◌, replicate, ◌==◌, nat_lt, refl, sym, ap, ◌∙◌, arith, eq-eqb, ne_eqb}
use Rattle.std.proofs.Common.{inl, inr, length, get_or, drop}
use Rattle.std.proofs.lemmas.Bool.Decides.{nat_tests}
use Rattle.std.proofs.Math.Seq.{drop-length}
use Rattle.std.proofs.lemmas.Bool.{cases_lt, false≢true, eqb-false, lt-leb, or_left, or_right}
use Rattle.std.proofs.lemmas.List.{drop-drop, get_or-drop, get_or-replicate, get_or_append_left, drop_more, length-append, length-drop, length-replicate}
use Rattle.clues.specs.declared.block.Block.{Block}
use Rattle.clues.specs.Clue.{block, IsBlock, IsClue}
use Rattle.line_settle.specs.Patterns.{gap, spelled_after, pattern_of, waits}
use Rattle.line_settle.specs.LaidBlocks.{meets, gap_before, state_behind, state_before}
use Rattle.line_settle.proofs.PatternLemmas.{first_is, rest_are}
use Rattle.line_settle.proofs.StateLemmas.{waits_before}

-- the colour before block j
colour_before : ℕ → List Block → ℕ → ℕ
colour_before last bs zero = last
colour_before last [] (suc j) = last
colour_before last (b ∷ bs) (suc j) = colour_before b.colour bs j

abbrev pub block_at : List Block → ℕ → Block
block_at bs j = get_or bs j (block 0 0)

-- ---- whether two blocks meet

meets_is : (last : ℕ) (bs : List Block) (j : ℕ) → j < length bs → meets last bs j ≡ ((block_at bs j).colour == colour_before last bs j)
unfolding colour_before
meets_is last [] j h = absurd (omega arith)
meets_is last (b ∷ bs) zero h = refl
meets_is last (b ∷ bs) (suc j) h = meets_is b.colour bs j (omega arith)

same_both : (m n : ℕ) → (m == n) ≡ (n == m)
same_both m n = grind (arith, nat_tests)

meets_next : (b : Block) (bs : List Block) (j : ℕ) → j < length bs → ((block_at (b ∷ bs) j).colour == (block_at bs j).colour) ≡ meets b.colour bs j
meets_next b [] j h = absurd (omega arith)
meets_next b (x ∷ bs) zero h = same_both b.colour x.colour
meets_next b (x ∷ bs) (suc j) h = meets_next x bs j (omega arith)

pub meets_before : (bs : List Block) (j : ℕ) → j < length bs → 0 < j → ((block_at bs (j - 1)).colour == (block_at bs j).colour) ≡ meets 0 bs j
meets_before bs zero h e = absurd (omega arith)
meets_before [] (suc j) h e = absurd (omega arith)
meets_before (b ∷ bs) (suc j) h e =
    let z : suc j - 1 ≡ j = omega arith in
    ap (λ n. (block_at (b ∷ bs) n).colour == (block_at bs j).colour) z ∙ meets_next b bs j (omega arith)

pub meets_first : (bs : List Block) (j : ℕ) → IsClue bs → j < length bs → j ≤ 0 → nat_lt 0 j ≡ meets 0 bs j
meets_first [] j c h e = absurd (omega arith)
meets_first (b ∷ bs) zero c h e =
    let f = first_is IsBlock b bs c in
    sym (ne_eqb b.colour 0 (λ z. let g = f.has_colour in absurd (omega arith)))
meets_first (b ∷ bs) (suc j) c h e = absurd (omega arith)

-- ---- the pattern after the first j blocks

run_dropped : (l c : ℕ) (rest : List ℕ) → drop l (c ∷ (replicate l c ++ rest)) ≡ c ∷ rest
run_dropped zero c rest = refl
run_dropped (suc l) c rest = run_dropped l c rest

piece_dropped : (m : Bool) (x l c : ℕ) (rest : List ℕ) → drop (gap_before m + suc l) (x ∷ (gap m ++ (replicate (suc l) c ++ rest))) ≡ c ∷ rest
piece_dropped true x l c rest =
    let e : 1 + suc l ≡ suc (suc l) = omega arith in
    ap (λ n. drop n (x ∷ (0 ∷ (replicate (suc l) c ++ rest)))) e ∙ run_dropped l c rest
piece_dropped false x l c rest =
    let e : 0 + suc l ≡ suc l = omega arith in
    ap (λ n. drop n (x ∷ (replicate (suc l) c ++ rest))) e ∙ run_dropped l c rest

block_dropped : (m : Bool) (x len c n : ℕ) (rest : List ℕ) → 0 < len → drop (gap_before m + len + n) (x ∷ (gap m ++ (replicate len c ++ rest))) ≡ drop n (c ∷ rest)
block_dropped m x zero c n rest h = absurd (omega arith)
block_dropped m x (suc l) c n rest h =
    rw (← drop-drop, piece_dropped m x l c rest) refl

behind : (last : ℕ) (bs : List Block) (j : ℕ) → IsClue bs → j ≤ length bs
    → drop (state_behind last bs j) (last ∷ spelled_after last bs) ≡ colour_before last bs j ∷ spelled_after (colour_before last bs j) (drop j bs)
unfolding colour_before
behind last bs zero c h = refl
behind last [] (suc j) c h = absurd (omega arith)
behind last (b ∷ bs) (suc j) c h =
    let f = first_is IsBlock b bs c in
    block_dropped (b.colour == last) last b.len b.colour (state_behind b.colour bs j) (spelled_after b.colour bs) f.has_cells
    ∙ behind b.colour bs j (rest_are IsBlock b bs c) (omega arith)

pub state_next : (last : ℕ) (bs : List Block) (j : ℕ) → j < length bs → state_behind last bs (j + 1) ≡ state_behind last bs j + gap_before (meets last bs j) + (block_at bs j).len
state_next last [] j h = absurd (omega arith)
state_next last (b ∷ bs) zero h = omega arith
state_next last (b ∷ bs) (suc j) h =
    let e = state_next b.colour bs j (omega arith) in
    let z : suc j + 1 ≡ suc (j + 1) = omega arith in
    ap (state_behind last (b ∷ bs)) z ∙ (omega arith)

-- ---- a block, a gap and the end in a pattern

-- a block of `len` cells after state s, in which the line waits for it
pub record BlockAt (pattern : List ℕ) (s len colour : ℕ) : Type 0 where
  pub has_cells : 0 < len
  pub within : s + len < length pattern
  pub cells : (t : ℕ) → t < len → get_or pattern (s + suc t) 0 ≡ colour
  pub other : get_or pattern s 0 ≢ colour
  pub coloured : colour ≢ 0

-- a cell of background after state q that is no waiting state
pub record GapAt (pattern : List ℕ) (q : ℕ) : Type 0 where
  pub within : q + 1 < length pattern
  pub background : get_or pattern (q + 1) 0 ≡ 0

in_run : (l c t : ℕ) (rest : List ℕ) → t < l → get_or (replicate l c ++ rest) t 0 ≡ c
in_run l c t rest h = get_or_append_left (replicate l c) rest 0 t (omega (arith, length-replicate l c)) ∙ get_or-replicate l t c 0 h

at_least : (pattern : List ℕ) (q n : ℕ) → n ≤ length (drop q pattern) → 0 < n → q + n ≤ length pattern
at_least pattern q n h p = let e = length-drop q pattern in omega arith

plain_block : (pattern : List ℕ) (q x len c : ℕ) (rest : List ℕ) → drop q pattern ≡ x ∷ (replicate len c ++ rest) → 0 < len → c ≢ 0 → x ≢ c → BlockAt pattern q len c
plain_block pattern q x len c rest e h n o = record {
  has_cells = h;
  within = let k = at_least pattern q (suc len) (let l = ap length e in omega (arith, length-append (replicate len c) rest, length-replicate len c)) (omega arith) in omega arith;
  cells = λ t l. sym (get_or-drop q pattern (suc t) 0) ∙ (ap (λ xs. get_or xs (suc t) 0) e ∙ in_run len c t rest l);
  other = λ z. o (sym (ap (λ xs. get_or xs 0 0) e) ∙ (get_or-drop q pattern 0 0 ∙ (ap (λ k. get_or pattern k 0) (let i : q + 0 ≡ q = omega arith in i) ∙ z)));
  coloured = n;
}

drop_next : (pattern : List ℕ) (q x : ℕ) (rest : List ℕ) → drop q pattern ≡ x ∷ rest → drop (q + 1) pattern ≡ rest
drop_next pattern q x rest e = rw (← drop-drop, e) refl

gap_at : (pattern : List ℕ) (q x : ℕ) (rest : List ℕ) → drop q pattern ≡ x ∷ (0 ∷ rest) → GapAt pattern q
gap_at pattern q x rest e = record {
  within = let k = at_least pattern q 2 (let l = ap length e in omega arith) (omega arith) in omega arith;
  background = sym (get_or-drop q pattern 1 0) ∙ ap (λ xs. get_or xs 1 0) e;
}

-- the part of the pattern that block j adds: its gap, where it has one, and its cells
pub record PieceAt (pattern : List ℕ) (q : ℕ) (m : Bool) (len colour : ℕ) : Type 0 where
  pub block_is : BlockAt pattern (q + gap_before m) len colour
  pub gap_is : m ≡ true → GapAt pattern q

piece_at : (pattern : List ℕ) (q x len c : ℕ) (m : Bool) (rest : List ℕ) → drop q pattern ≡ x ∷ (gap m ++ (replicate len c ++ rest)) → 0 < len → c ≢ 0 → (m ≡ false → x ≢ c) → PieceAt pattern q m len c
piece_at pattern q x len c true rest e h n o = record {
  block_is = plain_block pattern (q + 1) 0 len c rest (drop_next pattern q x (0 ∷ (replicate len c ++ rest)) e) h n (λ z. n (sym z));
  gap_is = λ _. gap_at pattern q x (replicate len c ++ rest) e;
}
piece_at pattern q x len c false rest e h n o = record {
  block_is = plain_block pattern (q + 0) x len c rest (ap (λ k. drop k pattern) (let i : q + 0 ≡ q = omega arith in i) ∙ e) h n (o refl);
  gap_is = λ w. absurd (let z : ⊥ = cc in z);
}

pub piece_of : (bs : List Block) (j : ℕ) → IsClue bs → j < length bs → PieceAt (pattern_of bs) (state_behind 0 bs j) (meets 0 bs j) (block_at bs j).len (block_at bs j).colour
piece_of bs j c h =
    let b = block_at bs j in
    let x = colour_before 0 bs j in
    let f : IsBlock b = c j (block 0 0) h in
    let g = meets_is 0 bs j h in
    let e : drop (state_behind 0 bs j) (pattern_of bs) ≡ x ∷ spelled_after x (drop j bs) = behind 0 bs j c (omega arith) in
    let d = ap (λ l. x ∷ spelled_after x l) (drop_more bs j (block 0 0) h) in
    let k = ap (λ m. x ∷ (gap m ++ (replicate b.len b.colour ++ spelled_after b.colour (drop (j + 1) bs)))) (sym g) in
    piece_at (pattern_of bs) (state_behind 0 bs j) x b.len b.colour (meets 0 bs j) (spelled_after b.colour (drop (j + 1) bs)) (e ∙ (d ∙ k)) f.has_cells
    (λ z. let w = f.has_colour in absurd (omega arith)) (λ m z. eqb-false _ _ (sym g ∙ m) (sym z))

meets_past : (last : ℕ) (bs : List Block) (j : ℕ) → length bs ≤ j → meets last bs j ≡ false
meets_past last [] j h = refl
meets_past last (b ∷ bs) zero h = absurd (omega arith)
meets_past last (b ∷ bs) (suc j) h = meets_past b.colour bs j (omega arith)

-- after the last block the pattern is at its end
pub state_at_end : (bs : List Block) → IsClue bs → (state_before bs (length bs) ≡ state_behind 0 bs (length bs)) × (state_behind 0 bs (length bs) + 1 ≡ length (pattern_of bs))
state_at_end bs c =
    let x = colour_before 0 bs (length bs) in
    let q = state_behind 0 bs (length bs) in
    let e : drop q (pattern_of bs) ≡ x ∷ [] = behind 0 bs (length bs) c (omega arith) ∙ ap (λ l. x ∷ spelled_after x l) (drop-length bs) in
    let g : gap_before (meets 0 bs (length bs)) ≡ 0 = ap gap_before (meets_past 0 bs (length bs) (omega arith)) in
    let l = ap length e in
    let d = length-drop q (pattern_of bs) in
    (omega arith, omega arith)

-- ---- which states wait

pub waits_for_block : (pattern : List ℕ) (s len c : ℕ) → BlockAt pattern s len c → waits pattern s ≡ true
waits_for_block pattern s len c b =
    let e : get_or pattern (s + 1) 0 ≡ c = b.cells 0 b.has_cells in
    waits_before pattern s (λ z. b.coloured (sym e ∙ z)) (λ z. b.other (sym (sym e ∙ z)))

-- a state doesn't wait where the pattern goes on with background, or with the colour just spelled
no_wait : (l z e : Bool) → l ≡ false → (z || e) ≡ true → (l || (not z && not e)) ≡ false
no_wait l z e h i = grind (arith, nat_tests)

pub gap_waits_not : (pattern : List ℕ) (q : ℕ) → GapAt pattern q → waits pattern q ≡ false
gap_waits_not pattern q g = no_wait _ _ _ (lt-leb (length pattern) (q + 1) g.within) (or_left _ _ (eq-eqb _ _ g.background))

pub inside_waits_not : (pattern : List ℕ) (s len c t : ℕ) → BlockAt pattern s len c → suc t < len → waits pattern (s + suc t) ≡ false
inside_waits_not pattern s len c t b h =
    let l : s + suc t + 1 < length pattern = omega arith in
    let z : s + suc (suc t) ≡ s + suc t + 1 = omega arith in
    let e : get_or pattern (s + suc t + 1) 0 ≡ c = ap (λ n. get_or pattern n 0) (sym z) ∙ b.cells (suc t) h in
    let d : get_or pattern (s + suc t) 0 ≡ c = b.cells t (omega arith) in
    no_wait _ _ _ (lt-leb (length pattern) (s + suc t + 1) l) (or_right _ _ (eq-eqb _ _ (e ∙ sym d)))

-- ---- room for the blocks

piece_length : (m : Bool) (len c : ℕ) (rest : List ℕ) → len + length rest ≤ length (gap m ++ (replicate len c ++ rest))
piece_length m len c rest =
    let a = length-append (gap m) (replicate len c ++ rest) in
    let b = length-append (replicate len c) rest in
    let d = length-replicate len c in
    omega arith

pub blocks_spelled : (last : ℕ) (bs : List Block) → IsClue bs → length bs ≤ length (spelled_after last bs)
blocks_spelled last [] c = omega arith
blocks_spelled last (b ∷ bs) c =
    let f = first_is IsBlock b bs c in
    let i = blocks_spelled b.colour bs (rest_are IsBlock b bs c) in
    let l = piece_length (b.colour == last) b.len b.colour (spelled_after b.colour bs) in
    omega arith

pub no_room : (room : Bool) (m n : ℕ) → room ≡ false → (m ≤ n → room ≡ true) → n < m
no_room room m n e h = elim (cases_lt n m) [
  | inl l ↦ l
  | inr l ↦ absurd (false≢true (sym e ∙ h l))
]
