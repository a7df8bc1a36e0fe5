-- From the tables to what narrowing a line promises.
use Rattle.std.proofs.Common.{◌≡◌, ℕ, zero, suc, ◌+◌, ◌<◌, ◌≤◌, Bool, true, false, List, [], ◌∷◌, ◌++◌, replicate, ◌==◌, refl, sym, ap, subst, ◌∙◌, arith, ◌⊎◌, inl, inr, length, get_or, drop, take}
use Rattle.std.proofs.Common.{◌&&◌, ◌||◌, ne_eqb}
use Rattle.std.proofs.lemmas.Bool.Decides.{nat_tests}
use Rattle.std.specs.List.{All}
use Rattle.std.proofs.Math.ListN.{get_or-eq_default}
use Rattle.std.proofs.lemmas.List.{length-replicate, length-take, get_or-take, get_or_past}
use Rattle.std.proofs.lemmas.List.Elements.{All-append, All-cons, All-nil, All-replicate, All-get_or, All-from_get_or}
use Rattle.std.proofs.lemmas.Bool.{or_cases, or_left, or_right, cases_lt, cases_Bool, false≢true}
use Rattle.clues.specs.declared.block.Block.{Block}
use Rattle.clues.specs.Clue.{block, IsBlock, IsClue}
use Rattle.line_facts.specs.declared.line_engine.Outcome.TheVariants.{Narrowed, Dead}
use Rattle.line_facts.specs.Fits.{CanFit, CanHave}
use Rattle.line_facts.specs.NarrowedLine.{Narrows}
use Rattle.line_settle.specs.Patterns.{gap, spelled_after, pattern_of, allows, finishes, reaches, advances, rests, passes, passes_below}
use Rattle.line_facts.specs.BitSets.{has}
use Rattle.line_settle.specs.LaidBlocks.{AreSeen}
use Rattle.line_settle.proofs.PatternLemmas.{first_is, rest_are}
use Rattle.line_settle.proofs.BitLemmas.{allows_none}
use Rattle.line_facts.proofs.BitSetLaws.{has_none}
use Rattle.line_settle.proofs.TableLemmas.{Passing}
use Rattle.line_settle.proofs.FittingLemmas.{allows_bit, bit_allows, fit_finishes, finishes_fit, have_shown, shown_have, have_fits, too_long}
use Rattle.line_settle.specs.ClosedLines.{ClosedLinesHoldWhatTheyForce}

-- a pattern has no colours but its blocks' and the background
gap_below : (n : ℕ) → 0 < n → (is_gap : Bool) → All (λ c. c < n) (gap is_gap)
gap_below n h true = All-cons (λ c. c < n) 0 [] h (All-nil (λ c. c < n))
gap_below n h false = All-nil (λ c. c < n)

spelled_below : (n : ℕ) → 0 < n → (last : ℕ) (blocks : List Block) → All (λ b. b.colour < n) blocks → All (λ c. c < n) (spelled_after last blocks)
spelled_below n some last [] h = All-nil (λ c. c < n)
spelled_below n some last (b ∷ bs) h =
    let P : Block → Type 0 = λ x. x.colour < n in
    let f = first_is P b bs h in
    let r = spelled_below n some b.colour bs (rest_are P b bs h) in
    let g = gap (b.colour == last) in
    All-append (λ c. c < n) g (replicate b.len b.colour ++ spelled_after b.colour bs) (gap_below n some (b.colour == last))
    (All-append (λ c. c < n) (replicate b.len b.colour) (spelled_after b.colour bs) (All-replicate (λ c. c < n) b.len b.colour f) r)

pub pattern_below : (n : ℕ) → 0 < n → (blocks : List Block) → All (λ b. b.colour < n) blocks → All (λ c. c < n) (pattern_of blocks)
pattern_below n some blocks h = All-cons (λ c. c < n) 0 (spelled_after 0 blocks) some (spelled_below n some 0 blocks h)

blocks_below : (blocks : List Block) → IsClue blocks → All (λ b. b.colour < 16) blocks
blocks_below blocks h =
    let P : Block → Type 0 = λ b. b.colour < 16 in
    All-from_get_or P blocks (block 0 0) (λ i l. (All-get_or IsBlock blocks i (block 0 0) l h).in_palette)

pub pattern_colours : (blocks : List Block) → IsClue blocks → All (λ c. c < 16) (pattern_of blocks)
pattern_colours blocks h = pattern_below 16 (omega arith) blocks (blocks_below blocks h)

-- no line passes through a cell with a colour above those of its pattern
no_way : (b x y : Bool) → (b && ((x && false) || (y && false))) ≡ false
no_way b x y = grind (arith, nat_tests)

place_below : (pattern : List ℕ) (n q : ℕ) → 0 < n → All (λ c. c < n) pattern → get_or pattern q 0 < n
place_below pattern n q some h = elim (cases_lt q (length pattern)) [
  | inl l ↦ All-get_or (λ c. c < n) pattern q 0 l h
  | inr l ↦ let e = get_or-eq_default pattern 0 l in omega arith
]

passes_above : (pattern : List ℕ) (mask : ℕ) (f g : ℕ → Bool) (n q k : ℕ) → 0 < n → All (λ c. c < n) pattern → n ≤ k → passes pattern mask f g q k ≡ false
passes_above pattern mask f g n q k some h l =
    let first : (get_or pattern (q + 1) 0 == k) ≡ false = ne_eqb (get_or pattern (q + 1) 0) k (λ e. let c = place_below pattern n (q + 1) some h in absurd (omega arith)) in
    let rest : (0 == k) ≡ false = ne_eqb 0 k (λ e. absurd (omega arith)) in
    let a = advances pattern mask g q in
    let r = rests pattern mask g q in
    ap (λ x. f q && ((a && x) || (r && (0 == k)))) first ∙ (ap (λ x. f q && ((a && false) || (r && x))) rest ∙ no_way (f q) a r)

none_above : (pattern : List ℕ) (mask : ℕ) (f g : ℕ → Bool) (n m k : ℕ) → 0 < n → All (λ c. c < n) pattern → n ≤ k → passes_below pattern mask f g m k ≡ false
none_above pattern mask f g n zero k some h l = refl
none_above pattern mask f g n (suc m) k some h l =
    ap (λ x. x || passes pattern mask f g m k) (none_above pattern mask f g n m k some h l) ∙ passes_above pattern mask f g n m k some h l

-- so what is seen of the colours up to the highest one of the blocks is all
pub seen_in_full : (blocks : List Block) (left seen : List ℕ) (n : ℕ) → 0 < n → All (λ b. b.colour < n) blocks → AreSeen blocks left seen → AreSeen blocks left (take n seen)
seen_in_full blocks left seen n some h is i k l = elim (cases_lt k n) [
  | inl m ↦ ap (λ s. has s i) (get_or-take n seen k 0 m) ∙ is i k l
  | inr m ↦
      ap (λ s. has s i) (get_or_past (take n seen) k 0 (let e = length-take n seen in omega arith))
      ∙ (has_none i
      ∙ sym (none_above (pattern_of blocks) (get_or left i 0) (reaches (pattern_of blocks) left i) (finishes (pattern_of blocks) (drop (i + 1) left)) n (length (pattern_of blocks)) k some
      (pattern_below n some blocks h) m))
]

-- some state lets a line pass exactly where one below the pattern's length does
pub below_passing : (pattern : List ℕ) (mask : ℕ) (f g : ℕ → Bool) (n k : ℕ) → n ≤ length pattern → passes_below pattern mask f g n k ≡ true → Passing pattern mask f g k
below_passing pattern mask f g zero k h e = absurd (false≢true e)
below_passing pattern mask f g (suc n) k h e = elim (or_cases _ _ e) [
  | inl a ↦ below_passing pattern mask f g n k (omega arith) a
  | inr b ↦ record { state = n; within = omega arith; passes_there = b }
]

pub passing_below : (pattern : List ℕ) (mask : ℕ) (f g : ℕ → Bool) (n q k : ℕ) → q < n → passes pattern mask f g q k ≡ true → passes_below pattern mask f g n k ≡ true
passing_below pattern mask f g zero q k h e = absurd (omega arith)
passing_below pattern mask f g (suc n) q k h e = elim (cases_lt q n) [
  | inl l ↦ or_left _ _ (passing_below pattern mask f g n q k l e)
  | inr l ↦
      let i : q ≡ n = omega arith in
      or_right _ _ (ap (λ m. passes pattern mask f g m k) (sym i) ∙ e)
]

-- the colours that the tables give for each cell
abbrev pub Collected : List ℕ → List ℕ → List ℕ → Type 0
Collected pattern left out = (i k : ℕ) → i < length left
    → allows (get_or out i 0) k ≡ passes_below pattern (get_or left i 0) (reaches pattern left i) (finishes pattern (drop (i + 1) left)) (length pattern) k

past_end : (out : List ℕ) (i k : ℕ) → length out ≤ i → allows (get_or out i 0) k ≡ true → ⊥
past_end out i k h e = false≢true (sym (ap (λ m. allows m k) (get_or-eq_default out 0 h) ∙ allows_none k) ∙ e)

collected_have : (clue : List Block) (left out : List ℕ) → IsClue clue → length out ≡ length left → Collected (pattern_of clue) left out → (i k : ℕ) → allows (get_or out i 0) k ≡ true
    → CanHave clue left i k
collected_have clue left out b n c i k e = elim (cases_lt i (length left)) [
  | inl l ↦
      let pattern = pattern_of clue in
      let P : ℕ → Type 0 = λ m. Passing pattern (get_or left i 0) (reaches pattern left i) (finishes pattern (drop m left)) k in
      let p = below_passing pattern (get_or left i 0) (reaches pattern left i) (finishes pattern (drop (i + 1) left)) (length pattern) k (omega arith) (sym (c i k l) ∙ e) in
      let s : i + 1 ≡ suc i = omega arith in
      shown_have clue left i k b l (subst P s p)
  | inr l ↦ absurd (past_end out i k (omega arith) e)
]

have_collected : (clue : List Block) (left out : List ℕ) → IsClue clue → Collected (pattern_of clue) left out → (i k : ℕ) → CanHave clue left i k → allows (get_or out i 0) k ≡ true
have_collected clue left out b c i k h =
    let pattern = pattern_of clue in
    let P : ℕ → Type 0 = λ m. Passing pattern (get_or left i 0) (reaches pattern left i) (finishes pattern (drop m left)) k in
    let s : suc i ≡ i + 1 = omega arith in
    let p = subst P s (have_shown clue left i k b h) in
    c i k h.within ∙ passing_below pattern (get_or left i 0) (reaches pattern left i) (finishes pattern (drop (i + 1) left)) (length pattern) p.state k p.within p.passes_there

pub narrows_some : (clue : List Block) (left out : List ℕ) → IsClue clue → length out ≡ length left → finishes (pattern_of clue) left 0 ≡ true → Collected (pattern_of clue) left out
    → Narrows clue left Narrowed out
narrows_some clue left out b n f c = record {
  same_length = n;
  fits = ((λ _. finishes_fit clue left b f), (λ _. refl));
  exact = λ i k. ((λ s. collected_have clue left out b n c i k (bit_allows _ _ s)), (λ h. allows_bit _ _ (have_collected clue left out b c i k h)));
  empty = λ e. absurd (let z : ⊥ = cc in z);
}

pub zeros : (n i : ℕ) → get_or {A = ℕ} (replicate n 0) i 0 ≡ 0
zeros zero i = refl
zeros (suc n) zero = refl
zeros (suc n) (suc i) = zeros n i

-- a line that no list fits
pub narrows_dead : (clue : List Block) (left : List ℕ) → (CanFit clue left → ⊥) → Narrows clue left Dead (replicate (length left) 0)
narrows_dead clue left none = record {
  same_length = length-replicate (length left) 0;
  fits = ((λ e. absurd (let z : ⊥ = cc in z)), (λ h. absurd (none h)));
  exact = λ i k. ((λ s. absurd (false≢true (sym (allows_none k) ∙ (ap (λ m. allows m k) (sym (zeros (length left) i)) ∙ bit_allows _ _ s)))), (λ h. absurd (none (have_fits h))));
  empty = λ e. zeros (length left);
}

-- a pattern that is longer than the line and one cell
pub narrows_long : (clue : List Block) (left : List ℕ) → IsClue clue → length left + 1 < length (pattern_of clue) → Narrows clue left Dead (replicate (length left) 0)
narrows_long clue left b l = narrows_dead clue left (too_long clue left b l)

-- no line goes from the first state to the end
pub narrows_stuck : (clue : List Block) (left : List ℕ) → IsClue clue → finishes (pattern_of clue) left 0 ≡ false → Narrows clue left Dead (replicate (length left) 0)
narrows_stuck clue left b f = narrows_dead clue left (λ h. false≢true (sym f ∙ fit_finishes clue left b h))

pub written_colours : (clue : List Block) (written : List ℕ) → IsClue clue → written ≡ pattern_of clue → All (λ c. c < 16) written
written_colours clue written b e = let P : List ℕ → Type 0 = λ p. All (λ c. c < 16) p in subst P (sym e) (pattern_colours clue b)

-- whether a colour is in a cell of some list that fits can be decided
pub have_or_not : (clue : List Block) (left : List ℕ) (i k : ℕ) → IsClue clue → CanHave clue left i k ⊎ (CanHave clue left i k → ⊥)
have_or_not clue left i k b =
    let pattern = pattern_of clue in
    let f = reaches pattern left i in
    let g = finishes pattern (drop (suc i) left) in
    elim (cases_lt i (length left)) [
      | inr p ↦ inr (λ h. let w = h.within in absurd (omega arith))
      | inl l ↦ elim (cases_Bool (passes_below pattern (get_or left i 0) f g (length pattern) k)) [
        | inl t ↦ inl (shown_have clue left i k b l (below_passing pattern (get_or left i 0) f g (length pattern) k (omega arith) t))
        | inr n ↦ inr (λ h.
            let p = have_shown clue left i k b h in
            false≢true (sym n ∙ passing_below pattern (get_or left i 0) f g (length pattern) p.state k p.within p.passes_there))
      ]
    ]

-- a line is closed exactly where each exclusion that it forces is there
pub closed_lines : ClosedLinesHoldWhatTheyForce
closed_lines clue left b = (
  (λ closed i k f s. f (closed i k s)),
  (λ holds i k s. elim (have_or_not clue left i k b) [ inl h ↦ h | inr n ↦ absurd (holds i k n s) ]),
)
