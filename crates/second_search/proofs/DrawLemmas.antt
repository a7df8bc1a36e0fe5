-- How many lines are evaluated at most where facts are closed: each cell that is drawn on loses a colour.
use Rattle.std.proofs.Common.{◌≡◌, ◌==◌, ℕ, Bool, true, false, cond, eq-eqb, max, set, zero, suc, ◌+◌, ◌-◌, ◌⊎◌, ◌++◌, Option, None, Some, length-append, ◌*◌, ◌/◌, ◌^◌, ◌<◌, ◌≤◌, List, [], ◌∷◌}
use Rattle.std.proofs.Common.{length, get_or, refl, sym, ap, subst, ◌∙◌, arith, inl, inr}
use Rattle.std.specs.Prelude.{IsBitSet, count_ones}
use Rattle.std.specs.Int.{bit_at}
use Rattle.std.specs.Int.Count.{ones_step}
use Rattle.std.proofs.lemmas.Bool.{cases_eq}
use Rattle.std.proofs.lemmas.List.{length-map}
use Rattle.std.proofs.lemmas.Nat.{ones-le, ones_le_self}
use Rattle.std.proofs.lemmas.Nat.Bits.{bit_at-lt, bit_at-suc, bit_at_lowest}
use Rattle.std.proofs.Math.Nat.{mul_assoc, mul_comm, mul-le-mul_right, pow-suc}
use Rattle.line_facts.specs.Masks.{Masks}
use Rattle.picture.proofs.BitLaws.{bit_is_set, bit_or_not, unset, fewer_le, fewer_ones_of, no_bit, same_bits, set_bit}
use Rattle.picture.specs.declared.line_id.Axis.TheVariants.{Across, Down}
use Rattle.picture.specs.declared.line_id.LineId.{LineId}
use Rattle.picture.specs.LineSet.{Lines, name_count}
use Rattle.picture.specs.Rows.{width_of, row_at, cell_at, with_cell, line_of, HasLine, Rows}
use Rattle.clues.specs.ClueBook.{Clues}
use Rattle.line_facts.specs.declared.line_engine.Outcome.{Outcome}
use Rattle.line_facts.specs.declared.meter.Meter.{Meter}
use Rattle.line_facts.specs.FactSets.{IsFacts, IsWithin, Leaves, SameShape, row_on, col_on}
use Rattle.line_facts.proofs.AlongLaws.{place_on, written_apart}
use Rattle.line_facts.proofs.ForceLaws.{gains_grows}
use Rattle.line_facts.proofs.GridLaws.{cell_on, same_has_line, same_line_length, shape_sym, shape_trans, shape_with_cell}
use Rattle.fixpoint.specs.ClosedFacts.{Draws, Works, change, changes}
use Rattle.fixpoint.proofs.ClosingLaws.{within_refl, within_trans}
use Rattle.fixpoint.specs.LineNames.{AreLinesOf}
use Rattle.trail.proofs.GridLemmas.{set_each}
use Rattle.line_facts.specs.Branches.{branches, colours_of}
use Rattle.trail.specs.Trail.{Trailed}
use Rattle.second_search.specs.declared.counting.Budget.{Budget}
use Rattle.second_search.specs.SearchSteps.{IsOneLess, Steps}
use Rattle.second_search.specs.Weights.{total}
use Rattle.second_search.specs.Evaluations.{AreFew, most_to_close, most_to_search}
use Rattle.second_search.proofs.WeightLemmas.{few_colours, total_le, total_set}

-- ---- masks

unchanged : (a b : ℕ) → a ≡ b → change a b ≡ 0
unchanged a b e = let P : Bool → ℕ = λ t. cond t 0 1 in ap P (eq-eqb a b e)

changed_once : (a b : ℕ) → change a b ≤ 1
changed_once a b = by (a == b)
  where
    by : (t : Bool) → cond t 0 1 ≤ 1
    by true = omega arith
    by false = omega arith

below_half : (a b : ℕ) → ((k : ℕ) → IsBitSet b k → IsBitSet a k) → (k : ℕ) → IsBitSet (b / 2) k → IsBitSet (a / 2) k
below_half a b h k s = bit_is_set (a / 2) k (sym (bit_at-suc a k) ∙ set_bit a (suc k) (h (suc k) (bit_is_set b (suc k) (bit_at-suc b k ∙ set_bit (b / 2) k s))))

low_bits : (a b : ℕ) → ((k : ℕ) → IsBitSet b k → IsBitSet a k) → bit_at b 0 ≤ bit_at a 0
low_bits a b h = elim (bit_or_not b 0) [
  | inl s ↦ omega (arith, bit_at-lt b 0, set_bit a 0 (h 0 s))
  | inr n ↦ omega (arith, unset b 0 n)
]

-- a proper subset of a mask has fewer colours
fewer_colours : (width a b : ℕ) → a < 2 ^ width → ((k : ℕ) → IsBitSet b k → IsBitSet a k) → (a ≡ b → ⊥) → count_ones b + 1 ≤ count_ones a
fewer_colours zero a b l h d = let le = fewer_le b a h in absurd (d (omega arith))
fewer_colours (suc width) a b l h d =
    let low = low_bits a b h in
    elim (cases_eq (a / 2) (b / 2)) [
      | inl e ↦ omega (arith, ap count_ones e, ones_step a, ones_step b, bit_at_lowest a, bit_at_lowest b, low, (λ (x : a ≡ b). d x))
      | inr n ↦
          let rest = fewer_colours width (a / 2) (b / 2) (omega (arith, pow-suc 2 width)) (below_half a b h) n in
          omega (arith, ones_step a, ones_step b, bit_at_lowest a, bit_at_lowest b, rest, low)
    ]

-- a mask that changes loses a colour
colour_lost : (a b : ℕ) → a < 2 ^ 16 → ((k : ℕ) → IsBitSet b k → IsBitSet a k) → count_ones b + change a b ≤ count_ones a
colour_lost a b l h = elim (cases_eq a b) [
  | inl e ↦ omega (arith, ap count_ones e, unchanged a b e)
  | inr d ↦ omega (arith, changed_once a b, fewer_colours 16 a b l h d)
]

-- a mask with all its bits below n has at most n of them
few_below : (n mask : ℕ) → ((k : ℕ) → IsBitSet mask k → k < n) → count_ones mask ≤ n
few_below zero mask h =
    let none : mask ≡ 0 = same_bits mask 0 (λ k. ((λ s. let l = h k s in absurd (omega arith)), (λ s. absurd (no_bit k s)))) in
    omega (arith, ap count_ones none, ones_le_self 0)
few_below (suc n) mask h =
    let half = few_below n (mask / 2) (λ k s. (let l = h (suc k) (bit_is_set mask (suc k) (bit_at-suc mask k ∙ set_bit (mask / 2) k s)) in omega arith)) in
    omega (arith, ones_step mask, bit_at_lowest mask, half, bit_at-lt mask 0)

pub few_lines : (facts : Masks) (lines : Lines) → AreLinesOf facts lines → name_count lines ≤ length facts + width_of facts
few_lines facts lines of =
    let rows = few_below (length facts) lines.rows (λ k s. of (record { axis = Across; at = k }) s) in
    let columns = few_below (width_of facts) lines.columns (λ k s. of (record { axis = Down; at = k }) s) in
    omega arith

-- ---- the colours left in all cells

row_colours : List ℕ → ℕ
row_colours row = total count_ones row

colours : Masks → ℕ
colours facts = total row_colours facts

total_most : {X : Type 0} (f : X → ℕ) (d : X) (most : ℕ) (xs : List X) → ((i : ℕ) → i < length xs → f (get_or xs i d) ≤ most) → total f xs ≤ length xs * most
total_most f d most [] h = omega arith
total_most f d most (x ∷ xs) h =
    let first = h 0 (omega arith) in
    let rest = total_most f d most xs (λ i l. h (suc i) (omega arith)) in
    omega arith

most_colours : (facts : Masks) → IsFacts facts → colours facts ≤ length facts * (width_of facts * 16)
unfolding colours row_colours
most_colours facts is = total_most row_colours [] (width_of facts * 16) facts (λ i l.
    (let each = total_most count_ones 0 16 (row_at facts i) (λ j m. ones-le 16 (cell_at facts i j) (is.masks i j)) in
    let wide = ap (λ (n : ℕ). n * 16) (is.rectangular i l) in
    omega arith))

fewer_left : (few many : Masks) → IsWithin few many → colours many ≤ colours few
unfolding colours row_colours
fewer_left few many w = total_le row_colours [] many few (sym w.same_shape.rows)
    (λ i. total_le count_ones 0 (row_at many i) (row_at few i) (sym (w.same_shape.each i)) (λ j. fewer_ones_of (cell_at few i j) (cell_at many i j) (λ k s. w.leaves i j k s)))

colours_with_cell : (facts : Masks) (i j x : ℕ) → i < length facts → j < length (row_at facts i) → colours (with_cell facts i j x) + count_ones (cell_at facts i j) ≡ colours facts + count_ones x
unfolding colours row_colours
colours_with_cell facts i j x h l =
    let rows = total_set row_colours facts i (set (row_at facts i) j x) [] h in
    let cells = total_set count_ones (row_at facts i) j x 0 l in
    omega arith

-- ---- the cells drawn on along a line

same_changes : (a b c : List ℕ) (n : ℕ) → ((i : ℕ) → i < n → get_or a i 0 ≡ get_or b i 0) → changes a c n ≡ changes b c n
same_changes a b c zero h = refl
same_changes a b c (suc n) h =
    let rest = same_changes a b c n (λ i l. h i (omega arith)) in
    let here = ap (λ (x : ℕ). change x (get_or c n 0)) (h n (omega arith)) in
    omega arith

facts_within : (few many : Masks) → IsFacts few → IsWithin few many → IsFacts many
facts_within few many is w =
    let shape = w.same_shape in
    let wide = shape.each 0 in
    record {
      has_row = (let h = is.has_row in let e = shape.rows in omega arith);
      rows_fit = (let h = is.rows_fit in let e = shape.rows in omega arith);
      has_column = (let h = is.has_column in omega arith);
      columns_fit = (let h = is.columns_fit in omega arith);
      rectangular = λ i l. (let e = shape.rows in let r = is.rectangular i (omega arith) in let s = shape.each i in omega arith);
      masks = λ i j. (let m = is.masks i j in let le = fewer_le (cell_at many i j) (cell_at few i j) (λ k. w.leaves i j k) in omega arith);
    }

drawn_along : (line : LineId) (n : ℕ) (old new : List (List ℕ)) → IsFacts old → HasLine old line → IsWithin old new → n ≤ length (line_of old line)
    → changes (line_of old line) (line_of new line) n + colours new ≤ colours old
drawn_along line zero old new is h w l = let all = fewer_left old new w in omega arith
drawn_along line (suc n) old new is h w l =
    let r = row_on line.axis line.at n in
    let c = col_on line.axis line.at n in
    let x = cell_at new r c in
    let p = place_on old line n is h (omega arith) in
    let wide = is.rectangular r p.0 in
    let inside : c < length (row_at old r) = omega arith in
    let next = with_cell old r c x in
    let shape = shape_with_cell old r c x in
    let first : IsWithin old next = record { same_shape = shape; leaves = λ i j k. set_each old r c x p.0 inside (λ i j y. IsBitSet y k → Leaves old i j k) (w.leaves r c k) (λ i j off s. s) i j } in
    let then : IsWithin next new = record {
      same_shape = shape_trans (shape_sym shape) w.same_shape;
      leaves = λ i j k. set_each old r c x p.0 inside (λ i j y. Leaves new i j k → IsBitSet y k) (λ s. s) (λ i j off. w.leaves i j k) i j;
    } in
    let long = same_line_length old next line shape in
    let rest = drawn_along line n next new (facts_within old next is first) (same_has_line old next line shape h) then (omega arith) in
    let same = same_changes (line_of old line) (line_of next line) (line_of new line) n (λ i m. sym (written_apart old line n i x (λ e. absurd (omega arith)))) in
    let one = colours_with_cell old r c x p.0 inside in
    let lost = colour_lost (cell_at old r c) x (is.masks r c) (w.leaves r c) in
    let before = ap (λ (m : ℕ). change m (get_or (line_of new line) n 0)) (cell_on old line n) in
    let after = ap (change (cell_at old r c)) (cell_on new line n) in
    omega arith

-- ---- facts closed

draws_few : (clues : Clues) (n cells : ℕ) (old new : List (List ℕ)) → IsFacts old → Draws clues old new n cells → (cells + colours new ≤ colours old) × IsWithin old new
draws_few clues zero cells old new is d =
    let same = ap colours d.0 in
    let none = d.1 in
    (omega arith, subst (IsWithin old) d.0 (within_refl old))
draws_few clues (suc n) cells old new is d =
    let between = d.0 in
    let before = draws_few clues n d.1.0 old between is d.1.1.1.0 in
    let last = d.1.1.1.1.0 in
    let grown = gains_grows _ last.line between new last.outcome last.gains in
    let along = drawn_along last.line (length (line_of between last.line)) between new (facts_within old between is before.1) last.has grown (omega arith) in
    let few = before.0 in
    let drawn = last.draws in
    let sum = d.1.1.1.1.1 in
    (omega arith, within_trans old between new before.1 grown)

pub closing_few : (clues : Clues) (facts : Masks) (new : List (List ℕ)) (dirty : Lines) (outcome : Outcome) (m0 m1 : Meter) (p q : ℕ) → IsFacts facts → AreLinesOf facts dirty
    → Works clues dirty facts new outcome m0 m1 p q → q ≤ p + most_to_close facts
unfolding most_to_close
closing_few clues facts new dirty outcome m0 m1 p q is of w =
    let lines = few_lines facts dirty of in
    let drawn = (draws_few clues w.evaluations w.cells facts new is w.draws).0 in
    let all = most_colours facts is in
    let same : length facts * (width_of facts * 16) ≡ 16 * (length facts * width_of facts) = sym (mul_assoc (length facts) (width_of facts) 16) ∙ mul_comm (length facts * width_of facts) 16 in
    let calls = w.counts.calls in
    let most = w.at_most in
    omega arith

-- ---- a search under an allowance

pub same_most : (a b : List (List ℕ)) → SameShape a b → most_to_close a ≡ most_to_close b
unfolding most_to_close
same_most a b s = ap (λ (h : ℕ). h + width_of a + 16 * (h * width_of a)) s.rows ∙ ap (λ (w : ℕ). length b + w + 16 * (length b * w)) (s.each 0)

-- how often facts were closed: with the facts that wait, and 16 for each split that is left, this stays within the allowance
abbrev pub AreLooks : Option ℕ → Masks → ℕ → Option ℕ → ℕ → ℕ → Type 0
AreLooks None first waiting left p q = Unit {0}
AreLooks (Some most) first waiting left p q =
    (looks : ℕ) × ((rest : ℕ) × ((left ≡ Some rest) × ((looks + waiting + 16 * rest ≤ 1 + 16 * most) × (q ≤ p + looks * most_to_close first))))

pub looks_start : (allowance : Option ℕ) (first : Masks) (p : ℕ) → AreLooks allowance first 1 allowance p p
looks_start None first p = tt
looks_start (Some most) first p = (0, (most, (refl, ((omega arith), (omega arith)))))

-- a look takes one of the facts that wait, and puts at most sixteen in its place where it spends a split and the search goes on
looks_more : (allowance left rest : Option ℕ) (first : Masks) (waiting new p q r : ℕ) → AreLooks allowance first (suc waiting) left p q → r ≤ q + most_to_close first
    → ((rest ≡ left) × (new ≡ waiting)) ⊎ (IsOneLess left rest × (new ≤ 16 + waiting)) → AreLooks allowance first new rest p r
looks_more None left rest first waiting new p q r a l h = tt
looks_more (Some most) left rest first waiting new p q r (looks, (m, (e, (few, calls)))) l (inl h) =
    (suc looks, (m, (h.0 ∙ e, ((let same = h.1 in omega arith), (omega arith)))))
looks_more (Some most) left rest first waiting new p q r (looks, (m, (e, (few, calls)))) l (inr h) =
    let less : IsOneLess (Some m) rest = subst (λ (x : Option ℕ). IsOneLess x rest) e h.0 in
    let gone = less.1.0 in
    let count = h.1 in
    (suc looks, (less.0, (less.1.1, ((omega arith), (omega arith)))))

pub looks_go : (clues : Clues) (known : Rows) (allowance : Option ℕ) (first : Masks) (s t : Trailed) (before after : Budget) (p q r : ℕ) → AreLooks allowance first
    (suc (length s.behind)) before.left p q → r ≤ q + most_to_close first → Steps clues known s t before after None → AreLooks allowance first (length t.behind) after.left p r
looks_go clues known allowance first s t before after p q r a l (inl h) =
    looks_more allowance before.left after.left first (length s.behind) (length t.behind) p q r a l (inl (ap (λ (x : Budget). x.left) h.1.1, ap (λ (x : Trailed). length x.behind) h.1.0))
looks_go clues known allowance first s t before after p q r a l (inr h) =
    let mask = cell_at h.0.settled h.0.cell.row h.0.cell.col in
    let front = branches h.0.settled h.0.cell.row h.0.cell.col mask in
    let e : length t.behind ≡ length (front ++ s.behind) = ap (λ (x : Trailed). length x.behind) h.0.new_is in
    let both = length-append front s.behind in
    let each = length-map (colours_of mask) (λ (k : ℕ). with_cell h.0.settled h.0.cell.row h.0.cell.col (2 ^ k)) in
    let few = few_colours mask in
    looks_more allowance before.left after.left first (length s.behind) (length t.behind) p q r a l (inr (h.1.0, (omega arith)))

-- however the search ends, it took no more evaluations than its allowance bounds
pub looks_last : (allowance left : Option ℕ) (first : Masks) (waiting p q r : ℕ) → AreLooks allowance first (suc waiting) left p q → r ≤ q + most_to_close first → AreFew allowance first 1 (r - p)
unfolding most_to_search
looks_last None left first waiting p q r a l = tt
looks_last (Some most) left first waiting p q r (looks, (m, (e, (few, calls)))) l =
    let fits : suc looks ≤ 1 + 16 * most = omega arith in
    let all = mul-le-mul_right (most_to_close first) fits in
    omega arith

-- ---- a part, and parts one after the other

pub few_alike : (allowance : Option ℕ) (a b : List (List ℕ)) (parts n : ℕ) → SameShape a b → AreFew allowance b parts n → AreFew allowance a parts n
unfolding most_to_search
few_alike None a b parts n s f = tt
few_alike (Some most) a b parts n s f = rw (same_most a b s) f

-- a search counts at least one evaluation
pub few_once : (allowance : Option ℕ) (facts : Masks) (n counted : ℕ) → 0 < length facts → AreFew allowance facts 1 n → counted ≡ max n 1 → AreFew allowance facts 1 counted
unfolding most_to_search most_to_close
few_once None facts n counted h f e = tt
few_once (Some most) facts n counted h f e =
    let lines = length facts + width_of facts + 16 * (length facts * width_of facts) in
    let some : 1 * lines ≤ (1 + 16 * most) * lines = mul-le-mul_right lines (let l : 1 ≤ 1 + 16 * most = omega arith in l) in
    omega arith

pub few_none : (allowance : Option ℕ) (facts : Masks) (parts : ℕ) → AreFew allowance facts parts 0
few_none None facts parts = tt
few_none (Some most) facts parts = omega arith

pub few_then : (allowance : Option ℕ) (facts : Masks) (i parts m n both : ℕ) → AreFew allowance facts i m → AreFew allowance facts 1 n → both ≤ m + n → i < parts → AreFew allowance facts parts both
few_then None facts i parts m n both a b l h = tt
few_then (Some most) facts i parts m n both a b l h =
    let all : suc i * most_to_search facts most ≤ parts * most_to_search facts most = mul-le-mul_right (most_to_search facts most) (let x : suc i ≤ parts = omega arith in x) in
    omega arith

pub few_parts : (allowance : Option ℕ) (facts : Masks) (i parts m n : ℕ) → AreFew allowance facts i m → n ≤ m → i ≤ parts → AreFew allowance facts parts n
few_parts None facts i parts m n a l h = tt
few_parts (Some most) facts i parts m n a l h =
    let all : i * most_to_search facts most ≤ parts * most_to_search facts most = mul-le-mul_right (most_to_search facts most) h in
    omega arith
