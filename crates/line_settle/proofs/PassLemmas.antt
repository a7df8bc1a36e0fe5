-- What is seen from the front: the cells with which a line goes on from its first position to its end.
use Rattle.std.proofs.Common.{◌≡◌, ℕ, zero, suc, ◌+◌, ◌-◌, ◌/◌, ◌<◌, ◌≤◌, Bool, true, false, List, ◌==◌, ◌&&◌, ◌||◌, nat_lt, bit_and, bit_or, replicate, refl, sym, ap, subst, ◌∙◌, arith, inl, inr}
use Rattle.std.proofs.Common.{ne_eqb, length, get_or, drop}
use Rattle.std.proofs.lemmas.Bool.Decides.{nat_tests}
use Rattle.std.proofs.Math.Bool.{and-false, or_self}
use Rattle.std.proofs.lemmas.Bool.{cases_lt, lt-ltb, le-ltb}
use Rattle.clues.specs.declared.block.Block.{Block}
use Rattle.clues.specs.Clue.{IsClue}
use Rattle.line_settle.specs.Patterns.{pattern_of, allows, waits, advances, rests, finishes, reaches, passes, passes_below}
use Rattle.line_facts.specs.BitSets.{has}
use Rattle.line_settle.specs.Positions.{IsCellsWith}
use Rattle.line_settle.specs.LaidBlocks.{moved, covers, meets, gap_before, state_behind, IsAllowed, IsBack, IsStart, AreMarked, AreSeen}
use Rattle.line_settle.proofs.PositionLemmas.{has_and, has_down, has_one}
use Rattle.line_facts.proofs.BitSetLaws.{has_or, has_none}
use Rattle.line_settle.proofs.StateLemmas.{waits_at_end}
use Rattle.line_settle.proofs.NarrowLemmas.{zeros}
use Rattle.line_settle.proofs.BlockLemmas.{BlockAt, GapAt, PieceAt, block_at, piece_of, state_next, state_at_end, gap_waits_not, inside_waits_not, waits_for_block}
use Rattle.line_settle.proofs.MarkLemmas.{finish_on, none_left, step_back}

-- ---- entering a state

-- the first i cells enter state q by their last cell, or q is the first state and there is no cell
abbrev pub enters : List ℕ → List ℕ → ℕ → ℕ → Bool
enters pattern masks zero q = q == 0
enters pattern masks (suc i) q = nat_lt 0 q && (allows (get_or masks i 0) (get_or pattern q 0) && reaches pattern masks i (q - 1))

-- a set has the positions at which a line enters state q and from which it can go to its end
abbrev pub IsEntry : List ℕ → List ℕ → ℕ → ℕ → Type 0
IsEntry pattern left q from = (i : ℕ) → i ≤ length left → has from i ≡ (enters pattern left i q && finishes pattern (drop i left) q)

alone : (x w r : Bool) → w ≡ false → (x || (w && r)) ≡ x
alone x w r h = grind (arith, nat_tests)

-- a state that doesn't wait is reached only by entering it
reaches_enters : (pattern left : List ℕ) (i q : ℕ) → waits pattern q ≡ false → reaches pattern left i q ≡ enters pattern left i q
reaches_enters pattern left zero q h = refl
reaches_enters pattern left (suc i) q h = alone (enters pattern left (suc i) q) (waits pattern q) (allows (get_or left i 0) 0 && reaches pattern left i q) h

one_less : (q n : ℕ) → q ≡ n + 1 → q - 1 ≡ n
one_less q n e = omega arith

-- entering a state by a cell
enters_next : (pattern left : List ℕ) (i q n k : ℕ) → q ≡ n + 1 → get_or pattern q 0 ≡ k → enters pattern left (suc i) q ≡ (allows (get_or left i 0) k && reaches pattern left i n)
enters_next pattern left i q n k e c =
    ap (λ t. t && (allows (get_or left i 0) (get_or pattern q 0) && reaches pattern left i (q - 1))) (lt-ltb 0 q (omega arith))
    ∙ (ap (λ x. allows (get_or left i 0) x && reaches pattern left i (q - 1)) c
    ∙ ap (λ m. allows (get_or left i 0) k && reaches pattern left i m) (one_less q n e))

enters_not : (pattern left : List ℕ) (q : ℕ) (f : Bool) → 0 < q → (enters pattern left 0 q && f) ≡ false
enters_not pattern left q f h = ap (λ x. x && f) (ne_eqb q 0 (λ z. absurd (omega arith)))

pub first_entry : (pattern left : List ℕ) → finishes pattern left 0 ≡ true → IsEntry pattern left 0 1
first_entry pattern left f zero h = has_one 0 ∙ (let z : true ≡ (true && finishes pattern left 0) = sym f in z)
first_entry pattern left f (suc i) h = has_one (suc i) ∙ ne_eqb (suc i) 0 (λ z. absurd (omega arith))

-- ---- over a gap

over : (a e f : Bool) → (a && (e && (a && f))) ≡ ((a && e) && f)
over a e f = grind (arith, nat_tests)

pub gap_entry : (pattern left : List ℕ) (q background from here : ℕ) → GapAt pattern q → IsCellsWith left 0 background → IsEntry pattern left q from → has here 0 ≡ false
    → ((i : ℕ) → i < length left → has here (i + 1) ≡ (has background i && has from i)) → IsEntry pattern left (q + 1) here
gap_entry pattern left q background from here g is before first next zero h = first ∙ sym (enters_not pattern left (q + 1) (finishes pattern left (q + 1)) (omega arith))
gap_entry pattern left q background from here g is before first next (suc i) h =
    let z : suc i ≡ i + 1 = omega arith in
    let a = allows (get_or left i 0) 0 in
    let e = enters pattern left i q in
    let f = finishes pattern (drop (i + 1) left) (q + 1) in
    let back = step_back pattern left q i g.within (gap_waits_not pattern q g) (omega arith) ∙ ap (λ k. allows (get_or left i 0) k && f) g.background in
    ap (λ n. has here n) z
    ∙ (next i (omega arith)
    ∙ (ap (λ x. x && has from i) (is i (omega arith))
    ∙ (ap (λ x. a && x) (before i (omega arith) ∙ ap (λ x. e && x) back)
    ∙ (over a e f
    ∙ sym (ap (λ x. x && finishes pattern (drop (suc i) left) (q + 1))
    (enters_next pattern left i (q + 1) q 0 refl g.background ∙ ap (λ x. a && x) (reaches_enters pattern left i q (gap_waits_not pattern q g)))
    ∙ ap (λ n. (a && e) && finishes pattern (drop n left) (q + 1)) z)))))

-- ---- waiting

-- where the line can go to its end, a set has what is reached
abbrev pub IsReached : List ℕ → List ℕ → ℕ → ℕ → Type 0
IsReached pattern left s here = (i : ℕ) → i ≤ length left → (has here i && finishes pattern (drop i left) s) ≡ (reaches pattern left i s && finishes pattern (drop i left) s)

twice : (e f : Bool) → ((e && f) && f) ≡ (e && f)
twice e f = grind (arith, nat_tests)

waited : (e f a h r x g w : Bool) → w ≡ true → g ≡ (x || (w && (a && f))) → (h && g) ≡ (r && g) → (((e && f) || (a && h)) && f) ≡ ((e || (w && (a && r))) && f)
waited e f a h r x g w i j k = grind (arith, nat_tests)

pub wait_reached : (pattern left : List ℕ) (s background from here : ℕ) → waits pattern s ≡ true → IsCellsWith left 0 background → IsEntry pattern left s from → has here 0 ≡ has from 0
    → ((i : ℕ) → i < length left → has here (i + 1) ≡ (has from (i + 1) || (has background i && has here i))) → IsReached pattern left s here
wait_reached pattern left s background from here w is before first next zero h =
    let f = finishes pattern left s in
    ap (λ x. x && f) (first ∙ before 0 (omega arith)) ∙ twice (s == 0) f
wait_reached pattern left s background from here w is before first next (suc i) h =
    let z : suc i ≡ i + 1 = omega arith in
    let e = enters pattern left (suc i) s in
    let f = finishes pattern (drop (suc i) left) s in
    let a = allows (get_or left i 0) 0 in
    let x = advances pattern (get_or left i 0) (finishes pattern (drop (i + 1) left)) s in
    let back = finish_on pattern left s i (omega arith) ∙ ap (λ n. x || (waits pattern s && (a && finishes pattern (drop n left) s))) (sym z) in
    let here_is = ap (λ n. has here n) z ∙ (next i (omega arith) ∙ (ap (λ n. has from n || (has background i && has here i)) (sym z)
    ∙ (ap (λ y. y || (has background i && has here i)) (before (suc i) h) ∙ ap (λ y. (e && f) || (y && has here i)) (is i (omega arith))))) in
    ap (λ y. y && f) here_is
    ∙ waited e f a (has here i) (reaches pattern left i s) x (finishes pattern (drop i left) s) (waits pattern s) w back
    (wait_reached pattern left s background from here w is before first next i (omega arith))

-- ---- laying a block

-- a set has the positions that are reached in a waiting state and from which the block can be laid
abbrev pub IsLaid : List ℕ → List ℕ → ℕ → ℕ → Type 0
IsLaid pattern left s laid = (i : ℕ) → i ≤ length left → has laid i ≡ (reaches pattern left i s && advances pattern (get_or left i 0) (finishes pattern (drop (i + 1) left)) s)

started : (h r s g x : Bool) → g ≡ (s || x) → (h && g) ≡ (r && g) → (h && s) ≡ (r && s)
started h r s g x i j = grind (arith, nat_tests)

no_advance : (pattern left : List ℕ) (s i : ℕ) → length left ≤ i → advances pattern (get_or left i 0) (finishes pattern (drop (i + 1) left)) s ≡ false
no_advance pattern left s i h =
    ap (λ x. nat_lt (s + 1) (length pattern) && (x && finishes pattern (drop (i + 1) left) (s + 1))) (none_left left i (get_or pattern (s + 1) 0) h)
    ∙ and-false (nat_lt (s + 1) (length pattern))

same_nothing : (h r s : Bool) → s ≡ false → (h && s) ≡ (r && s)
same_nothing h r s i = grind (arith, nat_tests)

pub laid_at : (pattern left : List ℕ) (s here starts laid : ℕ) → IsReached pattern left s here → IsStart pattern left s starts → ((i : ℕ) → has laid i ≡ (has here i && has starts i))
    → IsLaid pattern left s laid
laid_at pattern left s here starts laid reached begins is i h =
    let a = advances pattern (get_or left i 0) (finishes pattern (drop (i + 1) left)) s in
    let r = rests pattern (get_or left i 0) (finishes pattern (drop (i + 1) left)) s in
    is i
    ∙ (ap (λ x. has here i && x) (begins i h)
    ∙ elim (cases_lt i (length left)) [
      | inl l ↦ started (has here i) (reaches pattern left i s) a (finishes pattern (drop i left) s) r (finish_on pattern left s i l) (reached i h)
      | inr l ↦ same_nothing (has here i) (reaches pattern left i s) a (no_advance pattern left s i l)
    ])

moved_one : (r l a f : Bool) → l ≡ true → (r && (l && (a && f))) ≡ ((a && r) && f)
moved_one r l a f h = grind (arith, nat_tests)

-- after each cell of the block the line enters the state after that cell
block_entries : (pattern left : List ℕ) (s len c laid : ℕ) → BlockAt pattern s len c → IsLaid pattern left s laid → (t : ℕ) → t < len → (i : ℕ) → i ≤ length left
    → moved laid (suc t) i ≡ (enters pattern left i (s + suc t) && finishes pattern (drop i left) (s + suc t))
block_entries pattern left s len c laid b is t l zero h = sym (enters_not pattern left (s + suc t) (finishes pattern left (s + suc t)) (omega arith))
block_entries pattern left s len c laid b is zero l (suc i) h =
    let w = b.within in
    let z : suc i ≡ i + 1 = omega arith in
    let k = get_or pattern (s + 1) 0 in
    let f = finishes pattern (drop (i + 1) left) (s + 1) in
    is i (omega arith)
    ∙ (moved_one (reaches pattern left i s) (nat_lt (s + 1) (length pattern)) (allows (get_or left i 0) k) f (lt-ltb (s + 1) (length pattern) (omega arith))
    ∙ (ap (λ n. (allows (get_or left i 0) k && reaches pattern left i s) && finishes pattern (drop n left) (s + 1)) (sym z)
    ∙ ap (λ x. x && finishes pattern (drop (suc i) left) (s + 1)) (sym (enters_next pattern left i (s + 1) s k refl refl))))
block_entries pattern left s len c laid b is (suc t) l (suc i) h =
    let w = b.within in
    let z : suc i ≡ i + 1 = omega arith in
    let q = s + suc t in
    let y : s + suc (suc t) ≡ q + 1 = omega arith in
    let k = get_or pattern (q + 1) 0 in
    let a = allows (get_or left i 0) k in
    let e = enters pattern left i q in
    let f = finishes pattern (drop (i + 1) left) (q + 1) in
    let inside = inside_waits_not pattern s len c t b l in
    block_entries pattern left s len c laid b is t (omega arith) i (omega arith)
    ∙ (ap (λ x. e && x) (step_back pattern left q i (omega arith) inside (omega arith))
    ∙ (onward e a f
    ∙ (ap (λ x. (a && x) && f) (sym (reaches_enters pattern left i q inside))
    ∙ (ap (λ x. x && f) (sym (enters_next pattern left i (q + 1) q k refl refl))
    ∙ (ap (λ n. enters pattern left (suc i) (q + 1) && finishes pattern (drop n left) (q + 1)) (sym z)
    ∙ ap (λ r. enters pattern left (suc i) r && finishes pattern (drop (suc i) left) r) (sym y))))))
  where
    onward : (e a f : Bool) → (e && (a && f)) ≡ ((a && e) && f)
    onward e a f = grind (arith, nat_tests)

pub block_entry : (pattern left : List ℕ) (s len c laid ends : ℕ) → BlockAt pattern s len c → IsLaid pattern left s laid → ((i : ℕ) → i ≤ length left → has ends i ≡ moved laid len i)
    → IsEntry pattern left (s + len) ends
block_entry pattern left s len c laid ends b is e i h =
    let z : len ≡ suc (len - 1) = omega arith in
    let y : s + suc (len - 1) ≡ s + len = omega arith in
    e i (omega arith)
    ∙ (ap (λ n. moved laid n i) z
    ∙ (block_entries pattern left s len c laid b is (len - 1) (omega arith) i h
    ∙ ap (λ q. enters pattern left i q && finishes pattern (drop i left) q) y))

-- ---- the cells of each state

abbrev pub Passes : List ℕ → List ℕ → ℕ → ℕ → ℕ → Bool
Passes pattern left i q k = passes pattern (get_or left i 0) (reaches pattern left i) (finishes pattern (drop (i + 1) left)) q k

abbrev pub Below : List ℕ → List ℕ → ℕ → ℕ → ℕ → Bool
Below pattern left i n k = passes_below pattern (get_or left i 0) (reaches pattern left i) (finishes pattern (drop (i + 1) left)) n k

-- the cells of background after the positions of a set, from which another set is reached
abbrev pub stays : ℕ → ℕ → ℕ → ℕ → Bool
stays set background later i = has set i && (has background i && has later (i + 1))

gap_seen : (r e a f l w x z y : Bool) → l ≡ true → w ≡ false → r ≡ e → y ≡ z → (r && (((l && (a && f)) && y) || ((w && x) && z))) ≡ (((e && (a && f)) && (a && f)) && z)
gap_seen r e a f l w x z y h i j k = grind (arith, nat_tests)

gap_passes : (pattern left : List ℕ) (q background from later i k : ℕ) → GapAt pattern q → IsCellsWith left 0 background → IsEntry pattern left q from → IsBack pattern left (q + 1) later
    → i < length left → Passes pattern left i q k ≡ (stays from background later i && 0 == k)
gap_passes pattern left q background from later i k g is before back h =
    let w = gap_waits_not pattern q g in
    let a = allows (get_or left i 0) 0 in
    let e = enters pattern left i q in
    let f = finishes pattern (drop (i + 1) left) (q + 1) in
    let x = allows (get_or left i 0) 0 && finishes pattern (drop (i + 1) left) q in
    let l = nat_lt (q + 1) (length pattern) in
    let mask = get_or left i 0 in
    let from_is = before i (omega arith) ∙ ap (λ y. e && y) (step_back pattern left q i g.within w (omega arith) ∙ ap (λ c. allows mask c && f) g.background) in
    ap (λ c. reaches pattern left i q && (((l && (allows mask c && f)) && c == k) || ((waits pattern q && x) && 0 == k))) g.background
    ∙ (gap_seen (reaches pattern left i q) e a f l (waits pattern q) x (0 == k) (0 == k) (lt-ltb (q + 1) (length pattern) g.within) w (reaches_enters pattern left i q w) refl
    ∙ (ap (λ y. (y && (a && f)) && 0 == k) (sym from_is)
    ∙ (ap (λ y. (has from i && (y && f)) && 0 == k) (sym (is i (omega arith)))
    ∙ ap (λ y. (has from i && (has background i && y)) && 0 == k) (sym (back (i + 1) (omega arith))))))

kept : (h r s b g : Bool) → g ≡ (s || b) → (h && g) ≡ (r && g) → (h && b) ≡ (r && b)
kept h r s b g i j = grind (arith, nat_tests)

wait_seen : (r h s b x z g w : Bool) → w ≡ true → g ≡ (s || (w && b)) → (h && g) ≡ (r && g) → (r && ((s && x) || ((w && b) && z))) ≡ (((r && s) && x) || ((h && b) && z))
wait_seen r h s b x z g w i j k = grind (arith, nat_tests)

-- a waiting state, whose next cell is of colour c
wait_passes : (pattern left : List ℕ) (s background here laid later i k : ℕ) → waits pattern s ≡ true → IsCellsWith left 0 background → IsReached pattern left s here → IsLaid pattern left s laid
    → IsBack pattern left s later → i < length left → Passes pattern left i s k ≡ ((has laid i && get_or pattern (s + 1) 0 == k) || (stays here background later i && 0 == k))
wait_passes pattern left s background here laid later i k w is reached lies back h =
    let f = finishes pattern (drop (i + 1) left) in
    let a = advances pattern (get_or left i 0) f s in
    let b = allows (get_or left i 0) 0 && f s in
    let x = get_or pattern (s + 1) 0 == k in
    wait_seen (reaches pattern left i s) (has here i) a b x (0 == k) (finishes pattern (drop i left) s) (waits pattern s) w (finish_on pattern left s i h) (reached i (omega arith))
    ∙ (ap (λ y. (y && x) || ((has here i && b) && 0 == k)) (sym (lies i (omega arith)))
    ∙ (ap (λ y. (has laid i && x) || ((has here i && (y && f s)) && 0 == k)) (sym (is i (omega arith)))
    ∙ ap (λ y. (has laid i && x) || ((has here i && (has background i && y)) && 0 == k)) (sym (back (i + 1) (omega arith)))))

inside_seen : (r e a f l w x y z : Bool) → l ≡ true → w ≡ false → r ≡ e → (r && (((l && (a && f)) && y) || ((w && x) && z))) ≡ ((e && (a && f)) && y)
inside_seen r e a f l w x y z h i j = grind (arith, nat_tests)

inside_passes : (pattern left : List ℕ) (s len c laid t i k : ℕ) → BlockAt pattern s len c → IsLaid pattern left s laid → suc t < len → i < length left
    → Passes pattern left i (s + suc t) k ≡ (moved laid (suc t) i && c == k)
inside_passes pattern left s len c laid t i k b lies l h =
    let q = s + suc t in
    let w = inside_waits_not pattern s len c t b l in
    let a = allows (get_or left i 0) (get_or pattern (q + 1) 0) in
    let e = enters pattern left i q in
    let f = finishes pattern (drop (i + 1) left) (q + 1) in
    let x = allows (get_or left i 0) 0 && finishes pattern (drop (i + 1) left) q in
    let y : s + suc (suc t) ≡ q + 1 = omega arith in
    let colour : get_or pattern (q + 1) 0 ≡ c = ap (λ n. get_or pattern n 0) (sym y) ∙ b.cells (suc t) l in
    inside_seen (reaches pattern left i q) e a f (nat_lt (q + 1) (length pattern)) (waits pattern q) x (get_or pattern (q + 1) 0 == k) (0 == k) (lt-ltb (q + 1) (length pattern) (omega arith)) w
    (reaches_enters pattern left i q w)
    ∙ (ap (λ n. (e && (a && f)) && n == k) colour
    ∙ (ap (λ n. (e && n) && c == k) (sym (step_back pattern left q i (omega arith) w (omega arith)))
    ∙ ap (λ n. n && c == k) (sym (block_entries pattern left s len c laid b lies t (omega arith) i (omega arith)))))

-- ---- all states of a block

first_cell : (p l x b z : Bool) → (p || ((l && x) || (b && z))) ≡ ((p || (b && z)) || ((false || l) && x))
first_cell p l x b z = grind (arith, nat_tests)

one_cell : (b c m x : Bool) → ((b || (c && x)) || (m && x)) ≡ (b || ((c || m) && x))
one_cell b c m x = grind (arith, nat_tests)

block_below : (pattern left : List ℕ) (s len c background here laid later i k : ℕ) → BlockAt pattern s len c → IsCellsWith left 0 background → IsReached pattern left s here
    → IsLaid pattern left s laid → IsBack pattern left s later → i < length left → (t : ℕ) → t < len
    → Below pattern left i (s + suc t) k ≡ ((Below pattern left i s k || (stays here background later i && 0 == k)) || (covers laid (suc t) i && c == k))
block_below pattern left s len c background here laid later i k b is reached lies back h zero l =
    let z : s + 1 ≡ suc s = omega arith in
    let before = Below pattern left i s k in
    let w = wait_passes pattern left s background here laid later i k (waits_for_block pattern s len c b) is reached lies back h in
    ap (λ n. Below pattern left i n k) z
    ∙ (ap (λ x. before || x) (w ∙ ap (λ n. (has laid i && n == k) || (stays here background later i && 0 == k)) (b.cells 0 l))
    ∙ first_cell before (has laid i) (c == k) (stays here background later i) (0 == k))
block_below pattern left s len c background here laid later i k b is reached lies back h (suc t) l =
    let z : s + suc (suc t) ≡ suc (s + suc t) = omega arith in
    let start = Below pattern left i s k || (stays here background later i && 0 == k) in
    ap (λ n. Below pattern left i n k) z
    ∙ (ap (λ x. x || Passes pattern left i (s + suc t) k) (block_below pattern left s len c background here laid later i k b is reached lies back h t (omega arith))
    ∙ (ap (λ x. (start || (covers laid (suc t) i && c == k)) || x) (inside_passes pattern left s len c laid t i k b lies l h)
    ∙ one_cell start (covers laid (suc t) i) (moved laid (suc t) i) (c == k)))

-- ---- a block and the gap before it

-- the cells seen on the way through the states below n
abbrev pub HasSeen : List ℕ → List ℕ → List ℕ → ℕ → Type 0
HasSeen pattern left seen n = (i k : ℕ) → i < length left → has (get_or seen k 0) i ≡ Below pattern left i n k

-- the positions after the gap before a block, up to position n
pub record Entered (n : ℕ) (m : Bool) (background from entered : ℕ) : Type 0 where
  pub none : m ≡ false → entered ≡ from
  pub first : m ≡ true → has entered 0 ≡ false
  pub one : m ≡ true → (i : ℕ) → i < n → has entered (i + 1) ≡ (has background i && has from i)

-- a set with what is reached from its positions over background, up to position n
pub record Filled (n background entered here : ℕ) : Type 0 where
  pub first : has here 0 ≡ has entered 0
  pub on : (i : ℕ) → i < n → has here (i + 1) ≡ (has entered (i + 1) || (has background i && has here i))

gap_entered : (pattern left : List ℕ) (q len c background from entered : ℕ) (m : Bool) → PieceAt pattern q m len c → IsCellsWith left 0 background → IsEntry pattern left q from
    → Entered (length left) m background from entered → IsEntry pattern left (q + gap_before m) entered
gap_entered pattern left q len c background from entered true p is before e = gap_entry pattern left q background from entered (p.gap_is refl) is before (e.first refl) (e.one refl)
gap_entered pattern left q len c background from entered false p is before e =
    let z : q ≡ q + 0 = omega arith in
    λ i h. ap (λ s. has s i) (e.none refl) ∙ (before i h ∙ ap (λ s. enters pattern left i s && finishes pattern (drop i left) s) z)

filled_has : (n background entered here i : ℕ) → Filled n background entered here → i ≤ n → (has entered i || has here i) ≡ has here i
filled_has n background entered here zero f h = ap (λ x. x || has here 0) (sym f.first) ∙ or_self (has here 0)
filled_has n background entered here (suc i) f h =
    let z : suc i ≡ i + 1 = omega arith in
    let e : has here (suc i) ≡ (has entered (suc i) || (has background i && has here i)) = ap (λ n. has here n) z
    ∙ (f.on i (omega arith) ∙ ap (λ n. has entered n || (has background i && has here i)) (sym z)) in
    ap (λ x. has entered (suc i) || x) e ∙ (same (has entered (suc i)) (has background i && has here i) ∙ sym e)
  where
    same : (a b : Bool) → (a || (a || b)) ≡ (a || b)
    same a b = grind (arith, nat_tests)

gap_and_wait : (o f h b z : Bool) → ((o || ((f && b) && z)) || ((h && b) && z)) ≡ (o || (((f || h) && b) && z))
gap_and_wait o f h b z = grind (arith, nat_tests)

background_below : (pattern left : List ℕ) (q len c background from entered here later i k : ℕ) (m : Bool) → PieceAt pattern q m len c → IsCellsWith left 0 background → IsEntry pattern left q from
    → Entered (length left) m background from entered → Filled (length left) background entered here → IsBack pattern left (q + gap_before m) later → i < length left → (Below pattern left i
    (q + gap_before m) k || (stays here background later i && 0 == k)) ≡ (Below pattern left i q k || (((has from i || has here i) && (has background i && has later (i + 1))) && 0 == k))
background_below pattern left q len c background from entered here later i k true p is before e f back h =
    let z : q + 1 ≡ suc q = omega arith in
    ap (λ n. Below pattern left i n k || (stays here background later i && 0 == k)) z
    ∙ (ap (λ x. (Below pattern left i q k || x) || (stays here background later i && 0 == k)) (gap_passes pattern left q background from later i k (p.gap_is refl) is before back h)
    ∙ gap_and_wait (Below pattern left i q k) (has from i) (has here i) (has background i && has later (i + 1)) (0 == k))
background_below pattern left q len c background from entered here later i k false p is before e f back h =
    let z : q + 0 ≡ q = omega arith in
    let b = has background i && has later (i + 1) in
    ap (λ n. Below pattern left i n k || (stays here background later i && 0 == k)) z
    ∙ sym (ap (λ x. Below pattern left i q k || (((has x i || has here i) && b) && 0 == k)) (sym (e.none refl))
    ∙ ap (λ x. Below pattern left i q k || ((x && b) && 0 == k)) (filled_has (length left) background entered here i f (omega arith)))

-- what is known after a block
pub record Behind (pattern left : List ℕ) (q from : ℕ) (seen : List ℕ) : Type 0 where
  pub entry : IsEntry pattern left q from
  pub seen_is : HasSeen pattern left seen q

stays_has : (from here background later i : ℕ) → has (bit_and (bit_or from here) (bit_and background (later / 2))) i ≡ ((has from i || has here i) && (has background i && has later (i + 1)))
stays_has from here background later i =
    has_and (bit_or from here) (bit_and background (later / 2)) i
    ∙ (ap (λ x. x && has (bit_and background (later / 2)) i) (has_or from here i)
    ∙ ap (λ x. (has from i || has here i) && x) (has_and background (later / 2) i ∙ ap (λ x. has background i && x) (has_down 1 later i)))

pub behind_block : (pattern left : List ℕ) (q len c background from entered here starts later cells ends : ℕ) (old mid new : List ℕ) (m : Bool) → PieceAt pattern q m len c
    → IsCellsWith left 0 background → IsStart pattern left (q + gap_before m) starts → IsBack pattern left (q + gap_before m) later → Behind pattern left q from old
    → Entered (length left) m background from entered → Filled (length left) background entered here
    → ((i k : ℕ) → has (get_or mid k 0) i ≡ (has (get_or old k 0) i || (has (bit_and (bit_or from here) (bit_and background (later / 2))) i && 0 == k)))
    → ((i : ℕ) → i ≤ length left → has cells i ≡ covers (bit_and here starts) len i) → ((i : ℕ) → i ≤ length left → has ends i ≡ moved (bit_and here starts) len i)
    → ((i k : ℕ) → has (get_or new k 0) i ≡ (has (get_or mid k 0) i || (has cells i && c == k))) → Behind pattern left (q + gap_before m + len) ends new
behind_block pattern left q len c background from entered here starts later cells ends old mid new m p is begins back before e f mids covered ended news =
    let s = q + gap_before m in
    let b = p.block_is in
    let laid = bit_and here starts in
    let entry = gap_entered pattern left q len c background from entered m p is before.entry e in
    let reached = wait_reached pattern left s background entered here (waits_for_block pattern s len c b) is entry f.first f.on in
    let lies = laid_at pattern left s here starts laid reached begins (λ i. has_and here starts i) in
    record {
      entry = block_entry pattern left s len c laid ends b lies ended;
      seen_is = λ i k h.
          let t : suc (len - 1) ≡ len = omega arith in
          let u : s + suc (len - 1) ≡ s + len = omega arith in
          let way = (has from i || has here i) && (has background i && has later (i + 1)) in
          let below = block_below pattern left s len c background here laid later i k b is reached lies back h (len - 1) (omega arith) in
          let front = background_below pattern left q len c background from entered here later i k m p is before.entry e f back h in
          news i k
          ∙ (ap (λ x. x || (has cells i && c == k)) (mids i k)
          ∙ (ap (λ x. (x || (has (bit_and (bit_or from here) (bit_and background (later / 2))) i && 0 == k)) || (has cells i && c == k)) (before.seen_is i k h)
          ∙ (ap (λ x. (Below pattern left i q k || (x && 0 == k)) || (has cells i && c == k)) (stays_has from here background later i)
          ∙ (ap (λ x. (Below pattern left i q k || (way && 0 == k)) || (x && c == k)) (covered i (omega arith) ∙ ap (λ n. covers laid n i) (sym t))
          ∙ (ap (λ x. x || (covers laid (suc (len - 1)) i && c == k)) (sym front)
          ∙ (sym below ∙ ap (λ n. Below pattern left i n k) u))))));
    }

-- ---- after the last block

end_seen : (r h s b x z : Bool) → s ≡ false → (h && b) ≡ (r && b) → (r && ((s && x) || (b && z))) ≡ ((h && b) && z)
end_seen r h s b x z i j = grind (arith, nat_tests)

pub behind_all : (pattern left : List ℕ) (q background from here later : ℕ) (old new : List ℕ) → q + 1 ≡ length pattern → IsCellsWith left 0 background → IsBack pattern left q later
    → Behind pattern left q from old → Filled (length left) background from here
    → ((i k : ℕ) → has (get_or new k 0) i ≡ (has (get_or old k 0) i || (has (bit_and here (bit_and background (later / 2))) i && 0 == k))) → HasSeen pattern left new (length pattern)
behind_all pattern left q background from here later old new e is back before f news i k h =
    let z : suc q ≡ length pattern = omega arith in
    let w = waits_at_end pattern q (omega arith) in
    let l = le-ltb (q + 1) (length pattern) (omega arith) in
    let fin = finishes pattern (drop (i + 1) left) in
    let mask = get_or left i 0 in
    let b = allows mask 0 && fin q in
    let v = allows mask (get_or pattern (q + 1) 0) && fin (q + 1) in
    let x = get_or pattern (q + 1) 0 == k in
    let r = reaches pattern left i q in
    let reached = wait_reached pattern left q background from here w is before.entry f.first f.on i (omega arith) in
    let none : advances pattern mask fin q ≡ false = ap (λ t. t && v) l in
    let same = kept (has here i) r (advances pattern mask fin q) (waits pattern q && b) (finishes pattern (drop i left) q) (finish_on pattern left q i h) reached in
    let there = end_seen r (has here i) (advances pattern mask fin q) (waits pattern q && b) x (0 == k) none same in
    let cell : has (bit_and here (bit_and background (later / 2))) i ≡ (has here i && (waits pattern q && b)) =
    has_and here (bit_and background (later / 2)) i
    ∙ (ap (λ y. has here i && y) (has_and background (later / 2) i ∙ (ap (λ y. has background i && y) (has_down 1 later i ∙ back (i + 1) (omega arith)) ∙ ap (λ y. y && fin q) (is i (omega arith))))
    ∙ sym (ap (λ t. has here i && (t && b)) w)) in
    news i k
    ∙ (ap (λ y. y || (has (bit_and here (bit_and background (later / 2))) i && 0 == k)) (before.seen_is i k h)
    ∙ (ap (λ y. Below pattern left i q k || (y && 0 == k)) cell
    ∙ (ap (λ y. Below pattern left i q k || y) (sym there)
    ∙ ap (λ n. Below pattern left i n k) z)))

-- ---- in the blocks of a clue

pub pass_block : (bs : List Block) (left allowed starting waiting : List ℕ) (j from entered here cells ends : ℕ) (old mid new : List ℕ) (m : Bool) → IsClue bs → j < length bs
    → IsAllowed bs left allowed → AreMarked bs left starting waiting → m ≡ meets 0 bs j → Behind (pattern_of bs) left (state_behind 0 bs j) from old
    → Entered (length left) m (get_or allowed 0 0) from entered → Filled (length left) (get_or allowed 0 0) entered here → ((i k : ℕ)
    → has (get_or mid k 0) i ≡ (has (get_or old k 0) i || (has (bit_and (bit_or from here) (bit_and (get_or allowed 0 0) (get_or waiting j 0 / 2))) i && 0 == k))) → ((i : ℕ) → i ≤ length left
    → has cells i ≡ covers (bit_and here (get_or starting j 0)) (block_at bs j).len i) → ((i : ℕ) → i ≤ length left → has ends i ≡ moved (bit_and here (get_or starting j 0)) (block_at bs j).len i)
    → ((i k : ℕ) → has (get_or new k 0) i ≡ (has (get_or mid k 0) i || (has cells i && (block_at bs j).colour == k))) → Behind (pattern_of bs) left (state_behind 0 bs (j + 1)) ends new
pass_block bs left allowed starting waiting j from entered here cells ends old mid new m clue h is marks g before e f mids covered ended news =
    let b = block_at bs j in
    let P : Bool → Type 0 = λ t. Entered (length left) t (get_or allowed 0 0) from entered in
    let K : ℕ → Type 0 = λ q. Behind (pattern_of bs) left q ends new in
    subst K (sym (state_next 0 bs j h)) (behind_block (pattern_of bs) left (state_behind 0 bs j) b.len b.colour (get_or allowed 0 0) from entered here (get_or starting j 0)
    (get_or waiting j 0) cells ends old mid new (meets 0 bs j) (piece_of bs j clue h) is.background (marks.starts j h) (marks.waits j (omega arith)) before (subst P g e) f mids covered ended news)

pub pass_end : (bs : List Block) (left allowed starting waiting : List ℕ) (n from here : ℕ) (old new : List ℕ) → IsClue bs → n ≡ length bs → IsAllowed bs left allowed
    → AreMarked bs left starting waiting → Behind (pattern_of bs) left (state_behind 0 bs n) from old → Filled (length left) (get_or allowed 0 0) from here
    → ((i k : ℕ) → has (get_or new k 0) i ≡ (has (get_or old k 0) i || (has (bit_and here (bit_and (get_or allowed 0 0) (get_or waiting (length bs) 0 / 2))) i && 0 == k))) → AreSeen bs left new
pass_end bs left allowed starting waiting n from here old new clue e is marks before f news =
    let q = state_behind 0 bs (length bs) in
    let P : ℕ → Type 0 = λ m. Behind (pattern_of bs) left (state_behind 0 bs m) from old in
    let K : ℕ → Type 0 = λ s. IsBack (pattern_of bs) left s (get_or waiting (length bs) 0) in
    behind_all (pattern_of bs) left q (get_or allowed 0 0) from here (get_or waiting (length bs) 0) old new (state_at_end bs clue).1 is.background
    (subst K (state_at_end bs clue).0 (marks.waits (length bs) (omega arith))) (subst P e before) f news

pub none_yet : (bs : List Block) (left seen : List ℕ) → seen ≡ replicate 16 0 → finishes (pattern_of bs) left 0 ≡ true → Behind (pattern_of bs) left 0 1 seen
none_yet bs left seen e f = record {
  entry = first_entry (pattern_of bs) left f;
  seen_is = λ i k h. ap (λ xs. has (get_or xs k 0) i) e ∙ ap (λ s. has s i) (zeros 16 k) ∙ has_none i;
}
