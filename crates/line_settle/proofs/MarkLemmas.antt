-- What is marked for each block from the back: the positions from which a line can go to its end.
use Rattle.std.proofs.Common.{◌≡◌, ℕ, zero, suc, ◌+◌, ◌-◌, ◌<◌, ◌≤◌, Bool, true, false, List, ◌==◌, ◌&&◌, ◌||◌, nat_lt, refl, sym, ap, subst, ◌∙◌, arith, inl, inr, eq-eqb, ne_eqb, length, get_or}
use Rattle.std.proofs.Common.{drop}
use Rattle.std.proofs.lemmas.Bool.Decides.{nat_tests}
use Rattle.std.proofs.Math.Bool.{and-false, or-false}
use Rattle.std.proofs.Math.Seq.{drop-length}
use Rattle.std.proofs.Math.ListN.{set}
use Rattle.std.proofs.lemmas.Bool.{cases_eq, cases_lt, lt-ltb, le-ltb}
use Rattle.std.proofs.lemmas.List.{get_or_past, get_or-set_same, get_or-set_other, drop_more}
use Rattle.clues.specs.declared.block.Block.{Block}
use Rattle.clues.specs.Clue.{block, IsClue}
use Rattle.line_settle.specs.Patterns.{pattern_of, allows, waits, advances, finish_step, finishes}
use Rattle.line_facts.specs.BitSets.{has}
use Rattle.line_settle.specs.Positions.{IsCellsWith}
use Rattle.line_settle.specs.LaidBlocks.{lays, meets, gap_before, state_behind, state_before, IsAllowed, IsBack, IsStart}
use Rattle.line_settle.proofs.BitLemmas.{allows_none}
use Rattle.line_settle.proofs.BlockLemmas.{BlockAt, GapAt, PieceAt, block_at, piece_of, state_next, state_at_end, gap_waits_not, inside_waits_not, waits_for_block}
use Rattle.line_settle.proofs.StateLemmas.{waits_at_end}

-- ---- one cell on

pub finish_on : (pattern left : List ℕ) (q i : ℕ) → i < length left → finishes pattern (drop i left) q ≡ finish_step pattern (get_or left i 0) (finishes pattern (drop (i + 1) left)) q
finish_on pattern left q i h = ap (λ ms. finishes pattern ms q) (drop_more left i 0 h)

pub finish_end : (pattern left : List ℕ) (q i : ℕ) → i ≡ length left → finishes pattern (drop i left) q ≡ (q + 1 == length pattern)
finish_end pattern left q i e = ap (λ n. finishes pattern (drop n left) q) e ∙ ap (λ ms. finishes pattern ms q) (drop-length left)

-- after the last cell no colour is left
pub none_left : (left : List ℕ) (i k : ℕ) → length left ≤ i → allows (get_or left i 0) k ≡ false
none_left left i k h = ap (λ m. allows m k) (get_or_past left i 0 h) ∙ allows_none k

-- a state that doesn't wait goes on by the pattern's next cell alone
advance : (l w a f r : Bool) → l ≡ true → w ≡ false → ((l && (a && f)) || (w && r)) ≡ (a && f)
advance l w a f r h i = grind (arith, nat_tests)

pub step_back : (pattern left : List ℕ) (r i : ℕ) → r + 1 < length pattern → waits pattern r ≡ false → i ≤ length left
    → finishes pattern (drop i left) r ≡ (allows (get_or left i 0) (get_or pattern (r + 1) 0) && finishes pattern (drop (i + 1) left) (r + 1))
step_back pattern left r i h w l = elim (cases_lt i (length left)) [
  | inl m ↦
      let f = finishes pattern (drop (i + 1) left) in
      finish_on pattern left r i m
      ∙ advance (nat_lt (r + 1) (length pattern)) (waits pattern r) (allows (get_or left i 0) (get_or pattern (r + 1) 0)) (f (r + 1)) (allows (get_or left i 0) 0 && f r)
      (lt-ltb (r + 1) (length pattern) h) w
  | inr m ↦
      let n : i ≡ length left = omega arith in
      let a = ap (λ x. x && finishes pattern (drop (i + 1) left) (r + 1)) (none_left left i (get_or pattern (r + 1) 0) m) in
      finish_end pattern left r i n ∙ (ne_eqb (r + 1) (length pattern) (λ z. absurd (omega arith)) ∙ sym a)
]

-- what is said of the next position matters where there is a cell before it
guard : (left : List ℕ) (i k : ℕ) (x y : Bool) → (i < length left → x ≡ y) → (allows (get_or left i 0) k && x) ≡ (allows (get_or left i 0) k && y)
guard left i k x y h = elim (cases_lt i (length left)) [
  | inl l ↦ ap (λ z. allows (get_or left i 0) k && z) (h l)
  | inr l ↦
      let e = none_left left i k l in
      ap (λ z. z && x) e ∙ sym (ap (λ z. z && y) e)
]

-- ---- the cells of a block

back_cells : (pattern left : List ℕ) (s len c cells ends : ℕ) → BlockAt pattern s len c → IsCellsWith left c cells → IsBack pattern left (s + len) ends → (n t i : ℕ) → suc t + n ≡ len
    → i ≤ length left → lays cells ends n i ≡ finishes pattern (drop i left) (s + suc t)
back_cells pattern left s len c cells ends b is back zero t i e h = back i h ∙ ap (λ r. finishes pattern (drop i left) r) (let z : s + len ≡ s + suc t = omega arith in z)
back_cells pattern left s len c cells ends b is back (suc n) t i e h =
    let z : s + suc (suc t) ≡ s + suc t + 1 = omega arith in
    let colour : get_or pattern (s + suc t + 1) 0 ≡ c = ap (λ r. get_or pattern r 0) (sym z) ∙ b.cells (suc t) (omega arith) in
    let next = λ (l : i < length left). back_cells pattern left s len c cells ends b is back n (suc t) (i + 1) (omega arith) (omega arith) ∙ ap (λ r. finishes pattern (drop (i + 1) left) r) z in
    ap (λ x. x && lays cells ends n (i + 1)) (is i (omega arith))
    ∙ (guard left i c _ _ next
    ∙ (ap (λ k. allows (get_or left i 0) k && finishes pattern (drop (i + 1) left) (s + suc t + 1)) (sym colour)
    ∙ sym (step_back pattern left (s + suc t) i (omega arith) (inside_waits_not pattern s len c t b (omega arith)) h)))

lays_first : (cells ends len n i : ℕ) → len ≡ suc n → lays cells ends len i ≡ (has cells i && lays cells ends n (i + 1))
lays_first cells ends len n i e = ap (λ k. lays cells ends k i) e

pub block_start : (pattern left : List ℕ) (s len c cells ends starts : ℕ) → BlockAt pattern s len c → IsCellsWith left c cells → IsBack pattern left (s + len) ends
    → ((i : ℕ) → has starts i ≡ lays cells ends len i) → IsStart pattern left s starts
block_start pattern left s len c cells ends starts b is back laid i h =
    let p = b.has_cells in
    let n = len - 1 in
    let z : len ≡ suc n = omega arith in
    let next = λ (l : i < length left). back_cells pattern left s len c cells ends b is back n 0 (i + 1) (omega arith) (omega arith) in
    let f = finishes pattern (drop (i + 1) left) (s + 1) in
    laid i
    ∙ (lays_first cells ends len n i z
    ∙ (ap (λ x. x && lays cells ends n (i + 1)) (is i (omega arith))
    ∙ (guard left i c _ f next
    ∙ (ap (λ k. allows (get_or left i 0) k && f) (sym (b.cells 0 p))
    ∙ sym (ap (λ x. x && (allows (get_or left i 0) (get_or pattern (s + 1) 0) && f)) (lt-ltb (s + 1) (length pattern) (omega arith)))))))

-- ---- waiting

-- a set with what waits for its positions over background
abbrev pub Waits : ℕ → ℕ → ℕ → Type 0
Waits background starts waiting = (i : ℕ) → has waiting i ≡ (has starts i || (has background i && has waiting (i + 1)))

-- at the last position nothing starts and nothing waits
last_alone : (pattern left : List ℕ) (q starts background waiting i : ℕ) → IsCellsWith left 0 background → Waits background starts waiting → i ≡ length left → has waiting i ≡ has starts i
last_alone pattern left q starts background waiting i is w e =
    let a = is i (omega arith) ∙ none_left left i 0 (omega arith) in
    w i ∙ (ap (λ x. has starts i || (x && has waiting (i + 1))) a ∙ or-false (has starts i))

no_start : (pattern left : List ℕ) (s starts i : ℕ) → IsStart pattern left s starts → i ≡ length left → has starts i ≡ false
no_start pattern left s starts i is e =
    is i (omega arith) ∙ (ap (λ x. nat_lt (s + 1) (length pattern) && (x && finishes pattern (drop (i + 1) left) (s + 1))) (none_left left i (get_or pattern (s + 1) 0) (omega arith))
    ∙ and-false (nat_lt (s + 1) (length pattern)))

wait_step : (pattern left : List ℕ) (s len c background starts waiting : ℕ) → BlockAt pattern s len c → IsCellsWith left 0 background → IsStart pattern left s starts → Waits background starts waiting
    → (d i : ℕ) → i + d ≡ length left → has waiting i ≡ finishes pattern (drop i left) s
wait_step pattern left s len c background starts waiting b is begins w zero i e =
    let n : i ≡ length left = omega arith in
    let l = b.within in
    last_alone pattern left s starts background waiting i is w n
    ∙ (no_start pattern left s starts i begins n
    ∙ sym (finish_end pattern left s i n ∙ ne_eqb (s + 1) (length pattern) (λ z. absurd (omega arith))))
wait_step pattern left s len c background starts waiting b is begins w (suc d) i e =
    let l : i < length left = omega arith in
    let next = wait_step pattern left s len c background starts waiting b is begins w d (i + 1) (omega arith) in
    let a = advances pattern (get_or left i 0) (finishes pattern (drop (i + 1) left)) s in
    w i
    ∙ (ap (λ x. x || (has background i && has waiting (i + 1))) (begins i (omega arith))
    ∙ (ap (λ x. a || (x && has waiting (i + 1))) (is i (omega arith))
    ∙ (ap (λ x. a || (allows (get_or left i 0) 0 && x)) next
    ∙ (sym (ap (λ t. a || (t && (allows (get_or left i 0) 0 && finishes pattern (drop (i + 1) left) s))) (waits_for_block pattern s len c b))
    ∙ sym (finish_on pattern left s i l)))))

pub wait_back : (pattern left : List ℕ) (s len c background starts waiting : ℕ) → BlockAt pattern s len c → IsCellsWith left 0 background → IsStart pattern left s starts
    → Waits background starts waiting → IsBack pattern left s waiting
wait_back pattern left s len c background starts waiting b is begins w i h = wait_step pattern left s len c background starts waiting b is begins w (length left - i) i (omega arith)

-- after the last block
end_step : (pattern left : List ℕ) (q background ends waiting : ℕ) → q + 1 ≡ length pattern → IsCellsWith left 0 background → ((i : ℕ) → has ends i ≡ (i == length left))
    → Waits background ends waiting → (d i : ℕ) → i + d ≡ length left → has waiting i ≡ finishes pattern (drop i left) q
end_step pattern left q background ends waiting l is begins w zero i e =
    let n : i ≡ length left = omega arith in
    last_alone pattern left q ends background waiting i is w n
    ∙ (begins i ∙ (eq-eqb i (length left) n ∙ sym (finish_end pattern left q i n ∙ eq-eqb (q + 1) (length pattern) l)))
end_step pattern left q background ends waiting l is begins w (suc d) i e =
    let m : i < length left = omega arith in
    let next = end_step pattern left q background ends waiting l is begins w d (i + 1) (omega arith) in
    let rest = λ (t : Bool). t && (allows (get_or left i 0) 0 && finishes pattern (drop (i + 1) left) q) in
    let x = allows (get_or left i 0) (get_or pattern (q + 1) 0) && finishes pattern (drop (i + 1) left) (q + 1) in
    w i
    ∙ (ap (λ y. y || (has background i && has waiting (i + 1))) (begins i ∙ ne_eqb i (length left) (λ z. absurd (omega arith)))
    ∙ (ap (λ y. y && has waiting (i + 1)) (is i (omega arith))
    ∙ (ap (λ y. allows (get_or left i 0) 0 && y) next
    ∙ (sym (ap rest (waits_at_end pattern q (omega arith)))
    ∙ (sym (ap (λ t. (t && x) || rest (waits pattern q)) (le-ltb (q + 1) (length pattern) (omega arith)))
    ∙ sym (finish_on pattern left q i m))))))

pub end_back : (pattern left : List ℕ) (q background ends waiting : ℕ) → q + 1 ≡ length pattern → IsCellsWith left 0 background → ((i : ℕ) → has ends i ≡ (i == length left))
    → Waits background ends waiting → IsBack pattern left q waiting
end_back pattern left q background ends waiting l is begins w i h = end_step pattern left q background ends waiting l is begins w (length left - i) i (omega arith)

-- ---- the gap before a block

pub gap_back : (pattern left : List ℕ) (q background later here : ℕ) → GapAt pattern q → IsCellsWith left 0 background → IsBack pattern left (q + 1) later
    → ((i : ℕ) → has here i ≡ (has background i && has later (i + 1))) → IsBack pattern left q here
gap_back pattern left q background later here g is back e i h =
    e i
    ∙ (ap (λ x. x && has later (i + 1)) (is i (omega arith))
    ∙ (guard left i 0 _ _ (λ l. back (i + 1) (omega arith))
    ∙ (ap (λ k. allows (get_or left i 0) k && finishes pattern (drop (i + 1) left) (q + 1)) (sym g.background)
    ∙ sym (step_back pattern left q i g.within (gap_waits_not pattern q g) h))))

-- ---- one block after the other, from the back

gap_or_none : (pattern left : List ℕ) (q len c background waits here : ℕ) (m : Bool) → PieceAt pattern q m len c → IsCellsWith left 0 background → IsBack pattern left (q + gap_before m) waits
    → (m ≡ false → here ≡ waits) → (m ≡ true → (i : ℕ) → has here i ≡ (has background i && has waits (i + 1))) → IsBack pattern left q here
gap_or_none pattern left q len c background waits here true p is back none one = gap_back pattern left q background waits here (p.gap_is refl) is back (one refl)
gap_or_none pattern left q len c background waits here false p is back none one =
    let z : q + 0 ≡ q = omega arith in
    λ i h. ap (λ s. has s i) (none refl) ∙ (back i h ∙ ap (λ s. finishes pattern (drop i left) s) z)

-- what is marked for block j
pub record Marked (bs : List Block) (left : List ℕ) (j starts waits here : ℕ) : Type 0 where
  pub starts_are : IsStart (pattern_of bs) left (state_before bs j) starts
  pub waits_are : IsBack (pattern_of bs) left (state_before bs j) waits
  pub here_is : IsBack (pattern_of bs) left (state_behind 0 bs j) here

pub mark_block : (bs : List Block) (left allowed : List ℕ) (n j later starts waits here : ℕ) (m : Bool) → IsClue bs → n ≡ j + 1 → j < length bs → IsAllowed bs left allowed → m ≡ meets 0 bs j
    → IsBack (pattern_of bs) left (state_behind 0 bs n) later → ((i : ℕ) → has starts i ≡ lays (get_or allowed (block_at bs j).colour 0) later (block_at bs j).len i)
    → Waits (get_or allowed 0 0) starts waits → (m ≡ false → here ≡ waits) → (m ≡ true → (i : ℕ) → has here i ≡ (has (get_or allowed 0 0) i && has waits (i + 1))) → Marked bs left j starts waits here
mark_block bs left allowed n j later starts waits here m clue e h is g back laid waited none one =
    let pattern = pattern_of bs in
    let b = block_at bs j in
    let p = piece_of bs j clue h in
    let s = state_before bs j in
    let next : state_behind 0 bs n ≡ s + b.len = ap (state_behind 0 bs) e ∙ state_next 0 bs j h in
    let behind : IsBack pattern left (s + b.len) later = let P : ℕ → Type 0 = λ q. IsBack pattern left q later in subst P next back in
    let begins = block_start pattern left s b.len b.colour (get_or allowed b.colour 0) later starts p.block_is (is.each j (block 0 0) h) behind laid in
    let waiting = wait_back pattern left s b.len b.colour (get_or allowed 0 0) starts waits p.block_is is.background begins waited in
    record {
      starts_are = begins;
      waits_are = waiting;
      here_is = gap_or_none pattern left (state_behind 0 bs j) b.len b.colour (get_or allowed 0 0) waits here (meets 0 bs j) p is.background waiting (λ f. none (g ∙ f)) (λ t. one (g ∙ t));
    }

pub mark_end : (bs : List Block) (left allowed : List ℕ) (ends waits : ℕ) → IsClue bs → IsAllowed bs left allowed → ((i : ℕ) → has ends i ≡ (i == length left)) → Waits (get_or allowed 0 0) ends waits
    → IsBack (pattern_of bs) left (state_behind 0 bs (length bs)) waits
mark_end bs left allowed ends waits clue is last w =
    end_back (pattern_of bs) left (state_behind 0 bs (length bs)) (get_or allowed 0 0) ends waits (state_at_end bs clue).1 is.background last w

-- a list of marks with one more, before those that were there
pub stored : (P : ℕ → ℕ → Type 0) (B : ℕ → Type 0) (xs : List ℕ) (n j v : ℕ) → n ≡ j + 1 → j < length xs → P j v → ((r : ℕ) → n ≤ r → B r → P r (get_or xs r 0)) → (r : ℕ) → j ≤ r → B r
    → P r (get_or (set xs j v) r 0)
stored P B xs n j v e room is before r h b = elim (cases_eq r j) [
  | inl same ↦
      let K : ℕ → Type 0 = λ m. P m (get_or (set xs j v) m 0) in
      subst K (sym same) (subst (P j) (sym (get_or-set_same xs j v 0 room)) is)
  | inr other ↦ subst (P r) (sym (get_or-set_other xs j r v 0 other)) (before r (omega arith) b)
]

pub end_stored : (bs : List Block) (left waiting : List ℕ) (waits : ℕ) → IsClue bs → length bs < length waiting → IsBack (pattern_of bs) left (state_behind 0 bs (length bs)) waits → (r : ℕ)
    → length bs ≤ r → r ≤ length bs → IsBack (pattern_of bs) left (state_before bs r) (get_or (set waiting (length bs) waits) r 0)
end_stored bs left waiting waits clue room is r h l =
    let e : length bs ≡ r = omega arith in
    let P : ℕ → Type 0 = λ n. IsBack (pattern_of bs) left (state_before bs n) (get_or (set waiting (length bs) waits) n 0) in
    let K : ℕ → Type 0 = λ s. IsBack (pattern_of bs) left s waits in
    let V : ℕ → Type 0 = λ v. IsBack (pattern_of bs) left (state_before bs (length bs)) v in
    subst P e (subst V (sym (get_or-set_same waiting (length bs) waits 0 room)) (subst K (sym (state_at_end bs clue).0) is))

pub first_position : (bs : List Block) (left : List ℕ) (later n : ℕ) → n ≤ 0 → IsBack (pattern_of bs) left (state_behind 0 bs n) later → has later 0 ≡ finishes (pattern_of bs) left 0
first_position bs left later n h back =
    let e : n ≡ 0 = omega arith in
    back 0 (omega arith) ∙ ap (λ m. finishes (pattern_of bs) left (state_behind 0 bs m)) e
