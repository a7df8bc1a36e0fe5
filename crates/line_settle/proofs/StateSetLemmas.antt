-- Sets of the states of a pattern, moved by a cell.
use Rattle.std.proofs.Common.{◌≡◌, ◌≢◌, ℕ, zero, suc, ◌+◌, ◌-◌, ◌*◌, ◌/◌, ◌%◌, ◌^◌, ◌<◌, ◌≤◌, ◌↔◌, ◌⊎◌, Bool, true, false, ◌==◌, ◌&&◌, ◌||◌, List, bit_and, bit_or, refl, sym, ap, subst, ◌∙◌, arith}
use Rattle.std.proofs.Common.{inl, inr, eq-eqb, length, get_or, replicate}
use Rattle.std.specs.Int.{bit_at, trailing_zeros, w16}
use Rattle.std.proofs.Math.Pow.{pow_mono}
use Rattle.std.proofs.lemmas.Bool.{cases_eq, cases_lt, and_parts, and_from, or_cases, or_left, or_right, false≢true, eqb-true}
use Rattle.std.specs.Int.Bits.{or_zero_l}
use Rattle.std.proofs.lemmas.Nat.{and_le_r}
use Rattle.std.proofs.lemmas.Nat.Bits.{bit_at_lowest, bit_at-trailing_zeros, bit_at_mask_inside, bit_at_mask_below, bit_at_mask_above}
use Rattle.clues.specs.declared.block.Block.{Block}
use Rattle.clues.specs.Clue.{IsClue}
use Rattle.line_settle.specs.Patterns.{pattern_of, allows, waits, finish_step, reach_step}
use Rattle.line_facts.specs.BitSets.{has}
use Rattle.line_settle.specs.LaidBlocks.{meets, gap_before, state_behind}
use Rattle.line_settle.specs.StateSets.{AreStates, MoveSets, MovesBy, AreNext, AreWaiting, HasColours, StateSets, ArePatternSets}
use Rattle.line_settle.proofs.BitLemmas.{allows_is, allows_or, allows_none, allows_shifted}
use Rattle.line_settle.proofs.NarrowLemmas.{zeros}
use Rattle.line_settle.proofs.PositionLemmas.{has_and, has_down, none_moved_up, moved_up}
use Rattle.line_facts.proofs.BitSetLaws.{has_or, has_none, has_above}
use Rattle.line_settle.proofs.StateLemmas.{Step, waits_at_end}
use Rattle.line_settle.proofs.StepLemmas.{crosses_finish, finish_crosses, step_reaches, reached_by_step}
use Rattle.line_settle.proofs.BlockLemmas.{PieceAt, block_at, piece_of, state_next, state_at_end, waits_for_block, gap_waits_not, inside_waits_not}

-- ---- members

pub in_and : (a b i : ℕ) → has (bit_and a b) i ≡ true → (has a i ≡ true) × (has b i ≡ true)
in_and a b i h = and_parts _ _ (sym (has_and a b i) ∙ h)

pub and_in : (a b i : ℕ) → has a i ≡ true → has b i ≡ true → has (bit_and a b) i ≡ true
and_in a b i h k = has_and a b i ∙ and_from _ _ h k

pub in_or : (a b i : ℕ) → has (bit_or a b) i ≡ true → (has a i ≡ true) ⊎ (has b i ≡ true)
in_or a b i h = or_cases _ _ (sym (has_or a b i) ∙ h)

pub left_in : (a b i : ℕ) → has a i ≡ true → has (bit_or a b) i ≡ true
left_in a b i h = has_or a b i ∙ or_left _ _ h

pub right_in : (a b i : ℕ) → has b i ≡ true → has (bit_or a b) i ≡ true
right_in a b i h = has_or a b i ∙ or_right _ _ h

pub in_none : (i : ℕ) → has 0 i ≡ true → ⊥
in_none i h = false≢true (sym (has_none i) ∙ h)

pub in_width : (w a i : ℕ) → a < 2 ^ w → has a i ≡ true → i < w
in_width w a i l h = elim (cases_lt i w) [
  | inl m ↦ m
  | inr m ↦ absurd (false≢true (sym (has_above w a i l m) ∙ h))
]

odd_has : (a : ℕ) → a % 2 ≡ 1 → has a 0 ≡ true
unfolding has
odd_has a e = eq-eqb _ _ (bit_at_lowest a ∙ e)

below_power : (n : ℕ) → n < 2 ^ n
below_power zero = omega arith
below_power (suc n) = let h = below_power n in omega arith

-- a set of positions below a width that is not empty has a member
member_below : (w a : ℕ) → a < 2 ^ w → a ≢ 0 → (i : ℕ) × (has a i ≡ true)
member_below zero a l n = absurd (omega arith)
member_below (suc w) a l n = elim (cases_eq (a % 2) 1) [
  | inl e ↦ (0, odd_has a e)
  | inr d ↦
      let half : a / 2 < 2 ^ w = omega arith in
      let some : a / 2 ≢ 0 = (λ e. n (omega arith)) in
      let m = member_below w (a / 2) half some in
      (m.0 + 1, sym (has_down 1 a m.0) ∙ m.1)
]

pub has_member : (a : ℕ) → a ≢ 0 → (i : ℕ) × (has a i ≡ true)
has_member a n = member_below a a (below_power a) n

up_in : (w a q : ℕ) → 0 < w → has (a * 2 % 2 ^ w) q ≡ true → (j : ℕ) × (q ≡ j + 1) × (has a j ≡ true)
up_in w a zero p h = absurd (false≢true (sym (none_moved_up w a p) ∙ h))
up_in w a (suc j) p h =
    let some : 0 < 2 ^ w = (let m = pow_mono (let z : 0 ≤ w = omega arith in z) in omega arith) in
    let l : suc j < w = in_width w (a * 2 % 2 ^ w) (suc j) (omega arith) h in
    (j, omega arith, sym (moved_up w a j (omega arith)) ∙ h)

in_up : (w a j q : ℕ) → q ≡ j + 1 → j + 1 < w → has a j ≡ true → has (a * 2 % 2 ^ w) q ≡ true
in_up w a j q e l h =
    let P : ℕ → Type 0 = λ n. has (a * 2 % 2 ^ w) n ≡ true in
    subst P (let s : suc j ≡ q = omega arith in s) (moved_up w a j l ∙ h)

-- ---- over a cell

moved_into : (w : ℕ) (pattern : List ℕ) (mask : ℕ) (before : ℕ → Bool) (moves : MoveSets) (from q : ℕ) → 0 < w → MovesBy w pattern mask moves → AreStates pattern before from
    → has (bit_or (bit_and from moves.advancing * 2 % 2 ^ w) (bit_and from moves.resting)) q ≡ true → (q < length pattern) × (reach_step pattern mask before q ≡ true)
moved_into w pattern mask before moves from q wide by is h = elim (in_or (bit_and from moves.advancing * 2 % 2 ^ w) (bit_and from moves.resting) q h) [
  | inl a ↦
      let u = up_in w (bit_and from moves.advancing) q wide a in
      let p = in_and from moves.advancing u.0 u.2 in
      let s = (is.each u.0).0 p.0 in
      let m = (by.advancing u.0).0 p.1 in
      let step : Step pattern u.0 (get_or pattern (u.0 + 1) 0) q = inl (m.0, refl, u.1) in
      ((let e = u.1 in let b = m.0 in omega arith), step_reaches pattern mask before u.0 (get_or pattern (u.0 + 1) 0) q s.1 m.1 step)
  | inr b ↦
      let p = in_and from moves.resting q b in
      let s = (is.each q).0 p.0 in
      let m = (by.resting q).0 p.1 in
      let step : Step pattern q 0 q = inr (refl, m.1, refl) in
      (s.0, step_reaches pattern mask before q 0 q s.1 m.2 step)
]

into_moved : (w : ℕ) (pattern : List ℕ) (mask : ℕ) (before : ℕ → Bool) (moves : MoveSets) (from q : ℕ) → 0 < w → MovesBy w pattern mask moves → AreStates pattern before from → q < length pattern
    → reach_step pattern mask before q ≡ true → has (bit_or (bit_and from moves.advancing * 2 % 2 ^ w) (bit_and from moves.resting)) q ≡ true
into_moved w pattern mask before moves from q wide by is h t =
    let r = reached_by_step pattern mask before q h t in
    elim r.step [
      | inl a ↦
          let s = (is.each r.from).1 ((let l = a.0 in omega arith), r.was) in
          let m = (by.advancing r.from).1 (a.0, ap (allows mask) (sym a.1) ∙ r.allowed) in
          left_in (bit_and from moves.advancing * 2 % 2 ^ w) (bit_and from moves.resting) q
          (in_up w (bit_and from moves.advancing) r.from q a.2 (let l = a.0 in omega arith) (and_in from moves.advancing r.from s m))
      | inr b ↦
          let P : ℕ → Type 0 = λ n. has (bit_and from moves.resting) n ≡ true in
          let l : r.from < length pattern = (let e = b.2 in omega arith) in
          let s = (is.each r.from).1 (l, r.was) in
          let m = (by.resting r.from).1 (l, b.1, ap (allows mask) (sym b.0) ∙ r.allowed) in
          right_in (bit_and from moves.advancing * 2 % 2 ^ w) (bit_and from moves.resting) q (subst P (sym b.2) (and_in from moves.resting r.from s m))
    ]

pub forward_states : (w : ℕ) (pattern : List ℕ) (mask : ℕ) (before : ℕ → Bool) (moves : MoveSets) (from : ℕ) → 0 < w → MovesBy w pattern mask moves → AreStates pattern before from
    → AreStates pattern (reach_step pattern mask before) (bit_or (bit_and from moves.advancing * 2 % 2 ^ w) (bit_and from moves.resting))
forward_states w pattern mask before moves from wide by is = record {
  each = λ q. ((λ h. moved_into w pattern mask before moves from q wide by is h), (λ p. into_moved w pattern mask before moves from q wide by is p.0 p.1));
}

back_into : (w : ℕ) (pattern : List ℕ) (mask : ℕ) (behind : ℕ → Bool) (moves : MoveSets) (later q : ℕ) → MovesBy w pattern mask moves → AreStates pattern behind later
    → has (bit_or (bit_and (later / 2) moves.advancing) (bit_and later moves.resting)) q ≡ true → (q < length pattern) × (finish_step pattern mask behind q ≡ true)
back_into w pattern mask behind moves later q by is h = elim (in_or (bit_and (later / 2) moves.advancing) (bit_and later moves.resting) q h) [
  | inl a ↦
      let p = in_and (later / 2) moves.advancing q a in
      let s = (is.each (q + 1)).0 (sym (has_down 1 later q) ∙ p.0) in
      let m = (by.advancing q).0 p.1 in
      let step : Step pattern q (get_or pattern (q + 1) 0) (q + 1) = inl (m.0, refl, refl) in
      ((let l = m.0 in omega arith), crosses_finish pattern mask behind q (get_or pattern (q + 1) 0) (record { next = q + 1; step = step; allowed = m.1; reaches_good = s.1 }))
  | inr b ↦
      let p = in_and later moves.resting q b in
      let s = (is.each q).0 p.0 in
      let m = (by.resting q).0 p.1 in
      let step : Step pattern q 0 q = inr (refl, m.1, refl) in
      (s.0, crosses_finish pattern mask behind q 0 (record { next = q; step = step; allowed = m.2; reaches_good = s.1 }))
]

into_back : (w : ℕ) (pattern : List ℕ) (mask : ℕ) (behind : ℕ → Bool) (moves : MoveSets) (later q : ℕ) → MovesBy w pattern mask moves → AreStates pattern behind later → q < length pattern
    → finish_step pattern mask behind q ≡ true → has (bit_or (bit_and (later / 2) moves.advancing) (bit_and later moves.resting)) q ≡ true
into_back w pattern mask behind moves later q by is h t =
    let c = finish_crosses pattern mask behind q t in
    elim c.1.step [
      | inl a ↦
          let s = (is.each (q + 1)).1 (a.0, ap behind (sym a.2) ∙ c.1.reaches_good) in
          let m = (by.advancing q).1 (a.0, ap (allows mask) (sym a.1) ∙ c.1.allowed) in
          left_in (bit_and (later / 2) moves.advancing) (bit_and later moves.resting) q (and_in (later / 2) moves.advancing q (has_down 1 later q ∙ s) m)
      | inr b ↦
          let s = (is.each q).1 (h, ap behind (sym b.2) ∙ c.1.reaches_good) in
          let m = (by.resting q).1 (h, b.1, ap (allows mask) (sym b.0) ∙ c.1.allowed) in
          right_in (bit_and (later / 2) moves.advancing) (bit_and later moves.resting) q (and_in later moves.resting q s m)
    ]

pub back_states : (w : ℕ) (pattern : List ℕ) (mask : ℕ) (behind : ℕ → Bool) (moves : MoveSets) (later : ℕ) → MovesBy w pattern mask moves → AreStates pattern behind later
    → AreStates pattern (finish_step pattern mask behind) (bit_or (bit_and (later / 2) moves.advancing) (bit_and later moves.resting))
back_states w pattern mask behind moves later by is = record {
  each = λ q. ((λ h. back_into w pattern mask behind moves later q by is h), (λ p. into_back w pattern mask behind moves later q by is p.0 p.1));
}

-- ---- the moves of a mask

-- `advancing` has the states that the colours of a mask follow, except for the colours of `rest`
pub record Taken (next : List ℕ) (colours rest advancing : ℕ) : Type 0 where
  pub from : (q : ℕ) → has advancing q ≡ true → (k : ℕ) × (allows colours k ≡ true) × (has (get_or next k 0) q ≡ true)
  pub all : (k q : ℕ) → allows colours k ≡ true → has (get_or next k 0) q ≡ true → (has advancing q ≡ true) ⊎ (allows rest k ≡ true)
  pub part : (k : ℕ) → allows rest k ≡ true → allows colours k ≡ true

pub none_taken : (next : List ℕ) (colours : ℕ) → Taken next colours colours 0
none_taken next colours = record {
  from = λ q h. absurd (in_none q h);
  all = λ k q a h. inr a;
  part = λ k a. a;
}

lowest_allowed : (mask : ℕ) → 0 < mask → mask < 2 ^ 16 → allows mask (trailing_zeros w16 mask) ≡ true
lowest_allowed mask p l = allows_is mask (trailing_zeros w16 mask) ∙ eq-eqb _ _ (bit_at-trailing_zeros w16 mask p l).1

bit_is : (n k : ℕ) → has n k ≡ true → bit_at n k ≡ 1
unfolding has
bit_is n k h = eqb-true _ _ h

is_bit : (n k : ℕ) → bit_at n k ≡ 1 → has n k ≡ true
unfolding has
is_bit n k e = eq-eqb _ _ e

next_has : (n k : ℕ) → has n (suc k) ≡ has (n / 2) k
next_has n k = sym (has_down 1 n k ∙ ap (has n) (let e : k + 1 ≡ suc k = omega arith in e))

odd_less : (n k : ℕ) → n % 2 ≡ 1 → has (n - 1) (suc k) ≡ has n (suc k)
odd_less n k odd = next_has (n - 1) k ∙ (ap (λ m. has m k) (let half : (n - 1) / 2 ≡ n / 2 = omega arith in half) ∙ sym (next_has n k))

-- above a bit that is set a number less one has the same bits
less_one_has : (k c n : ℕ) → c < k → has n c ≡ true → has (n - 1) k ≡ has n k
less_one_has zero c n l h = absurd (omega arith)
less_one_has (suc k) zero n l h = odd_less n k (sym (bit_at_lowest n) ∙ bit_is n 0 h)
less_one_has (suc k) (suc c) n l h = elim (cases_eq (n % 2) 1) [
  | inl odd ↦ odd_less n k odd
  | inr even ↦
      let half : (n - 1) / 2 ≡ n / 2 - 1 = omega arith in
      next_has (n - 1) k ∙ (ap (λ m. has m k) half ∙ (less_one_has k c (n / 2) (omega arith) (sym (next_has n c) ∙ h) ∙ sym (next_has n k)))
]

pub allowed_both : (m n k : ℕ) → allows (bit_and m n) k ≡ true → (allows m k ≡ true) × (allows n k ≡ true)
unfolding has
allowed_both m n k h =
    let p = in_and m n k (sym (allows_is (bit_and m n) k) ∙ h) in
    (allows_is m k ∙ p.0, allows_is n k ∙ p.1)

pub both_allowed : (m n k : ℕ) → allows m k ≡ true → allows n k ≡ true → allows (bit_and m n) k ≡ true
unfolding has
both_allowed m n k g h = allows_is (bit_and m n) k ∙ and_in m n k (sym (allows_is m k) ∙ g) (sym (allows_is n k) ∙ h)

-- a mask without its lowest colour
abbrev pub without_lowest : ℕ → ℕ
without_lowest mask = bit_and mask (mask - 1)

stays_allowed : (mask k : ℕ) → mask ≢ 0 → mask < 2 ^ 16 → k ≢ trailing_zeros w16 mask → allows mask k ≡ true → allows (without_lowest mask) k ≡ true
unfolding has
stays_allowed mask k n l other a =
    let lowest = trailing_zeros w16 mask in
    let b = bit_at-trailing_zeros w16 mask (omega arith) l in
    let here = sym (allows_is mask k) ∙ a in
    elim (cases_lt k lowest) [
      | inl below ↦ let none = b.2 k below in let one = bit_is mask k here in absurd (omega arith)
      | inr above ↦
          let set : has mask lowest ≡ true = is_bit mask lowest b.1 in
          both_allowed mask (mask - 1) k a (allows_is (mask - 1) k ∙ (less_one_has k lowest mask (omega arith) set ∙ here))
    ]

-- the lowest colour of those that are left is taken
pub taken_more : (next : List ℕ) (colours rest advancing : ℕ) → rest ≢ 0 → rest < 2 ^ 16 → Taken next colours rest advancing
    → Taken next colours (without_lowest rest) (bit_or advancing (get_or next (trailing_zeros w16 rest) 0))
taken_more next colours rest advancing n l t =
    let c = trailing_zeros w16 rest in
    record {
      from = λ q h. elim (in_or advancing (get_or next c 0) q h) [
        | inl a ↦ t.from q a
        | inr a ↦ (c, t.part c (lowest_allowed rest (omega arith) l), a)
      ];
      all = λ k q a h. elim (t.all k q a h) [
        | inl i ↦ inl (left_in advancing (get_or next c 0) q i)
        | inr r ↦ elim (cases_eq k c) [
          | inl e ↦ inl (right_in advancing (get_or next c 0) q (let P : ℕ → Type 0 = λ j. has (get_or next j 0) q ≡ true in subst P e h))
          | inr d ↦ inr (stays_allowed rest k n l d r)
        ]
      ];
      part = λ k a. t.part k (allowed_both rest (rest - 1) k a).0;
    }

-- the lowest of all colours is taken
pub first_taken : (next : List ℕ) (colours : ℕ) → colours ≢ 0 → colours < 2 ^ 16 → Taken next colours (without_lowest colours) (get_or next (trailing_zeros w16 colours) 0)
first_taken next colours n l =
    let P : ℕ → Type 0 = λ m. Taken next colours (without_lowest colours) m in
    subst P (or_zero_l (get_or next (trailing_zeros w16 colours) 0)) (taken_more next colours colours 0 n l (none_taken next colours))

pub rest_falls : (rest : ℕ) → rest ≢ 0 → without_lowest rest < rest
rest_falls rest n = let l = and_le_r rest (rest - 1) in omega arith

pub all_taken : (next : List ℕ) (colours rest advancing q : ℕ) → rest ≡ 0 → Taken next colours rest advancing
    → (has advancing q ≡ true) ↔ ((k : ℕ) × (allows colours k ≡ true) × (has (get_or next k 0) q ≡ true))
all_taken next colours rest advancing q e t = (
  (λ h. t.from q h),
  (λ p. elim (t.all p.0 q p.1 p.2) [
    | inl a ↦ a
    | inr r ↦ absurd (false≢true (sym (allows_none p.0) ∙ (ap (λ m. allows m p.0) (sym e) ∙ r)))
  ]),
)

-- a mask of no colours has none to take
pub no_colour : (next : List ℕ) (colours q : ℕ) → colours ≡ 0 → (has 0 q ≡ true) ↔ ((k : ℕ) × (allows colours k ≡ true) × (has (get_or next k 0) q ≡ true))
no_colour next colours q e = all_taken next colours colours 0 q e (none_taken next colours)

pub moves_made : (w : ℕ) (pattern : List ℕ) (sets : StateSets) (mask advancing resting : ℕ) → ArePatternSets w pattern sets
    → ((q : ℕ) → (has advancing q ≡ true) ↔ ((k : ℕ) × (allows (bit_and mask sets.colours) k ≡ true) × (has (get_or sets.next k 0) q ≡ true)))
    → ((q : ℕ) → (has resting q ≡ true) ↔ ((has sets.waiting q ≡ true) × (allows (bit_and mask sets.colours) 0 ≡ true))) → MovesBy w pattern mask (record { advancing = advancing; resting = resting })
moves_made w pattern sets mask advancing resting are on stay = record {
  short = are.short;
  advancing = λ q. (
    (λ h.
        let k = (on q).0 h in
        let n = (are.next k.0 q).0 k.2 in
        let e = are.is_end in
        ((let l = n.0 in omega arith), ap (allows mask) n.1 ∙ (allowed_both mask sets.colours k.0 k.1).0)),
    (λ p.
        let e = are.is_end in
        let l : q < are.end = (let g = p.0 in omega arith) in
        let x = get_or pattern (q + 1) 0 in
        (on q).1 (x, both_allowed mask sets.colours x p.1 (are.colours.each q l), (are.next x q).1 (l, refl))),
  );
  resting = λ q. (
    (λ h.
        let s = (stay q).0 h in
        let w = (are.waiting q).0 s.0 in
        (w.0, w.1, (allowed_both mask sets.colours 0 s.1).0)),
    (λ p. (stay q).1 ((are.waiting q).1 (p.0, p.1), both_allowed mask sets.colours 0 p.2 are.colours.background)),
  );
}

-- a mask with all the pattern's colours lets every state move
pub all_moves : (w : ℕ) (pattern : List ℕ) (sets : StateSets) (mask : ℕ) → ArePatternSets w pattern sets → bit_and mask sets.colours ≡ sets.colours
    → MovesBy w pattern mask (record { advancing = sets.inner; resting = sets.waiting })
all_moves w pattern sets mask are e =
    let P : ℕ → Type 0 = λ m. (k : ℕ) → allows m k ≡ true → allows mask k ≡ true in
    let each : P sets.colours = subst P e (λ k a. (allowed_both mask sets.colours k a).0) in
    record {
      short = are.short;
      advancing = λ q. (
        (λ h. let i = (are.inner q).0 h in ((omega arith), each (get_or pattern (q + 1) 0) (are.colours.each q i))),
        (λ p. (are.inner q).1 (let g = p.0 in omega arith)),
      );
      resting = λ q. (
        (λ h. let w = (are.waiting q).0 h in (w.0, w.1, each 0 are.colours.background)),
        (λ p. (are.waiting q).1 (p.0, p.1)),
      );
    }

-- ---- the sets of a pattern

pub between : (start end q : ℕ) → (has (2 ^ end - 2 ^ start) q ≡ true) ↔ ((start ≤ q) × (q < end))
unfolding has
between start end q = (
  (λ h. elim (cases_lt q start) [
    | inl l ↦ absurd (false≢true (sym (ap (λ x. x == 1) (bit_at_mask_below start end q l)) ∙ h))
    | inr g ↦ elim (cases_lt q end) [
      | inl l ↦ (g, l)
      | inr m ↦ absurd (false≢true (sym (ap (λ x. x == 1) (bit_at_mask_above start end q m)) ∙ h))
    ]
  ]),
  (λ p. ap (λ x. x == 1) (bit_at_mask_inside start end q p.0 p.1)),
)

-- a run of one colour more
pub run_next : (pattern old new : List ℕ) (set colour start end : ℕ) → ((q : ℕ) → (has set q ≡ true) ↔ ((start ≤ q) × (q < end))) → ((i k : ℕ) → has (get_or new k 0) i
    ≡ (has (get_or old k 0) i || (has set i && colour == k))) → start ≤ end → AreNext pattern start old → ((q : ℕ) → start ≤ q → q < end → get_or pattern (q + 1) 0 ≡ colour) → AreNext pattern end new
run_next pattern old new set colour start end run seen h is cells = λ k q. (
  (λ a. elim (or_cases _ _ (sym (seen q k) ∙ a)) [
    | inl b ↦ let s = (is k q).0 b in ((let l = s.0 in omega arith), s.1)
    | inr b ↦
        let p = and_parts _ _ b in
        let r = (run q).0 p.0 in
        (r.1, cells q r.0 r.1 ∙ eqb-true _ _ p.1)
  ]),
  (λ p. seen q k ∙ elim (cases_lt q start) [
    | inl m ↦ or_left _ _ ((is k q).1 (m, p.1))
    | inr m ↦ or_right _ _ (and_from _ _ ((run q).1 (m, p.0)) (eq-eqb _ _ (sym (cells q m p.0) ∙ p.1)))
  ]),
)

gap_place : (q t : ℕ) (m : Bool) → q ≤ t → t < q + gap_before m → (m ≡ true) × (t ≡ q)
gap_place q t true h l = (refl, omega arith)
gap_place q t false h l = absurd (omega arith)

pub gap_cells : (pattern : List ℕ) (q len colour s : ℕ) (m : Bool) → PieceAt pattern q m len colour → s ≡ q + gap_before m → (t : ℕ) → q ≤ t → t < s → get_or pattern (t + 1) 0 ≡ 0
gap_cells pattern q len colour s m p e t h l =
    let g = gap_place q t m h (omega arith) in
    ap (λ n. get_or pattern (n + 1) 0) g.1 ∙ (p.gap_is g.0).background

pub block_cells : (pattern : List ℕ) (q len colour s e : ℕ) (m : Bool) → PieceAt pattern q m len colour → s ≡ q + gap_before m → e ≡ s + len → (t : ℕ) → s ≤ t → t < e
    → get_or pattern (t + 1) 0 ≡ colour
block_cells pattern q len colour s e m p is to t h l =
    let i : q + gap_before m + suc (t - s) ≡ t + 1 = omega arith in
    ap (λ n. get_or pattern n 0) (sym i) ∙ p.block_is.cells (t - s) (omega arith)

-- which states of a piece wait
piece_waits : (pattern : List ℕ) (q len colour s e : ℕ) (m : Bool) → PieceAt pattern q m len colour → s ≡ q + gap_before m → e ≡ s + len → (t : ℕ) → q ≤ t → t < e → waits pattern t ≡ true → t ≡ s
piece_waits pattern q len colour s e m p is to t h l w = elim (cases_lt t s) [
  | inl g ↦
      let x = gap_place q t m h (omega arith) in
      absurd (false≢true (sym (gap_waits_not pattern q (p.gap_is x.0)) ∙ (ap (waits pattern) (sym x.1) ∙ w)))
  | inr g ↦ elim (cases_eq t s) [
    | inl y ↦ y
    | inr n ↦
        let u : ℕ = t - s - 1 in
        let i : q + gap_before m + suc u ≡ t = omega arith in
        absurd (false≢true (sym (inside_waits_not pattern (q + gap_before m) len colour u p.block_is (omega arith)) ∙ (ap (waits pattern) i ∙ w)))
  ]
]

pub waiting_more : (pattern : List ℕ) (q len colour s e waiting one : ℕ) (m : Bool) → PieceAt pattern q m len colour → s ≡ q + gap_before m → e ≡ s + len → ((t : ℕ) → has one t ≡ (t == s))
    → AreWaiting pattern q waiting → AreWaiting pattern e (bit_or waiting one)
waiting_more pattern q len colour s e waiting one m p is to place are =
    let here : waits pattern s ≡ true = ap (waits pattern) is ∙ waits_for_block pattern (q + gap_before m) len colour p.block_is in
    λ t. (
      (λ h. elim (in_or waiting one t h) [
        | inl a ↦ let w = (are t).0 a in ((let l = w.0 in omega arith), w.1)
        | inr a ↦ let y = eqb-true _ _ (sym (place t) ∙ a) in ((omega arith), ap (waits pattern) y ∙ here)
      ]),
      (λ w. elim (cases_lt t q) [
        | inl l ↦ left_in waiting one t ((are t).1 (l, w.1))
        | inr g ↦ right_in waiting one t (place t ∙ eq-eqb _ _ (piece_waits pattern q len colour s e m p is to t g w.0 w.1))
      ]),
    )

pub waiting_all : (pattern : List ℕ) (q waiting one : ℕ) → q + 1 ≡ length pattern → ((t : ℕ) → has one t ≡ (t == q)) → AreWaiting pattern q waiting
    → AreWaiting pattern (length pattern) (bit_or waiting one)
waiting_all pattern q waiting one end place are =
    λ t. (
      (λ h. elim (in_or waiting one t h) [
        | inl a ↦ let w = (are t).0 a in ((let l = w.0 in omega arith), w.1)
        | inr a ↦ let y = eqb-true _ _ (sym (place t) ∙ a) in ((omega arith), ap (waits pattern) y ∙ waits_at_end pattern q (omega arith))
      ]),
      (λ w. elim (cases_lt t q) [
        | inl l ↦ left_in waiting one t ((are t).1 (l, w.1))
        | inr g ↦ right_in waiting one t (place t ∙ eq-eqb _ _ (let l = w.0 in omega arith))
      ]),
    )

pub colours_more : (pattern : List ℕ) (q len colour s e colours : ℕ) (m : Bool) → PieceAt pattern q m len colour → s ≡ q + gap_before m → e ≡ s + len → colour < 16 → HasColours pattern q colours
    → HasColours pattern e (bit_or colours (1 * 2 ^ colour % 65536))
colours_more pattern q len colour s e colours m p is to c has_them =
    let one : ℕ = 1 * 2 ^ colour % 65536 in
    let P : ℕ → Type 0 = λ x. allows (bit_or colours one) x ≡ true in
    let behind_all : P 0 = allows_or colours one 0 ∙ or_left _ _ has_them.background in
    record {
      background = behind_all;
      each = λ t l. elim (cases_lt t q) [
        | inl b ↦ allows_or colours one (get_or pattern (t + 1) 0) ∙ or_left _ _ (has_them.each t b)
        | inr b ↦ elim (cases_lt t s) [
          | inl g ↦ subst P (sym (gap_cells pattern q len colour s m p is t b g)) behind_all
          | inr g ↦ subst P (sym (block_cells pattern q len colour s e m p is to t g l)) (allows_or colours one colour ∙ or_right _ _ (allows_shifted colour colour c ∙ eq-eqb colour colour refl))
        ]
      ];
    }

pub piece_here : (bs : List Block) (j state : ℕ) (m : Bool) → IsClue bs → j < length bs → state ≡ state_behind 0 bs j → m ≡ meets 0 bs j
    → PieceAt (pattern_of bs) state m (block_at bs j).len (block_at bs j).colour
piece_here bs j state m c h e f =
    let P : ℕ → Type 0 = λ q. PieceAt (pattern_of bs) q m (block_at bs j).len (block_at bs j).colour in
    let Q : Bool → Type 0 = λ x. PieceAt (pattern_of bs) (state_behind 0 bs j) x (block_at bs j).len (block_at bs j).colour in
    subst P (sym e) (subst Q (sym f) (piece_of bs j c h))

pub end_state : (bs : List Block) (j state : ℕ) → IsClue bs → j ≡ length bs → state ≡ state_behind 0 bs j → state + 1 ≡ length (pattern_of bs)
end_state bs j state c e f = ap (λ n. n + 1) (f ∙ ap (state_behind 0 bs) e) ∙ (state_at_end bs c).1

pub next_state : (bs : List Block) (j state start end : ℕ) (m : Bool) → j < length bs → state ≡ state_behind 0 bs j → m ≡ meets 0 bs j → start ≡ state + gap_before m
    → end ≡ start + (block_at bs j).len → end ≡ state_behind 0 bs (j + 1)
next_state bs j state start end m h e f g k =
    let n = state_next 0 bs j h in
    let w = ap gap_before f in
    omega arith

-- nothing is known before the first block
pub none_next : (pattern : List ℕ) → AreNext pattern 0 (replicate 16 0)
none_next pattern = λ k q. ((λ h. absurd (in_none q (let P : ℕ → Type 0 = λ n. has n q ≡ true in subst P (zeros 16 k) h))), (λ p. absurd (omega arith)))

pub none_waiting : (pattern : List ℕ) → AreWaiting pattern 0 0
none_waiting pattern = λ q. ((λ h. absurd (in_none q h)), (λ p. absurd (omega arith)))

pub first_colour : (pattern : List ℕ) → HasColours pattern 0 1
first_colour pattern = record { background = refl; each = λ q l. absurd (omega arith) }
