-- What the sweep over a line keeps from cell to cell.
use Rattle.std.proofs.Common.{◌≡◌, ◌≢◌, ℕ, zero, suc, ◌+◌, ◌^◌, ◌<◌, ◌≤◌, ◌↔◌, ◌⊎◌, Bool, true, false, ◌||◌, ◌==◌, not, ne_eqb, List, [], ◌∷◌, bit_and, bit_or, refl, sym, ap, subst, ◌∙◌, arith, inl}
use Rattle.std.proofs.Common.{inr, eq-eqb, length, get_or, drop, drop-cons, replicate}
use Rattle.std.specs.List.{All}
use Rattle.std.proofs.Math.ListN.{set, drop_of_length-le}
use Rattle.std.proofs.Math.Seq.{drop-length}
use Rattle.std.specs.Int.Bits.{or_zero_r}
use Rattle.std.proofs.lemmas.Bool.{cases_eq, cases_lt, or_cases, or_left, or_right, false≢true, eqb-true, eqb-false, not-true, not_from_false}
use Rattle.std.proofs.lemmas.List.{get_or_past, length-set, length-replicate, get_or-set_same, get_or-set_other, get_or-drop, get_or-replicate, drop-set-lt}
use Rattle.std.proofs.lemmas.List.Elements.{All-get_or}
use Rattle.clues.specs.declared.block.Block.{Block}
use Rattle.clues.specs.Clue.{IsClue}
use Rattle.line_settle.specs.LeftOut.{ForcesAll, LeavesOut}
use Rattle.line_facts.specs.Masks.{all_sixteen}
use Rattle.line_settle.specs.MarkedLists.{finishes_marked, reaches_marked, step_marked, AreReached, AreBehind, ReachedSets, SweepsOut, unmarked}
use Rattle.line_settle.specs.Directions.{End, step_from}
use Rattle.line_settle.specs.Directions.End.{Front, Back}
use Rattle.line_settle.specs.Sweeps.{IsUndrawn, SweptTo, SweptMarked}
use Rattle.line_facts.specs.BitSets.{has}
use Rattle.line_settle.specs.Patterns.{pattern_of, allows, finish_step, finishes, reach_step, reaches}
use Rattle.line_settle.specs.StateSets.{AreStates, IsForeign, Shares, StateSets, ArePatternSets}
use Rattle.picture.proofs.BitLaws.{bit_below}
use Rattle.line_facts.proofs.MaskLaws.{full_has}
use Rattle.line_settle.proofs.BitLemmas.{allows_none}
use Rattle.line_settle.proofs.FillLemmas.{reach_step_agree}
use Rattle.line_settle.proofs.FittingLemmas.{allows_bit, bit_allows, too_long, have_fits}
use Rattle.line_settle.proofs.PositionLemmas.{has_power, has_one}
use Rattle.line_settle.proofs.StateSetLemmas.{in_and, and_in, in_or, left_in, right_in, in_none, has_member, allowed_both, both_allowed}
use Rattle.line_settle.proofs.StepLemmas.{finish_crosses}
use Rattle.line_settle.proofs.DirectionLemmas.{IsSpelled, lead, step_spells}
use Rattle.line_settle.proofs.MarkedLemmas.{IsWider, Meets, SameBefore, forces_unmarked, unmarked_forces, marked_misses, wider_marked, marked_at, at_marked, same_reached, same_reached_marked}

-- ---- sets of states

-- a cell with none of the pattern's colours leads nowhere
pub foreign_is : (colours mask : ℕ) → bit_and mask colours ≡ 0 → IsForeign colours mask
foreign_is colours mask e k a b = false≢true (sym (allows_none k) ∙ (ap (λ m. allows m k) (sym e) ∙ both_allowed mask colours k a b))

foreign_part : (colours mask d : ℕ) → IsForeign colours d → IsForeign colours (bit_and mask d)
foreign_part colours mask d none k a = none k (allowed_both mask d k a).1

not_spelled : (w : ℕ) (pattern : List ℕ) (sets : StateSets) (mask k : ℕ) → ArePatternSets w pattern sets → IsForeign sets.colours mask → allows mask k ≡ true → IsSpelled pattern k → ⊥
not_spelled w pattern sets mask k are none a spelled = elim spelled [
  | inl z ↦ none k a (ap (allows sets.colours) z ∙ are.colours.background)
  | inr n ↦
      let e = are.is_end in
      let l : n.0 < are.end = (let b = n.1 in omega arith) in
      none k a (ap (allows sets.colours) n.2 ∙ are.colours.each n.0 l)
]

pub none_over : (end : End) (w : ℕ) (pattern : List ℕ) (sets : StateSets) (mask : ℕ) (test : ℕ → Bool) → ArePatternSets w pattern sets → IsForeign sets.colours mask
    → AreStates pattern (step_from end pattern mask test) 0
none_over end w pattern sets mask test are none = record {
  each = λ q. (
    (λ h. absurd (in_none q h)),
    (λ p. let l = lead end pattern mask test q p.0 p.1 in absurd (not_spelled w pattern sets mask l.colour are none l.allowed l.spelled)),
  );
}

pub either_states : (pattern : List ℕ) (f g : ℕ → Bool) (a b : ℕ) → AreStates pattern f a → AreStates pattern g b → AreStates pattern (λ q. f q || g q) (bit_or a b)
either_states pattern f g a b is are = record {
  each = λ q. (
    (λ h. elim (in_or a b q h) [
      | inl x ↦ let s = (is.each q).0 x in (s.0, or_left _ _ s.1)
      | inr x ↦ let s = (are.each q).0 x in (s.0, or_right _ _ s.1)
    ]),
    (λ p. elim (or_cases _ _ p.1) [
      | inl x ↦ left_in a b q ((is.each q).1 (p.0, x))
      | inr x ↦ right_in a b q ((are.each q).1 (p.0, x))
    ]),
  );
}

pub same_states : (pattern : List ℕ) (f g : ℕ → Bool) (set : ℕ) → ((q : ℕ) → q < length pattern → g q ≡ f q) → AreStates pattern f set → AreStates pattern g set
same_states pattern f g set e is = record {
  each = λ q. (
    (λ h. let s = (is.each q).0 h in (s.0, e q s.0 ∙ s.1)),
    (λ p. (is.each q).1 (p.0, sym (e q p.0) ∙ p.1)),
  );
}

shares_meet : (pattern : List ℕ) (f g : ℕ → Bool) (a b : ℕ) → AreStates pattern f a → AreStates pattern g b → Shares a b → Meets pattern f g
shares_meet pattern f g a b is are s =
    let x = (is.each s.0).0 s.1 in
    record { state = s.0; inside = x.0; is_before = x.1; is_later = ((are.each s.0).0 s.2).1 }

meets_share : (pattern : List ℕ) (f g : ℕ → Bool) (a b : ℕ) → AreStates pattern f a → AreStates pattern g b → Meets pattern f g → Shares a b
meets_share pattern f g a b is are m = (m.state, (is.each m.state).1 (m.inside, m.is_before), (are.each m.state).1 (m.inside, m.is_later))

some_shared : (a b : ℕ) → bit_and a b ≢ 0 → Shares a b
some_shared a b n =
    let m = has_member (bit_and a b) n in
    let p = in_and a b m.0 m.1 in
    (m.0, p.0, p.1)

shared_some : (a b : ℕ) → Shares a b → bit_and a b ≢ 0
shared_some a b s e = in_none s.0 (let P : ℕ → Type 0 = λ n. has n s.0 ≡ true in subst P e (and_in a b s.0 s.1 s.2))

pub either_shares : (a b c d : ℕ) → (bit_or (bit_and a b) (bit_and c d) ≢ 0) ↔ (Shares a b ⊎ Shares c d)
either_shares a b c d = (
  (λ n. elim (cases_eq (bit_and a b) 0) [
    | inl e ↦ elim (cases_eq (bit_and c d) 0) [
      | inl f ↦ absurd (n (ap (λ x. bit_or x (bit_and c d)) e ∙ ap (λ x. bit_or 0 x) f))
      | inr f ↦ inr (some_shared c d f)
    ]
    | inr e ↦ inl (some_shared a b e)
  ]),
  (λ s e. elim s [
    | inl x ↦ in_none x.0 (let P : ℕ → Type 0 = λ n. has n x.0 ≡ true in subst P e (left_in (bit_and a b) (bit_and c d) x.0 (and_in a b x.0 x.1 x.2)))
    | inr x ↦ in_none x.0 (let P : ℕ → Type 0 = λ n. has n x.0 ≡ true in subst P e (right_in (bit_and a b) (bit_and c d) x.0 (and_in c d x.0 x.1 x.2)))
  ]),
)

-- the same for both pairs together, as the code tests it
pub meets_is : (a b c d x y z : ℕ) (none : Bool) → x ≡ bit_and a b → y ≡ bit_and c d → z ≡ bit_or x y → none ≡ (z == 0) → (not none ≡ true) ↔ (Shares a b ⊎ Shares c d)
meets_is a b c d x y z none e f g h =
    let P : ℕ → Type 0 = λ n. (n ≢ 0) ↔ (Shares a b ⊎ Shares c d) in
    let same : bit_or (bit_and a b) (bit_and c d) ≡ z = cc in
    let s = subst P same (either_shares a b c d) in
    ((λ t. s.0 (eqb-false z 0 (sym h ∙ not-true none t))), (λ t. not_from_false none (h ∙ ne_eqb z 0 (s.1 t))))

-- ---- from the back

pub at_end : (w : ℕ) (pattern left drawn : List ℕ) (sets : StateSets) (n : ℕ) → n ≡ length left → ArePatternSets w pattern sets
    → AreReached pattern (finishes pattern (drop n left)) (finishes_marked pattern (drop n left) (drop n drawn)) (record { all = sets.last; marked = 0 })
at_end w pattern left drawn sets n e are =
    let d : drop n left ≡ [] = ap (λ k. drop k left) e ∙ drop-length left in
    let P : List ℕ → Type 0 = λ ms. AreReached pattern (finishes pattern ms) (finishes_marked pattern ms (drop n drawn)) (record { all = sets.last; marked = 0 }) in
    subst P (sym d) (record {
      all_are = record {
        each = λ q. (
          (λ h. let w : q ≡ are.end = eqb-true _ _ (sym (has_power are.end q) ∙ (ap (λ s. has s q) (sym are.last) ∙ h)) in (omega arith, eq-eqb _ _ (omega arith))),
          (λ p. let w : q + 1 ≡ length pattern = eqb-true _ _ p.1 in ap (λ s. has s q) are.last ∙ (has_power are.end q ∙ eq-eqb _ _ (omega arith))),
        );
      };
      marked_are = record { each = λ q. ((λ h. absurd (in_none q h)), (λ p. absurd (false≢true p.1))) };
    })

-- the states after cell i give those before it
pub before_cell : (pattern left drawn : List ℕ) (i : ℕ) (from : ReachedSets) → i < length left → length drawn ≡ length left
    → AreReached pattern (finish_step pattern (get_or left i 0) (finishes pattern (drop (suc i) left)))
    (step_marked Back pattern (get_or left i 0) (bit_and (get_or left i 0) (get_or drawn i 0)) (finishes pattern (drop (suc i) left)) (finishes_marked pattern (drop (suc i) left) (drop (suc i) drawn)))
    from → AreReached pattern (finishes pattern (drop i left)) (finishes_marked pattern (drop i left) (drop i drawn)) from
before_cell pattern left drawn i from l e r =
    let m = drop-cons left i 0 l in
    let d = drop-cons drawn i 0 (let k : i < length drawn = omega arith in k) in
    let P : List ℕ → Type 0 = λ ms. AreReached pattern (finishes pattern ms) (finishes_marked pattern ms (drop i drawn)) from in
    let Q : List ℕ → Type 0 = λ ds. AreReached pattern (finishes pattern (get_or left i 0 ∷ drop (suc i) left)) (finishes_marked pattern (get_or left i 0 ∷ drop (suc i) left) ds) from in
    subst P (sym m) (subst Q (sym d) r)

pub noted_more : (pattern left drawn plain marked : List ℕ) (i : ℕ) (later : ReachedSets) → i < length plain → i < length marked
    → AreReached pattern (finishes pattern (drop (suc i) left)) (finishes_marked pattern (drop (suc i) left) (drop (suc i) drawn)) later → ((j : ℕ) → suc i ≤ j → j < length left
    → AreBehind pattern left drawn plain marked j) → (j : ℕ) → i ≤ j → j < length left → AreBehind pattern left drawn (set plain i later.all) (set marked i later.marked) j
noted_more pattern left drawn plain marked i later l m r before j h k = elim (cases_eq j i) [
  | inl e ↦
      let P : ℕ → Type 0 = λ n. AreBehind pattern left drawn (set plain i later.all) (set marked i later.marked) n in
      let S : ℕ → Type 0 = λ s. AreStates pattern (finishes pattern (drop (suc i) left)) s in
      let T : ℕ → Type 0 = λ s. AreStates pattern (finishes_marked pattern (drop (suc i) left) (drop (suc i) drawn)) s in
      subst P (sym e) (record {
        all_are = subst S (sym (get_or-set_same plain i later.all 0 l)) r.all_are;
        marked_are = subst T (sym (get_or-set_same marked i later.marked 0 m)) r.marked_are;
      })
  | inr n ↦
      let b = before j (omega arith) k in
      let S : ℕ → Type 0 = λ s. AreStates pattern (finishes pattern (drop (suc j) left)) s in
      let T : ℕ → Type 0 = λ s. AreStates pattern (finishes_marked pattern (drop (suc j) left) (drop (suc j) drawn)) s in
      record {
        all_are = subst S (sym (get_or-set_other plain i j later.all 0 n)) b.all_are;
        marked_are = subst T (sym (get_or-set_other marked i j later.marked 0 n)) b.marked_are;
      }
]

-- ---- from the front

pub at_first : (w : ℕ) (pattern left drawn : List ℕ) (sets : StateSets) → ArePatternSets w pattern sets
    → AreReached pattern (reaches pattern left 0) (reaches_marked pattern left drawn 0) (record { all = 1; marked = 0 })
at_first w pattern left drawn sets are =
    record {
      all_are = record {
        each = λ q. (
          (λ h. let w : q ≡ 0 = eqb-true _ _ (sym (has_one q) ∙ h) in (omega arith, eq-eqb _ _ w)),
          (λ p. has_one q ∙ p.1),
        );
      };
      marked_are = record { each = λ q. ((λ h. absurd (in_none q h)), (λ p. absurd (false≢true p.1))) };
    }

pub first_reached : (w : ℕ) (pattern left drawn : List ℕ) (sets : StateSets) (all marked : ℕ) → all ≡ 1 → marked ≡ 0 → ArePatternSets w pattern sets
    → AreReached pattern (reaches pattern left 0) (reaches_marked pattern left drawn 0) (record { all = all; marked = marked })
first_reached w pattern left drawn sets all marked e f are =
    let r = at_first w pattern left drawn sets are in
    let S : ℕ → Type 0 = λ n. AreStates pattern (reaches pattern left 0) n in
    let T : ℕ → Type 0 = λ n. AreStates pattern (reaches_marked pattern left drawn 0) n in
    record { all_are = subst S (sym e) r.all_are; marked_are = subst T (sym f) r.marked_are }

-- after cell i of a line that has the same masks before it, and this mask there
pub behind_cell : (pattern left new drawn : List ℕ) (i mask : ℕ) (from : ReachedSets) → SameBefore i new left → get_or new i 0 ≡ mask → AreReached pattern
    (reach_step pattern mask (reaches pattern left i)) (step_marked Front pattern mask (bit_and mask (get_or drawn i 0)) (reaches pattern left i) (reaches_marked pattern left drawn i)) from
    → AreReached pattern (reaches pattern new (suc i)) (reaches_marked pattern new drawn (suc i)) from
behind_cell pattern left new drawn i mask from same e r =
    let d = get_or drawn i 0 in
    let all : (q : ℕ) → q < length pattern → reaches pattern new i q ≡ reaches pattern left i q = same_reached pattern new left i same in
    let marked : (q : ℕ) → q < length pattern → reaches_marked pattern new drawn i q ≡ reaches_marked pattern left drawn i q = same_reached_marked pattern new left drawn i same in
    record {
      all_are = same_states pattern (reach_step pattern mask (reaches pattern left i)) (reaches pattern new (suc i)) from.all
          (λ q l. ap (λ m. reach_step pattern m (reaches pattern new i) q) e ∙ reach_step_agree pattern mask (reaches pattern new i) (reaches pattern left i) all q l) r.all_are;
      marked_are =
          same_states pattern (step_marked Front pattern mask (bit_and mask d) (reaches pattern left i) (reaches_marked pattern left drawn i)) (reaches_marked pattern new drawn (suc i)) from.marked
          (λ q l. ap (λ m. step_marked Front pattern m (bit_and m d) (reaches pattern new i) (reaches_marked pattern new drawn i) q) e
          ∙ (ap (λ x. x || reach_step pattern (bit_and mask d) (reaches pattern new i) q)
          (reach_step_agree pattern mask (reaches_marked pattern new drawn i) (reaches_marked pattern left drawn i) marked q l)
          ∙ ap (λ x. reach_step pattern mask (reaches_marked pattern left drawn i) q || x)
          (reach_step_agree pattern (bit_and mask d) (reaches pattern new i) (reaches pattern left i) all q l))) r.marked_are;
    }

pub same_here : (left : List ℕ) (i : ℕ) → SameBefore i left left
same_here left i = λ j l. refl

pub same_set : (left : List ℕ) (i mask : ℕ) → SameBefore i (set left i mask) left
same_set left i mask = λ j l. get_or-set_other left i j mask 0 (λ e. absurd (omega arith))

-- the masks after a cell are the old ones
pub drop_more : (a b : List ℕ) (i : ℕ) → length a ≡ length b → drop i a ≡ drop i b → drop (suc i) a ≡ drop (suc i) b
drop_more a b i e d = elim (cases_lt i (length a)) [
  | inl l ↦
      let x = drop-cons a i 0 l in
      let y = drop-cons b i 0 (let k : i < length b = omega arith in k) in
      ap (drop 1) (sym x ∙ (d ∙ y))
  | inr l ↦ drop_of_length-le a (let k : length a ≤ suc i = omega arith in k) ∙ sym (drop_of_length-le b (let k : length b ≤ suc i = omega arith in k))
]

pub same_at : (a b : List ℕ) (i : ℕ) → drop i a ≡ drop i b → get_or a i 0 ≡ get_or b i 0
same_at a b i d =
    let z : i ≡ i + 0 = omega arith in
    ap (λ n. get_or a n 0) z ∙ (sym (get_or-drop i a 0 0) ∙ (ap (λ l. get_or l 0 0) d ∙ (get_or-drop i b 0 0 ∙ ap (λ n. get_or b n 0) (sym z))))

-- with all sixteen colours in cell i a line is marked exactly where the sets on the two sides share a state
pub test_marked : (pattern old left drawn plain marked : List ℕ) (i : ℕ) (on : ReachedSets) → 0 < length pattern → i < length left → length drawn ≡ length left → drop (suc i) left ≡ drop (suc i) old
    → AreBehind pattern old drawn plain marked i → AreReached pattern (reach_step pattern 65535 (reaches pattern left i))
    (step_marked Front pattern 65535 (bit_and 65535 (get_or drawn i 0)) (reaches pattern left i) (reaches_marked pattern left drawn i)) on
    → (Shares on.marked (get_or plain i 0) ⊎ Shares on.all (get_or marked i 0)) ↔ (finishes_marked pattern (set left i 65535) drawn 0 ≡ true)
test_marked pattern old left drawn plain marked i on p l e d b r =
    let new = set left i 65535 in
    let len = length-set left i 65535 in
    let to = behind_cell pattern left new drawn i 65535 on (same_set left i 65535) (get_or-set_same left i 65535 0 l) r in
    let rest : drop (suc i) old ≡ drop (suc i) new = sym d ∙ sym (drop-set-lt (suc i) left i 65535 (omega arith)) in
    let S : List ℕ → Type 0 = λ ms. AreStates pattern (finishes pattern ms) (get_or plain i 0) in
    let T : List ℕ → Type 0 = λ ms. AreStates pattern (finishes_marked pattern ms (drop (suc i) drawn)) (get_or marked i 0) in
    let s = subst S rest b.all_are in
    let t = subst T rest b.marked_are in (
      (λ x. at_marked pattern new drawn (suc i) (omega arith) (omega arith) (elim x [
        | inl y ↦ inl (shares_meet pattern _ _ on.marked (get_or plain i 0) to.marked_are s y)
        | inr y ↦ inr (shares_meet pattern _ _ on.all (get_or marked i 0) to.all_are t y)
      ])),
      (λ x. elim (marked_at pattern new drawn (suc i) (omega arith) (omega arith) p x) [
        | inl y ↦ inl (meets_share pattern _ _ on.marked (get_or plain i 0) to.marked_are s y)
        | inr y ↦ inr (meets_share pattern _ _ on.all (get_or marked i 0) to.all_are t y)
      ]),
    )

-- ---- what is left out so far

pub none_swept : (pattern drawn left : List ℕ) → (finishes_marked pattern left drawn 0 ≡ true → ⊥) → SweepsOut pattern drawn left left 0
none_swept pattern drawn left f = record {
  same_length = refl;
  each = λ i l. absurd (omega arith);
  behind = refl;
  forced = f;
  needed = λ i l. absurd (omega arith);
}

below_or_at : (j i : ℕ) → j < suc i → (j < i) ⊎ (j ≡ i)
below_or_at j i h = elim (cases_lt j i) [ inl l ↦ inl l | inr l ↦ inr (omega arith) ]

pub swept_kept : (pattern drawn old left : List ℕ) (i : ℕ) → SweepsOut pattern drawn old left i → finishes_marked pattern (set left i 65535) drawn 0 ≡ true → SweepsOut pattern drawn old left (suc i)
swept_kept pattern drawn old left i s m =
    let P : ℕ → Type 0 = λ j. finishes_marked pattern (set left j 65535) drawn 0 ≡ true in
    record {
      same_length = s.same_length;
      each = λ j h. elim (below_or_at j i h) [
        | inl l ↦ s.each j l
        | inr e ↦ inl (let Q : ℕ → Type 0 = λ n. get_or left n 0 ≡ get_or old n 0 in subst Q (sym e) (same_at left old i s.behind))
      ];
      behind = drop_more left old i s.same_length s.behind;
      forced = s.forced;
      needed = λ j h n. elim (below_or_at j i h) [ inl l ↦ s.needed j l n | inr e ↦ subst P (sym e) m ];
    }

set_wider : (left : List ℕ) (i j : ℕ) → ((t : ℕ) → get_or left t 0 < 2 ^ 16) → i < length left → j < length left → IsWider (set left j 65535) (set (set left i 65535) j 65535)
set_wider left i j small h l =
    let a = length-set left i 65535 in
    let b = length-set left j 65535 in
    let c = length-set (set left i 65535) j 65535 in
    record {
      same_length = omega arith;
      leaves = λ t k w. elim (cases_eq t j) [
        | inl e ↦
            let P : ℕ → Type 0 = λ n. allows (get_or (set left j 65535) n 0) k ≡ true in
            let Q : ℕ → Type 0 = λ n. allows (get_or (set (set left i 65535) j 65535) n 0) k ≡ true in
            subst Q (sym e) (ap (λ m. allows m k) (get_or-set_same (set left i 65535) j 65535 0 (omega arith)) ∙ (ap (λ m. allows m k) (sym (get_or-set_same left j 65535 0 l)) ∙ subst P e w))
        | inr n ↦
            let v = sym (ap (λ m. allows m k) (get_or-set_other left j t 65535 0 n)) ∙ w in
            ap (λ m. allows m k) (get_or-set_other (set left i 65535) j t 65535 0 n) ∙ elim (cases_eq t i) [
              | inl e ↦
                  let R : ℕ → Type 0 = λ n. allows (get_or (set left i 65535) n 0) k ≡ true in
                  subst R (sym e) (ap (λ m. allows m k) (get_or-set_same left i 65535 0 h) ∙ bit_allows 65535 k (full_has k (bit_below (get_or left t 0) 16 k (small t) (allows_bit _ _ v))))
              | inr o ↦ ap (λ m. allows m k) (get_or-set_other left i t 65535 0 o) ∙ v
            ]
      ];
    }

pub swept_out : (pattern drawn old left : List ℕ) (i : ℕ) → 0 < length pattern → i < length left → ((t : ℕ) → get_or left t 0 < 2 ^ 16) → SweepsOut pattern drawn old left i
    → (finishes_marked pattern (set left i 65535) drawn 0 ≡ true → ⊥) → SweepsOut pattern drawn old (set left i 65535) (suc i)
swept_out pattern drawn old left i p h small s f = record {
  same_length = length-set left i 65535 ∙ s.same_length;
  each = λ j k. elim (below_or_at j i k) [
    | inl l ↦
        let o = get_or-set_other left i j 65535 0 (λ e. absurd (omega arith)) in
        elim (s.each j l) [ inl a ↦ inl (o ∙ a) | inr a ↦ inr (o ∙ a) ]
    | inr e ↦ inr (let Q : ℕ → Type 0 = λ n. get_or (set left i 65535) n 0 ≡ 65535 in subst Q (sym e) (get_or-set_same left i 65535 0 h))
  ];
  behind = drop-set-lt (suc i) left i 65535 (omega arith) ∙ drop_more left old i s.same_length s.behind;
  forced = f;
  needed = λ j k n. elim (below_or_at j i k) [
    | inl l ↦
        wider_marked pattern (set left j 65535) (set (set left i 65535) j 65535) drawn 0 p (set_wider left i j small h (omega arith))
        (s.needed j l (λ e. n (get_or-set_other left i j 65535 0 (λ z. absurd (omega arith)) ∙ e)))
    | inr e ↦ absurd (n (let Q : ℕ → Type 0 = λ m. get_or (set left i 65535) m 0 ≡ 65535 in subst Q (sym e) (get_or-set_same left i 65535 0 h)))
  ];
}

-- the states after cell i with these colours there
abbrev pub Reaches : ℕ → StateSets → List ℕ → List ℕ → ℕ → ℕ → ReachedSets → Type 0
Reaches w sets drawn left i mask on = (pattern : List ℕ) → ArePatternSets w pattern sets → AreReached pattern (reach_step pattern mask (reaches pattern left i))
    (step_marked Front pattern mask (bit_and mask (get_or drawn i 0)) (reaches pattern left i) (reaches_marked pattern left drawn i)) on

pub step_kept : (w : ℕ) (sets : StateSets) (drawn plain marked old left : List ℕ) (from on next : ReachedSets) (i : ℕ) → i < length left → length drawn ≡ length left
    → SweptTo w sets drawn plain marked old left from i → Reaches w sets drawn left i 65535 on → Reaches w sets drawn left i (get_or left i 0) next
    → Shares on.marked (get_or plain i 0) ⊎ Shares on.all (get_or marked i 0) → SweptTo w sets drawn plain marked old left next (suc i)
step_kept w sets drawn plain marked old left from on next i l e t ons nexts shares = record {
  small = t.small;
  from_is = λ pattern are. behind_cell pattern left left drawn i (get_or left i 0) next (same_here left i) refl (nexts pattern are);
  so_far = λ pattern are tables none.
      let s = t.so_far pattern are tables none in
      let n = s.same_length in
      swept_kept pattern drawn old left i s
      ((test_marked pattern old left drawn plain marked i on (omega arith) l e (drop_more left old i n s.behind) (tables i (omega arith)) (ons pattern are)).0 shares);
}

small_set : (left : List ℕ) (i : ℕ) → i < length left → ((t : ℕ) → get_or left t 0 < 2 ^ 16) → (t : ℕ) → get_or (set left i 65535) t 0 < 2 ^ 16
small_set left i l small j = elim (cases_eq j i) [
  | inl w ↦ (let P : ℕ → Type 0 = λ n. get_or (set left i 65535) n 0 < 2 ^ 16 in subst P (sym w) (let g = get_or-set_same left i 65535 0 l in omega arith))
  | inr n ↦ (let g = get_or-set_other left i j 65535 0 n in let k = small j in omega arith)
]

pub step_out : (w : ℕ) (sets : StateSets) (drawn plain marked old left : List ℕ) (from on : ReachedSets) (i : ℕ) → i < length left → length drawn ≡ length left
    → SweptTo w sets drawn plain marked old left from i → Reaches w sets drawn left i 65535 on → (Shares on.marked (get_or plain i 0) ⊎ Shares on.all (get_or marked i 0) → ⊥)
    → SweptTo w sets drawn plain marked old (set left i 65535) on (suc i)
step_out w sets drawn plain marked old left from on i l e t ons none_shared = record {
  small = small_set left i l t.small;
  from_is = λ pattern are. behind_cell pattern left (set left i 65535) drawn i 65535 on (same_set left i 65535) (get_or-set_same left i 65535 0 l) (ons pattern are);
  so_far = λ pattern are tables none.
      let s = t.so_far pattern are tables none in
      let n = s.same_length in
      swept_out pattern drawn old left i (omega arith) l t.small s
      (λ m. none_shared ((test_marked pattern old left drawn plain marked i on (omega arith) l e (drop_more left old i n s.behind) (tables i (omega arith)) (ons pattern are)).1 m));
}

-- ---- cells that are not drawn

-- from no states a cell leads nowhere
nowhere_over : (end : End) (pattern : List ℕ) (mask : ℕ) (test : ℕ → Bool) → AreStates pattern test 0 → AreStates pattern (step_from end pattern mask test) 0
nowhere_over end pattern mask test none = record {
  each = λ q. (
    (λ h. absurd (in_none q h)),
    (λ p. let l = lead end pattern mask test q p.0 p.1 in absurd (in_none l.from ((none.each l.from).1 (l.inside, l.was)))),
  );
}

-- the states below n for which a test holds have a set
abbrev AreBelow : (ℕ → Bool) → ℕ → ℕ → Type 0
AreBelow test n set = (q : ℕ) → (has set q ≡ true) ↔ ((q < n) × (test q ≡ true))

one_state : (test : ℕ → Bool) (n few : ℕ) (b : Bool) → test n ≡ b → AreBelow test n few → (more : ℕ) × AreBelow test (suc n) more
one_state test n few true e is = (
  bit_or few (2 ^ n),
  λ q. (
    (λ h. elim (in_or few (2 ^ n) q h) [
      | inl x ↦ (let s = (is q).0 x in let k : q < suc n = (let l = s.0 in omega arith) in (k, s.1))
      | inr x ↦ (let at : q ≡ n = eqb-true _ _ (sym (has_power n q) ∙ x) in let k : q < suc n = omega arith in (k, ap test at ∙ e))
    ]),
    (λ p. elim (cases_eq q n) [
      | inl at ↦ right_in few (2 ^ n) q (has_power n q ∙ eq-eqb q n at)
      | inr other ↦ left_in few (2 ^ n) q ((is q).1 ((let l : q < suc n = p.0 in omega arith), p.1))
    ]),
  ),
)
one_state test n few false e is = (
  few,
  λ q. (
    (λ h. (let s = (is q).0 h in let k : q < suc n = (let l = s.0 in omega arith) in (k, s.1))),
    (λ p. elim (cases_eq q n) [
      | inl at ↦ absurd (false≢true (sym e ∙ (ap test (sym at) ∙ p.1)))
      | inr other ↦ (is q).1 ((let l : q < suc n = p.0 in omega arith), p.1)
    ]),
  ),
)

states_below : (test : ℕ → Bool) (n : ℕ) → (set : ℕ) × AreBelow test n set
states_below test zero = (0, λ q. ((λ h. absurd (in_none q h)), (λ p. absurd (let l : q < 0 = p.0 in omega arith))))
states_below test (suc n) = let s = states_below test n in one_state test n s.0 (test n) refl s.1

set_for : (pattern : List ℕ) (test : ℕ → Bool) → (set : ℕ) × AreStates pattern test set
set_for pattern test = let s = states_below test (length pattern) in (s.0, record { each = s.1 })

-- where no line is marked on one side of an undrawn cell, none is on the other
pub unmarked_over : (end : End) (w : ℕ) (pattern : List ℕ) (sets : StateSets) (mask d on : ℕ) (all marked : ℕ → Bool) → ArePatternSets w pattern sets → IsForeign sets.colours d
    → AreStates pattern marked 0 → AreStates pattern (step_from end pattern mask all) on
    → AreReached pattern (step_from end pattern mask all) (step_marked end pattern mask (bit_and mask d) all marked) (unmarked on)
unmarked_over end w pattern sets mask d on all marked are foreign none is = record {
  all_are = is;
  marked_are = either_states pattern (step_from end pattern mask marked) (step_from end pattern (bit_and mask d) all) 0 0 (nowhere_over end pattern mask marked none)
      (none_over end w pattern sets (bit_and mask d) all are (foreign_part sets.colours mask d foreign));
}

-- one undrawn cell more
pub undrawn_more : (colours : ℕ) (drawn : List ℕ) (i : ℕ) → IsForeign colours (get_or drawn i 0) → IsUndrawn colours drawn (suc i) → IsUndrawn colours drawn i
undrawn_more colours drawn i here rest = λ j h. elim (cases_eq j i) [
  | inl e ↦ let P : ℕ → Type 0 = λ n. IsForeign colours (get_or drawn n 0) in subst P (sym e) here
  | inr other ↦ rest j (omega arith)
]

pub undrawn_past : (colours : ℕ) (drawn : List ℕ) (i : ℕ) → length drawn ≤ i → IsForeign colours (get_or drawn i 0)
undrawn_past colours drawn i h k a b = false≢true (sym (allows_none k) ∙ (ap (λ m. allows m k) (sym (get_or_past drawn i 0 h)) ∙ a))

-- the marked lines after an undrawn cell
pub marked_forward : (w : ℕ) (pattern : List ℕ) (sets : StateSets) (mask d on : ℕ) (all marked : ℕ → Bool) → ArePatternSets w pattern sets → IsForeign sets.colours d
    → AreStates pattern (reach_step pattern mask marked) on → AreStates pattern (step_marked Front pattern mask (bit_and mask d) all marked) on
marked_forward w pattern sets mask d on all marked are foreign is =
    let P : ℕ → Type 0 = λ n. AreStates pattern (step_marked Front pattern mask (bit_and mask d) all marked) n in
    subst P (or_zero_r on) (either_states pattern (reach_step pattern mask marked) (reach_step pattern (bit_and mask d) all) on 0 is
    (none_over Front w pattern sets (bit_and mask d) all are (foreign_part sets.colours mask d foreign)))

-- where none of the pattern's colours is drawn no line is marked
never_marked : (w : ℕ) (pattern : List ℕ) (sets : StateSets) (masks drawn : List ℕ) (q : ℕ) → ArePatternSets w pattern sets → IsUndrawn sets.colours drawn 0
    → finishes_marked pattern masks drawn q ≡ true → ⊥
never_marked w pattern sets [] drawn q are none m = false≢true m
never_marked w pattern sets (mask ∷ masks) [] q are none m = false≢true m
never_marked w pattern sets (mask ∷ masks) (d ∷ drawn) q are none m = elim (or_cases _ _ m) [
  | inl a ↦
      let c = finish_crosses pattern mask (finishes_marked pattern masks drawn) q a in
      never_marked w pattern sets masks drawn c.1.next are (λ i h. none (suc i) (omega arith)) c.1.reaches_good
  | inr b ↦
      let c = finish_crosses pattern (bit_and mask d) (finishes pattern masks) q b in
      not_spelled w pattern sets (bit_and mask d) c.0 are (foreign_part sets.colours mask d (none 0 (omega arith))) c.1.allowed (step_spells pattern q c.0 c.1.next c.1.step)
]

-- the test of a cell before which no line is marked
pub test_first : (on plain marked : ℕ) → (Shares 0 plain ⊎ Shares on marked) ↔ Shares on marked
test_first on plain marked = (
  (λ s. elim s [ inl x ↦ absurd (in_none x.0 x.1) | inr x ↦ x ]),
  (λ s. inr s),
)

-- the test of a cell from which on none of the pattern's colours is drawn
pub test_last : (w : ℕ) (sets : StateSets) (pattern old left drawn plain marked : List ℕ) (i on : ℕ) → ArePatternSets w pattern sets → 0 < length pattern → i < length left → length drawn ≡ length left
    → drop (suc i) left ≡ drop (suc i) old → IsUndrawn sets.colours drawn i → AreBehind pattern old drawn plain marked i
    → AreStates pattern (reach_step pattern 65535 (reaches_marked pattern left drawn i)) on → Shares on (get_or plain i 0) ↔ (finishes_marked pattern (set left i 65535) drawn 0 ≡ true)
test_last w sets pattern old left drawn plain marked i on are p l e d none b is =
    let all = set_for pattern (reach_step pattern 65535 (reaches pattern left i)) in
    let r : AreReached pattern (reach_step pattern 65535 (reaches pattern left i))
    (step_marked Front pattern 65535 (bit_and 65535 (get_or drawn i 0)) (reaches pattern left i) (reaches_marked pattern left drawn i)) (record { all = all.0; marked = on }) = record {
      all_are = all.1;
      marked_are = marked_forward w pattern sets 65535 (get_or drawn i 0) on (reaches pattern left i) (reaches_marked pattern left drawn i) are (none i (omega arith)) is;
    } in
    let t = test_marked pattern old left drawn plain marked i (record { all = all.0; marked = on }) p l e d b r in
    let P : ℕ → Type 0 = IsForeign sets.colours in
    let rest : IsUndrawn sets.colours (drop (suc i) drawn) 0 = λ j h. subst P (sym (get_or-drop (suc i) drawn j 0)) (none (suc i + j) (omega arith)) in (
      (λ s. t.0 (inl s)),
      (λ m. elim (t.1 m) [
        | inl s ↦ s
        | inr s ↦ (let x = (b.marked_are.each s.0).0 s.2 in absurd (never_marked w pattern sets (drop (suc i) old) (drop (suc i) drawn) s.0 are rest x.1))
      ]),
    )

-- the states of marked lines after cell i with these colours there
abbrev pub Marks : ℕ → StateSets → List ℕ → List ℕ → ℕ → ℕ → ℕ → Type 0
Marks w sets drawn left i mask on = (pattern : List ℕ) → ArePatternSets w pattern sets → AreStates pattern (reach_step pattern mask (reaches_marked pattern left drawn i)) on

-- marked lines after cell i of a line that has the same masks before it, and this mask there
marked_behind : (w : ℕ) (pattern : List ℕ) (sets : StateSets) (left new drawn : List ℕ) (i mask on : ℕ) → ArePatternSets w pattern sets → SameBefore i new left → get_or new i 0 ≡ mask
    → IsForeign sets.colours (get_or drawn i 0) → AreStates pattern (reach_step pattern mask (reaches_marked pattern left drawn i)) on → AreStates pattern (reaches_marked pattern new drawn (suc i)) on
marked_behind w pattern sets left new drawn i mask on are same e none is =
    let all = set_for pattern (reach_step pattern mask (reaches pattern left i)) in
    let r : AreReached pattern (reach_step pattern mask (reaches pattern left i))
    (step_marked Front pattern mask (bit_and mask (get_or drawn i 0)) (reaches pattern left i) (reaches_marked pattern left drawn i)) (record { all = all.0; marked = on }) =
    record { all_are = all.1; marked_are = marked_forward w pattern sets mask (get_or drawn i 0) on (reaches pattern left i) (reaches_marked pattern left drawn i) are none is } in
    (behind_cell pattern left new drawn i mask (record { all = all.0; marked = on }) same e r).marked_are

pub last_kept : (w : ℕ) (sets : StateSets) (drawn plain marked old left : List ℕ) (from on next i : ℕ) → i < length left → length drawn ≡ length left → IsUndrawn sets.colours drawn i
    → SweptMarked w sets drawn plain marked old left from i → Marks w sets drawn left i 65535 on → Marks w sets drawn left i (get_or left i 0) next → Shares on (get_or plain i 0)
    → SweptMarked w sets drawn plain marked old left next (suc i)
last_kept w sets drawn plain marked old left from on next i l e none t ons nexts shares = record {
  small = t.small;
  from_is = λ pattern are. marked_behind w pattern sets left left drawn i (get_or left i 0) next are (same_here left i) refl (none i (omega arith)) (nexts pattern are);
  so_far = λ pattern are tables unmarked_old.
      let s = t.so_far pattern are tables unmarked_old in
      let n = s.same_length in
      swept_kept pattern drawn old left i s
      ((test_last w sets pattern old left drawn plain marked i on are (omega arith) l e (drop_more left old i n s.behind) none (tables i (omega arith)) (ons pattern are)).0 shares);
}

pub last_out : (w : ℕ) (sets : StateSets) (drawn plain marked old left : List ℕ) (from on i : ℕ) → i < length left → length drawn ≡ length left → IsUndrawn sets.colours drawn i
    → SweptMarked w sets drawn plain marked old left from i → Marks w sets drawn left i 65535 on → (Shares on (get_or plain i 0) → ⊥)
    → SweptMarked w sets drawn plain marked old (set left i 65535) on (suc i)
last_out w sets drawn plain marked old left from on i l e none t ons none_shared = record {
  small = small_set left i l t.small;
  from_is =
      λ pattern are. marked_behind w pattern sets left (set left i 65535) drawn i 65535 on are (same_set left i 65535) (get_or-set_same left i 65535 0 l) (none i (omega arith)) (ons pattern are);
  so_far = λ pattern are tables unmarked_old.
      let s = t.so_far pattern are tables unmarked_old in
      let n = s.same_length in
      swept_out pattern drawn old left i (omega arith) l t.small s
      (λ m. none_shared ((test_last w sets pattern old left drawn plain marked i on are (omega arith) l e (drop_more left old i n s.behind) none (tables i (omega arith)) (ons pattern are)).1 m));
}

-- whether two sets share a state, as the code tests it
pub share_test : (a b both : ℕ) (none : Bool) → both ≡ bit_and a b → none ≡ (both == 0) → (none ≡ false → Shares a b) × (none ≡ true → Shares a b → ⊥)
share_test a b both none e f = (
  (λ no. some_shared a b (let n = eqb-false both 0 (sym f ∙ no) in λ z. n (e ∙ z))),
  (λ yes s. shared_some a b s (sym e ∙ eqb-true both 0 (sym f ∙ yes))),
)

-- ---- the whole line

pub leaves_out : (clue : List Block) (drawn old new : List ℕ) → IsClue clue → ForcesAll clue old drawn
    → ((finishes_marked (pattern_of clue) old drawn 0 ≡ true → ⊥) → SweepsOut (pattern_of clue) drawn old new (length old)) → LeavesOut clue drawn old new
leaves_out clue drawn old new b f swept =
    let s = swept (forces_unmarked clue old drawn b f) in
    record {
      same_length = s.same_length;
      each = s.each;
      forced = unmarked_forces clue new drawn b s.forced;
      needed = λ i l n. marked_misses clue (set new i 65535) drawn b (s.needed i l n);
    }

-- where all sixteen colours are left everywhere, nothing can be left out
pub leaves_open : (clue : List Block) (drawn left : List ℕ) → ForcesAll clue left drawn → All (λ (mask : ℕ). mask ≡ all_sixteen) left → LeavesOut clue drawn left left
leaves_open clue drawn left forced full = record {
  same_length = refl;
  each = λ i l. inl refl;
  forced = forced;
  needed = λ i l n. absurd (n (All-get_or (λ (mask : ℕ). mask ≡ all_sixteen) left i 0 l full));
}

-- a line without room for the blocks forces everything, so all is left out
pub leaves_all : (clue : List Block) (drawn old new : List ℕ) → IsClue clue → new ≡ replicate (length old) 65535 → length old + 1 < length (pattern_of clue) → LeavesOut clue drawn old new
leaves_all clue drawn old new b e l =
    let n : length new ≡ length old = ap length e ∙ length-replicate (length old) 65535 in
    let full : (i : ℕ) → i < length old → get_or new i 0 ≡ 65535 = λ i h. ap (λ m. get_or m i 0) e ∙ get_or-replicate (length old) i 65535 0 h in
    record {
      same_length = n;
      each = λ i h. inr (full i h);
      forced = λ i k d h. too_long clue new b (omega arith) (have_fits h);
      needed = λ i h f. absurd (f (full i h));
    }
