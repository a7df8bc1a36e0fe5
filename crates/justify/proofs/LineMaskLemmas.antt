-- Masks of a line made from premises, complemented, and compared.
use Rattle.std.proofs.Common.{◌≡◌, Bool, not, nat_eq, ne_eqb, ℕ, ◌+◌, ◌-◌, ◌<◌, ◌≤◌, ◌^◌, ◌↔◌, List, length, refl, sym, ap, ◌∙◌, subst, arith, inl, inr, get_or, set, bit_and, bit_or, get_or-set_same}
use Rattle.std.proofs.Common.{get_or-set_other}
use Rattle.std.specs.Prelude.{IsBitSet}
use Rattle.std.specs.Int.{bit_at, trailing_zeros, w16}
use Rattle.std.proofs.lemmas.Bool.{cases_eq, cases_lt}
use Rattle.std.specs.Bool.{MatchBool}
use Rattle.std.specs.List.{All}
use Rattle.std.proofs.lemmas.List.{get_or_past, length-set}
use Rattle.std.proofs.lemmas.List.Elements.{All-get_or, All-from_get_or}
use Rattle.std.proofs.lemmas.Nat.{le_or_l, le_or_r}
use Rattle.std.proofs.lemmas.Nat.Bits.{bit_at_and, bit_at-lt, bit_at_not, bit_at-trailing_zeros}
use Rattle.justify.specs.declared.premise.Premise.{Premise}
use Rattle.justify.specs.Premises.{premise_at, ArePremises, IsComplement, KeepsLost, LeavesRest, HasSaid}
use Rattle.picture.proofs.BitLaws.{bit_is_set, set_bit, no_bit, bit_below}
use Rattle.line_facts.proofs.MaskLaws.{full_has, without_bit}
use Rattle.justify.proofs.SaidLemmas.{mentions_or_not}

-- ---- bits

-- the colours that a mask does not have
pub complement_bit : (mask k : ℕ) → mask < 2 ^ 16 → IsBitSet (65535 - mask) k ↔ ((k < 16) × (IsBitSet mask k → ⊥))
complement_bit mask k small = (
  (λ s.
      let below : 65535 - mask < 2 ^ 16 = omega arith in
      let l = bit_below (65535 - mask) 16 k below s in (
        l,
        λ t.
            let e = set_bit (65535 - mask) k s in
            let f = set_bit mask k t in
            let n = bit_at_not w16 mask k small l in
            absurd (omega arith),
      )),
  (λ p.
      let n = bit_at_not w16 mask k small p.0 in
      elim (cases_eq (bit_at mask k) 1) [
        | inl f ↦ absurd (p.1 (bit_is_set mask k f))
        | inr g ↦ (let b = bit_at-lt mask k in bit_is_set (65535 - mask) k (omega arith))
      ]),
)

-- a mask with a colour is not 0, and one that is not 0 has a colour
pub some_bit : (mask : ℕ) → 0 < mask → mask < 2 ^ 16 → (k : ℕ) × IsBitSet mask k
some_bit mask some small = (trailing_zeros w16 mask, bit_is_set mask (trailing_zeros w16 mask) (bit_at-trailing_zeros w16 mask some small).1)

pub both_bits : (a b k : ℕ) → IsBitSet (bit_and a b) k ↔ (IsBitSet a k × IsBitSet b k)
both_bits a b k =
    let e = bit_at_and a b k in
    let x = bit_at-lt a k in
    let y = bit_at-lt b k in (
      (λ s. let f = set_bit (bit_and a b) k s in (bit_is_set a k (omega arith), bit_is_set b k (omega arith))),
      (λ p. let f = set_bit a k p.0 in let g = set_bit b k p.1 in bit_is_set (bit_and a b) k (omega arith)),
    )

-- the union of masks is empty where each mask is
pub empty_more : (masks : List ℕ) (seen n : ℕ) → ((seen ≡ 0) ↔ ((i : ℕ) → i < n → get_or masks i 0 ≡ 0)) → (bit_or seen (get_or masks n 0) ≡ 0) ↔ ((i : ℕ) → i < n + 1 → get_or masks i 0 ≡ 0)
empty_more masks seen n so_far = grind (arith, bit_or, get_or, le_or_l, le_or_r)

-- one more mask of those that are kept
pub lost_more : (masks : List ℕ) (seen lost n : ℕ) → n < length masks → ((seen ≡ 0) ↔ ((i : ℕ) → i < n → get_or masks i 0 ≡ 0))
    → (bit_or seen lost ≡ 0) ↔ ((i : ℕ) → i < n + 1 → get_or (set masks n lost) i 0 ≡ 0)
lost_more masks seen lost n room so_far =
    let here = get_or-set_same masks n lost 0 room in
    let before : (seen ≡ 0) ↔ ((i : ℕ) → i < n → get_or (set masks n lost) i 0 ≡ 0) = (
      (λ e i l. get_or-set_other masks n i lost 0 (omega arith) ∙ so_far.0 e i l),
      (λ all. so_far.1 (λ i l. sym (get_or-set_other masks n i lost 0 (omega arith)) ∙ all i l)),
    ) in
    let P : ℕ → Type 0 = λ m. (bit_or seen m ≡ 0) ↔ ((i : ℕ) → i < n + 1 → get_or (set masks n lost) i 0 ≡ 0) in
    subst P here (empty_more (set masks n lost) seen n before)

pub lost_so_far : (before old masks : List ℕ) (n : ℕ) → n < length masks → get_or masks n 0 ≡ get_or old n 0
    → ((i : ℕ) → i < n → get_or masks i 0 ≡ bit_and (get_or before i 0) (65535 - get_or old i 0)) → (i : ℕ) → i < n + 1
    → get_or (set masks n (bit_and (get_or before n 0) (65535 - get_or masks n 0))) i 0 ≡ bit_and (get_or before i 0) (65535 - get_or old i 0)
lost_so_far before old masks n room same done i l = elim (cases_eq i n) [
  | inl e ↦
      let value : ℕ → ℕ = λ m. bit_and (get_or before n 0) (65535 - m) in
      let P : ℕ → Type 0 = λ j. get_or (set masks n (value (get_or masks n 0))) j 0 ≡ bit_and (get_or before j 0) (65535 - get_or old j 0) in
      subst P (sym e) (get_or-set_same masks n (value (get_or masks n 0)) 0 room ∙ ap value same)
  | inr other ↦ get_or-set_other masks n i _ 0 other ∙ done i (omega arith)
]

-- some colours are lost where not all masks are empty
pub any_lost : (masks : List ℕ) (seen n : ℕ) → length masks ≤ n → ((seen ≡ 0) ↔ ((i : ℕ) → i < n → get_or masks i 0 ≡ 0))
    → MatchBool (not (nat_eq seen 0)) (All (λ mask. mask ≡ 0) masks → ⊥) (All (λ mask. mask ≡ 0) masks)
any_lost masks seen n all so_far = elim (cases_eq seen 0) [
  | inl e ↦
      let P : ℕ → Type 0 = λ m. MatchBool (not (nat_eq m 0)) (All (λ mask. mask ≡ 0) masks → ⊥) (All (λ mask. mask ≡ 0) masks) in
      subst P (sym e) (All-from_get_or (λ mask. mask ≡ 0) masks 0 (λ i l. so_far.0 e i (omega arith)))
  | inr some ↦
      let Q : Bool → Type 0 = λ b. MatchBool (not b) (All (λ mask. mask ≡ 0) masks → ⊥) (All (λ mask. mask ≡ 0) masks) in
      subst Q (sym (ne_eqb seen 0 some)) (λ none. some (so_far.1 (λ i l. elim (cases_lt i (length masks)) [
        | inl inside ↦ All-get_or (λ mask. mask ≡ 0) masks i 0 inside none
        | inr past ↦ get_or_past masks i 0 past
      ])))
]

-- ---- whole lines

pub complemented : (old new : List ℕ) (n : ℕ) → length new ≡ length old → length old ≤ n → ((i : ℕ) → get_or old i 0 < 2 ^ 16) → ((i : ℕ) → i < n → get_or new i 0 ≡ 65535 - get_or old i 0)
    → IsComplement old new
complemented old new n len all small done = record {
  same_length = len;
  small = small;
  colours = λ i k l. (let P : ℕ → Type 0 = λ m. IsBitSet m k ↔ ((k < 16) × (IsBitSet (get_or old i 0) k → ⊥)) in subst P (sym (done i (omega arith))) (complement_bit (get_or old i 0) k (small i)));
}

pub lost_kept : (before old new : List ℕ) (n : ℕ) → length new ≡ length old → length before ≡ length old → length old ≤ n → ((i : ℕ) → get_or before i 0 < 2 ^ 16) → ((i : ℕ) → get_or old i 0 < 2 ^ 16)
    → ((i : ℕ) → i < n → get_or new i 0 ≡ bit_and (get_or before i 0) (65535 - get_or old i 0)) → KeepsLost before old new
lost_kept before old new n len same all small_before small done = record {
  same_length = len;
  colours = λ i k. elim (cases_lt i (length old)) [
    | inl l ↦
        subst (λ (m : ℕ). IsBitSet m k ↔ (IsBitSet (get_or before i 0) k × (IsBitSet (get_or old i 0) k → ⊥))) (sym (done i (omega arith)))
        (without_bit (get_or before i 0) (get_or old i 0) k (small_before i) (small i))
    | inr past ↦
        let P : ℕ → Type 0 = λ m. IsBitSet m k in (
          (λ s. absurd (no_bit k (subst P (get_or_past new i 0 (omega arith)) s))),
          (λ p. absurd (no_bit k (subst P (get_or_past before i 0 (omega arith)) p.0))),
        )
  ];
}

-- ---- what premises leave

-- the first n premises are taken out of a full line
pub record Rest (premises : List Premise) (n : ℕ) (left : List ℕ) : Type 0 where
  pub done : (m : ℕ) → m < n → get_or left (premise_at premises m).at 0 ≡ 65535 - (premise_at premises m).colours
  pub others : (i : ℕ) → i < length left → ((m : ℕ) → m < n → (premise_at premises m).at ≡ i → ⊥) → get_or left i 0 ≡ 65535

pub rest_more : (premises : List Premise) (n : ℕ) (left : List ℕ) → ArePremises premises → n < length premises → (premise_at premises n).at < length left → Rest premises n left
    → Rest premises (n + 1) (set left (premise_at premises n).at (65535 - (premise_at premises n).colours))
rest_more premises n left are within inside r =
    let at = (premise_at premises n).at in
    let mask = 65535 - (premise_at premises n).colours in
    record {
      done = λ m l. elim (cases_eq m n) [
        | inl e ↦
            subst (λ (j : ℕ). get_or (set left at mask) (premise_at premises j).at 0 ≡ 65535 - (premise_at premises j).colours) (sym e) (get_or-set_same left at mask 0 inside)
        | inr other ↦
            let below : m < n = omega arith in
            let rises = are.rising m n below within in
            get_or-set_other left at (premise_at premises m).at mask 0 (λ e. absurd (omega arith)) ∙ r.done m below
      ];
      others = λ i l none.
          get_or-set_other left at i mask 0 (λ e. none n (omega arith) (sym e))
          ∙ r.others i (let s = length-set left at mask in omega arith) (λ m b. none m (omega arith));
    }

-- a place has one premise
pub one_place : (premises : List Premise) (m n : ℕ) → ArePremises premises → m < length premises → n < length premises → (premise_at premises m).at ≡ (premise_at premises n).at → m ≡ n
one_place premises m n are a b e = grind arith

pub rest_all : (premises : List Premise) (n : ℕ) (left : List ℕ) → ArePremises premises → length premises ≡ n → Rest premises n left → LeavesRest premises left
rest_all premises n left are all r i k l = elim (mentions_or_not premises i) [
  | inl here ↦
      let m = here.which in
      let w = here.within in
      let e : get_or left i 0 ≡ 65535 - (premise_at premises m).colours = ap (λ j. get_or left j 0) (sym here.here) ∙ r.done m (omega arith) in
      let P : ℕ → Type 0 = λ c. IsBitSet c k in
      let b = complement_bit (premise_at premises m).colours k (are.small m) in (
        (λ s.
            let x = b.0 (subst P e s) in (
              x.0,
              λ says.
                  let same = one_place premises says.which m are says.within w (says.here ∙ sym here.here) in
                  x.1 (subst P (ap (λ j. (premise_at premises j).colours) same) says.colour),
            )),
        (λ p. subst P (sym e) (b.1 (p.0, λ c. p.1 (record { which = m; within = w; here = here.here; colour = c })))),
      )
  | inr none ↦
      let e = r.others i l (λ m b h. none (record { which = m; within = omega arith; here = h })) in
      let P : ℕ → Type 0 = λ c. IsBitSet c k in (
        (λ s. (bit_below 65535 16 k (omega arith) (subst P e s), λ says. none (record { which = says.which; within = says.within; here = says.here }))),
        (λ p. subst P (sym e) (full_has k p.0)),
      )
]

-- ---- a cell that has what is said of it

pub said_here : (premises : List Premise) (left : List ℕ) (m : ℕ) → m < length premises → 0 < bit_and (get_or left (premise_at premises m).at 0) (premise_at premises m).colours
    → bit_and (get_or left (premise_at premises m).at 0) (premise_at premises m).colours < 2 ^ 16 → HasSaid premises left
said_here premises left m within some small =
    let b = some_bit _ some small in
    let both = (both_bits (get_or left (premise_at premises m).at 0) (premise_at premises m).colours b.0).0 b.1 in
    record {
      place = (premise_at premises m).at;
      colour = b.0;
      says = record { which = m; within = within; here = refl; colour = both.1 };
      has = both.0;
    }

pub none_said : (premises : List Premise) (left : List ℕ) (n : ℕ) → length premises ≤ n → ((m : ℕ) → m < n → bit_and (get_or left (premise_at premises m).at 0) (premise_at premises m).colours ≡ 0)
    → HasSaid premises left → ⊥
none_said premises left n all none h =
    let s = h.says in
    let P : ℕ → Type 0 = λ c. IsBitSet c h.colour in
    let has : IsBitSet (get_or left (premise_at premises s.which).at 0) h.colour = subst P (ap (λ j. get_or left j 0) (sym s.here)) h.has in
    no_bit h.colour (subst P (none s.which (let w = s.within in omega arith)) ((both_bits _ _ h.colour).1 (has, s.colour)))
