-- Lists that have a drawn colour somewhere, by the states that they go through.
use Rattle.std.proofs.Common.{◌≡◌, ℕ, zero, suc, ◌<◌, ◌≤◌, ◌⊎◌, Bool, true, ◌||◌, List, [], ◌∷◌, bit_and, refl, sym, ap, subst, ◌∙◌, arith, inl, inr, length, get_or, drop, drop-cons}
use Rattle.std.proofs.lemmas.Bool.{or_cases, or_left, or_right, false≢true, eqb-true}
use Rattle.clues.specs.declared.block.Block.{Block}
use Rattle.clues.specs.Clue.{IsClue}
use Rattle.line_settle.specs.LeftOut.{ForcesAll, Misses}
use Rattle.line_settle.specs.Directions.End.{Front, Back}
use Rattle.line_settle.specs.MarkedLists.{finishes_marked, reaches_marked, step_marked}
use Rattle.line_settle.specs.Patterns.{pattern_of, allows, finish_step, finishes, reach_step, reaches}
use Rattle.line_settle.proofs.BitLemmas.{allows_none}
use Rattle.line_settle.proofs.FillLemmas.{reach_step_agree}
use Rattle.line_settle.proofs.FittingLemmas.{allows_bit, bit_allows, fits_from, fits_keeps, fits_spells}
use Rattle.line_settle.proofs.StateLemmas.{SpellsAt, Step, spells_onward, spells_from}
use Rattle.line_settle.proofs.StateSetLemmas.{allowed_both, both_allowed}
use Rattle.line_settle.proofs.StepLemmas.{crosses_finish, finish_crosses, step_reaches, reached_by_step}
use Rattle.line_settle.proofs.TableLemmas.{Keeps, finishes_from, ending_of}

pub within : (pattern : List ℕ) (q x r : ℕ) → q < length pattern → Step pattern q x r → r < length pattern
within pattern q x r h s = elim s [ inl a ↦ (let l = a.0 in let e = a.2 in omega arith) | inr b ↦ (let e = b.2 in omega arith) ]

-- ---- marked lines as lists

-- a line of cells with these masks that spells the pattern on from state q, and has a drawn colour in some cell
pub record MarkedLine (pattern masks drawn : List ℕ) (q : ℕ) : Type 0 where
  pub line : List ℕ
  pub keeps : Keeps masks line
  pub spells : SpellsAt pattern q line
  pub place : ℕ
  pub inside : place < length masks
  pub is_drawn : allows (get_or drawn place 0) (get_or line place 0) ≡ true

pub marked_line : (pattern masks drawn : List ℕ) (q : ℕ) → q < length pattern → finishes_marked pattern masks drawn q ≡ true → MarkedLine pattern masks drawn q
marked_line pattern [] drawn q h e = absurd (false≢true e)
marked_line pattern (mask ∷ masks) [] q h e = absurd (false≢true e)
marked_line pattern (mask ∷ masks) (d ∷ drawn) q h e = elim (or_cases _ _ e) [
  | inl a ↦
      let c = finish_crosses pattern mask (finishes_marked pattern masks drawn) q a in
      let n = marked_line pattern masks drawn c.1.next (within pattern q c.0 c.1.next h c.1.step) c.1.reaches_good in
      record {
        line = c.0 ∷ n.line;
        keeps = (c.1.allowed, n.keeps);
        spells = spells_from pattern q c.0 c.1.next n.line c.1.step n.spells;
        place = suc n.place;
        inside = (let l = n.inside in omega arith);
        is_drawn = n.is_drawn;
      }
  | inr b ↦
      let c = finish_crosses pattern (bit_and mask d) (finishes pattern masks) q b in
      let a = allowed_both mask d c.0 c.1.allowed in
      let n = ending_of pattern masks c.1.next (within pattern q c.0 c.1.next h c.1.step) c.1.reaches_good in
      record {
        line = c.0 ∷ n.line;
        keeps = (a.0, n.keeps);
        spells = spells_from pattern q c.0 c.1.next n.line c.1.step n.spells;
        place = 0;
        inside = omega arith;
        is_drawn = a.1;
      }
]

pub line_marked : (pattern masks drawn line : List ℕ) (q place : ℕ) → q < length pattern → Keeps masks line → SpellsAt pattern q line → place < length masks
    → allows (get_or drawn place 0) (get_or line place 0) ≡ true → finishes_marked pattern masks drawn q ≡ true
line_marked pattern [] drawn line q place h k s l a = absurd (omega arith)
line_marked pattern (mask ∷ masks) drawn [] q place h k s l a = absurd k
line_marked pattern (mask ∷ masks) [] (x ∷ line) q place h k s l a = absurd (false≢true (sym (allows_none (get_or (x ∷ line) place 0)) ∙ a))
line_marked pattern (mask ∷ masks) (d ∷ drawn) (x ∷ line) q zero h k s l a =
    let o = spells_onward pattern q x line h s in
    or_right _ _ (crosses_finish pattern (bit_and mask d) (finishes pattern masks) q x
    (record { next = o.next; step = o.step; allowed = both_allowed mask d x k.0 a; reaches_good = finishes_from pattern masks line o.next o.within k.1 o.spells }))
line_marked pattern (mask ∷ masks) (d ∷ drawn) (x ∷ line) q (suc place) h k s l a =
    let o = spells_onward pattern q x line h s in
    or_left _ _ (crosses_finish pattern mask (finishes_marked pattern masks drawn) q x
    (record { next = o.next; step = o.step; allowed = k.0; reaches_good = line_marked pattern masks drawn line o.next place o.within k.1 o.spells (omega arith) a }))

-- something drawn is missed exactly where a line is marked
pub misses_marked : (clue : List Block) (left drawn : List ℕ) → IsClue clue → Misses clue left drawn → finishes_marked (pattern_of clue) left drawn 0 ≡ true
misses_marked clue left drawn b m =
    let P : ℕ → Type 0 = λ k. allows (get_or drawn m.place 0) k ≡ true in
    line_marked (pattern_of clue) left drawn m.has.line 0 m.place (omega arith) (fits_keeps m.has.fits) (fits_spells clue m.has.line b m.has.fits) m.has.within
    (subst P (sym m.has.has) (bit_allows _ _ m.is_drawn))

pub marked_misses : (clue : List Block) (left drawn : List ℕ) → IsClue clue → finishes_marked (pattern_of clue) left drawn 0 ≡ true → Misses clue left drawn
marked_misses clue left drawn b e =
    let m = marked_line (pattern_of clue) left drawn 0 (omega arith) e in
    record {
      place = m.place;
      colour = get_or m.line m.place 0;
      is_drawn = allows_bit _ _ m.is_drawn;
      has = record { line = m.line; fits = fits_from clue left m.line b m.keeps m.spells; within = m.inside; has = refl };
    }

pub forces_unmarked : (clue : List Block) (left drawn : List ℕ) → IsClue clue → ForcesAll clue left drawn → finishes_marked (pattern_of clue) left drawn 0 ≡ true → ⊥
forces_unmarked clue left drawn b f e =
    let m = marked_misses clue left drawn b e in
    f m.place m.colour m.is_drawn m.has

pub unmarked_forces : (clue : List Block) (left drawn : List ℕ) → IsClue clue → (finishes_marked (pattern_of clue) left drawn 0 ≡ true → ⊥) → ForcesAll clue left drawn
unmarked_forces clue left drawn b n = λ i k d h. n (misses_marked clue left drawn b (record { place = i; colour = k; is_drawn = d; has = h }))

-- ---- wider masks

-- the same line with as many colours left, or more
pub record IsWider (few more : List ℕ) : Type 0 where
  pub same_length : length more ≡ length few
  pub leaves : (i k : ℕ) → allows (get_or few i 0) k ≡ true → allows (get_or more i 0) k ≡ true

wider_rest : (m n : ℕ) (few more : List ℕ) → IsWider (m ∷ few) (n ∷ more) → IsWider few more
wider_rest m n few more w = record { same_length = (let e = w.same_length in omega arith); leaves = λ i k a. w.leaves (suc i) k a }

wider_keeps : (few more line : List ℕ) → IsWider few more → Keeps few line → Keeps more line
wider_keeps [] [] [] w k = tt
wider_keeps [] [] (x ∷ line) w k = absurd k
wider_keeps [] (n ∷ more) line w k = absurd (let e = w.same_length in omega arith)
wider_keeps (m ∷ few) [] line w k = absurd (let e = w.same_length in omega arith)
wider_keeps (m ∷ few) (n ∷ more) [] w k = absurd k
wider_keeps (m ∷ few) (n ∷ more) (x ∷ line) w k = (w.leaves 0 x k.0, wider_keeps few more line (wider_rest m n few more w) k.1)

pub wider_marked : (pattern few more drawn : List ℕ) (q : ℕ) → q < length pattern → IsWider few more → finishes_marked pattern few drawn q ≡ true → finishes_marked pattern more drawn q ≡ true
wider_marked pattern few more drawn q h w e =
    let m = marked_line pattern few drawn q h e in
    line_marked pattern more drawn m.line q m.place h (wider_keeps few more m.line w m.keeps) m.spells (let n = w.same_length in let l = m.inside in omega arith) m.is_drawn

-- ---- a cell in between

-- a state on both sides
pub record Meets (pattern : List ℕ) (before later : ℕ → Bool) : Type 0 where
  pub state : ℕ
  pub inside : state < length pattern
  pub is_before : before state ≡ true
  pub is_later : later state ≡ true

pub meets_on : (pattern : List ℕ) (mask : ℕ) (before later : ℕ → Bool) → Meets pattern before (finish_step pattern mask later) → Meets pattern (reach_step pattern mask before) later
meets_on pattern mask before later m =
    let c = finish_crosses pattern mask later m.state m.is_later in
    record {
      state = c.1.next;
      inside = within pattern m.state c.0 c.1.next m.inside c.1.step;
      is_before = step_reaches pattern mask before m.state c.0 c.1.next m.is_before c.1.allowed c.1.step;
      is_later = c.1.reaches_good;
    }

pub meets_back : (pattern : List ℕ) (mask : ℕ) (before later : ℕ → Bool) → Meets pattern (reach_step pattern mask before) later → Meets pattern before (finish_step pattern mask later)
meets_back pattern mask before later m =
    let r = reached_by_step pattern mask before m.state m.inside m.is_before in
    record {
      state = r.from;
      inside = (let l = m.inside in elim r.step [ inl a ↦ (let i = a.0 in omega arith) | inr b ↦ (let e = b.2 in omega arith) ]);
      is_before = r.was;
      is_later = crosses_finish pattern mask later r.from r.colour (record { next = m.state; step = r.step; allowed = r.allowed; reaches_good = m.is_later });
    }

-- a marked line has its drawn colour on this side of the cell, or on that side
abbrev pub Joins : List ℕ → (ℕ → Bool) → (ℕ → Bool) → (ℕ → Bool) → (ℕ → Bool) → Type 0
Joins pattern all marked later later_marked = Meets pattern marked later ⊎ Meets pattern all later_marked

meets_or : (pattern : List ℕ) (before f g : ℕ → Bool) → Meets pattern before (λ q. f q || g q) → Meets pattern before f ⊎ Meets pattern before g
meets_or pattern before f g m = elim (or_cases _ _ m.is_later) [
  | inl a ↦ inl (record { state = m.state; inside = m.inside; is_before = m.is_before; is_later = a })
  | inr a ↦ inr (record { state = m.state; inside = m.inside; is_before = m.is_before; is_later = a })
]

or_meets : (pattern : List ℕ) (f g later : ℕ → Bool) → Meets pattern (λ q. f q || g q) later → Meets pattern f later ⊎ Meets pattern g later
or_meets pattern f g later m = elim (or_cases _ _ m.is_before) [
  | inl a ↦ inl (record { state = m.state; inside = m.inside; is_before = a; is_later = m.is_later })
  | inr a ↦ inr (record { state = m.state; inside = m.inside; is_before = a; is_later = m.is_later })
]

later_left : (pattern : List ℕ) (before f g : ℕ → Bool) → Meets pattern before f → Meets pattern before (λ q. f q || g q)
later_left pattern before f g m = record { state = m.state; inside = m.inside; is_before = m.is_before; is_later = or_left _ _ m.is_later }

later_right : (pattern : List ℕ) (before f g : ℕ → Bool) → Meets pattern before g → Meets pattern before (λ q. f q || g q)
later_right pattern before f g m = record { state = m.state; inside = m.inside; is_before = m.is_before; is_later = or_right _ _ m.is_later }

before_left : (pattern : List ℕ) (f g later : ℕ → Bool) → Meets pattern f later → Meets pattern (λ q. f q || g q) later
before_left pattern f g later m = record { state = m.state; inside = m.inside; is_before = or_left _ _ m.is_before; is_later = m.is_later }

before_right : (pattern : List ℕ) (f g later : ℕ → Bool) → Meets pattern g later → Meets pattern (λ q. f q || g q) later
before_right pattern f g later m = record { state = m.state; inside = m.inside; is_before = or_right _ _ m.is_before; is_later = m.is_later }

pub joins_on : (pattern : List ℕ) (mask colours : ℕ) (all marked later later_marked : ℕ → Bool) → Joins pattern all marked (finish_step pattern mask later)
    (step_marked Back pattern mask colours later later_marked) → Joins pattern (reach_step pattern mask all) (step_marked Front pattern mask colours all marked) later later_marked
joins_on pattern mask colours all marked later later_marked j = elim j [
  | inl m ↦ inl (before_left pattern (reach_step pattern mask marked) (reach_step pattern colours all) later (meets_on pattern mask marked later m))
  | inr m ↦ elim (meets_or pattern all (finish_step pattern mask later_marked) (finish_step pattern colours later) m) [
    | inl a ↦ inr (meets_on pattern mask all later_marked a)
    | inr b ↦ inl (before_right pattern (reach_step pattern mask marked) (reach_step pattern colours all) later (meets_on pattern colours all later b))
  ]
]

pub joins_back : (pattern : List ℕ) (mask colours : ℕ) (all marked later later_marked : ℕ → Bool) → Joins pattern (reach_step pattern mask all)
    (step_marked Front pattern mask colours all marked) later later_marked → Joins pattern all marked (finish_step pattern mask later) (step_marked Back pattern mask colours later later_marked)
joins_back pattern mask colours all marked later later_marked j = elim j [
  | inl m ↦ elim (or_meets pattern (reach_step pattern mask marked) (reach_step pattern colours all) later m) [
    | inl a ↦ inl (meets_back pattern mask marked later a)
    | inr b ↦ inr (later_right pattern all (finish_step pattern mask later_marked) (finish_step pattern colours later) (meets_back pattern colours all later b))
  ]
  | inr m ↦ inr (later_left pattern all (finish_step pattern mask later_marked) (finish_step pattern colours later) (meets_back pattern mask all later_marked m))
]

-- the same before cell i of a line
abbrev pub JoinsAt : List ℕ → List ℕ → List ℕ → ℕ → Type 0
JoinsAt pattern masks drawn i = Joins pattern (reaches pattern masks i) (reaches_marked pattern masks drawn i) (finishes pattern (drop i masks)) (finishes_marked pattern (drop i masks) (drop i drawn))

pub joins_next : (pattern masks drawn : List ℕ) (i : ℕ) → i < length masks → length drawn ≡ length masks → JoinsAt pattern masks drawn i → JoinsAt pattern masks drawn (suc i)
joins_next pattern masks drawn i l e j =
    let m = drop-cons masks i 0 l in
    let d = drop-cons drawn i 0 (let k : i < length drawn = omega arith in k) in
    let P : List ℕ → Type 0 = λ ms. Joins pattern (reaches pattern masks i) (reaches_marked pattern masks drawn i) (finishes pattern ms) (finishes_marked pattern ms (drop i drawn)) in
    let Q : List ℕ → Type 0 = λ ds. Joins pattern (reaches pattern masks i) (reaches_marked pattern masks drawn i) (finishes pattern (get_or masks i 0 ∷ drop (suc i) masks))
    (finishes_marked pattern (get_or masks i 0 ∷ drop (suc i) masks) ds) in
    joins_on pattern (get_or masks i 0) (bit_and (get_or masks i 0) (get_or drawn i 0)) (reaches pattern masks i) (reaches_marked pattern masks drawn i) (finishes pattern (drop (suc i) masks))
    (finishes_marked pattern (drop (suc i) masks) (drop (suc i) drawn))
    (subst Q d (subst P m j))

pub joins_before : (pattern masks drawn : List ℕ) (i : ℕ) → i < length masks → length drawn ≡ length masks → JoinsAt pattern masks drawn (suc i) → JoinsAt pattern masks drawn i
joins_before pattern masks drawn i l e j =
    let m = drop-cons masks i 0 l in
    let d = drop-cons drawn i 0 (let k : i < length drawn = omega arith in k) in
    let P : List ℕ → Type 0 = λ ms. Joins pattern (reaches pattern masks i) (reaches_marked pattern masks drawn i) (finishes pattern ms) (finishes_marked pattern ms (drop i drawn)) in
    let Q : List ℕ → Type 0 = λ ds. Joins pattern (reaches pattern masks i) (reaches_marked pattern masks drawn i) (finishes pattern (get_or masks i 0 ∷ drop (suc i) masks))
    (finishes_marked pattern (get_or masks i 0 ∷ drop (suc i) masks) ds) in
    subst P (sym m) (subst Q (sym d)
    (joins_back pattern (get_or masks i 0) (bit_and (get_or masks i 0) (get_or drawn i 0)) (reaches pattern masks i) (reaches_marked pattern masks drawn i) (finishes pattern (drop (suc i) masks))
    (finishes_marked pattern (drop (suc i) masks) (drop (suc i) drawn)) j))

marked_joins : (pattern masks drawn : List ℕ) → 0 < length pattern → finishes_marked pattern masks drawn 0 ≡ true → JoinsAt pattern masks drawn 0
marked_joins pattern masks drawn h e = inr (record { state = 0; inside = h; is_before = refl; is_later = e })

joins_marked : (pattern masks drawn : List ℕ) → JoinsAt pattern masks drawn 0 → finishes_marked pattern masks drawn 0 ≡ true
joins_marked pattern masks drawn j = elim j [
  | inl m ↦ absurd (false≢true m.is_before)
  | inr m ↦ let P : ℕ → Type 0 = λ q. finishes_marked pattern masks drawn q ≡ true in subst P (eqb-true m.state 0 m.is_before) m.is_later
]

-- a line is marked exactly where the two sides of a place have a state in common, one of them marked
pub marked_at : (pattern masks drawn : List ℕ) (i : ℕ) → i ≤ length masks → length drawn ≡ length masks → 0 < length pattern → finishes_marked pattern masks drawn 0 ≡ true
    → JoinsAt pattern masks drawn i
marked_at pattern masks drawn zero l e h m = marked_joins pattern masks drawn h m
marked_at pattern masks drawn (suc i) l e h m = joins_next pattern masks drawn i (omega arith) e (marked_at pattern masks drawn i (omega arith) e h m)

pub at_marked : (pattern masks drawn : List ℕ) (i : ℕ) → i ≤ length masks → length drawn ≡ length masks → JoinsAt pattern masks drawn i → finishes_marked pattern masks drawn 0 ≡ true
at_marked pattern masks drawn zero l e j = joins_marked pattern masks drawn j
at_marked pattern masks drawn (suc i) l e j = at_marked pattern masks drawn i (omega arith) e (joins_before pattern masks drawn i (omega arith) e j)

-- ---- only the cells before a place decide what is reached there

abbrev pub SameBefore : ℕ → List ℕ → List ℕ → Type 0
SameBefore n a b = (i : ℕ) → i < n → get_or a i 0 ≡ get_or b i 0

fewer_before : (n : ℕ) (a b : List ℕ) → SameBefore (suc n) a b → SameBefore n a b
fewer_before n a b h = λ i l. h i (omega arith)

pub same_reached : (pattern a b : List ℕ) (n : ℕ) → SameBefore n a b → (q : ℕ) → q < length pattern → reaches pattern a n q ≡ reaches pattern b n q
same_reached pattern a b zero h q l = refl
same_reached pattern a b (suc n) h q l =
    ap (λ m. reach_step pattern m (reaches pattern a n) q) (h n (omega arith))
    ∙ reach_step_agree pattern (get_or b n 0) (reaches pattern a n) (reaches pattern b n) (same_reached pattern a b n (fewer_before n a b h)) q l

pub same_reached_marked : (pattern a b drawn : List ℕ) (n : ℕ) → SameBefore n a b → (q : ℕ) → q < length pattern → reaches_marked pattern a drawn n q ≡ reaches_marked pattern b drawn n q
same_reached_marked pattern a b drawn zero h q l = refl
same_reached_marked pattern a b drawn (suc n) h q l =
    let less = fewer_before n a b h in
    let m = get_or b n 0 in
    let d = bit_and m (get_or drawn n 0) in
    ap (λ x. step_marked Front pattern x (bit_and x (get_or drawn n 0)) (reaches pattern a n) (reaches_marked pattern a drawn n) q) (h n (omega arith))
    ∙ (ap (λ x. x || reach_step pattern d (reaches pattern a n) q)
    (reach_step_agree pattern m (reaches_marked pattern a drawn n) (reaches_marked pattern b drawn n) (same_reached_marked pattern a b drawn n less) q l)
    ∙ ap (λ x. reach_step pattern m (reaches_marked pattern b drawn n) q || x) (reach_step_agree pattern d (reaches pattern a n) (reaches pattern b n) (same_reached pattern a b n less) q l))
