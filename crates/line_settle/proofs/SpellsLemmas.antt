-- A list has a clue exactly when it spells the clue's pattern to its end.
use Rattle.std.proofs.Common.{◌≡◌, ◌≢◌, ℕ, zero, suc, List, [], ◌∷◌, refl, sym, ap, subst, ◌∙◌, arith, ◌⊎◌, inl, inr}
use Rattle.std.proofs.lemmas.Bool.{cases_eq}
use Rattle.clues.specs.declared.block.Block.{Block}
use Rattle.clues.specs.Clue.{block, clue_of}
use Rattle.line_settle.proofs.ClueLemmas.{Apart, clue_more_at, clue_apart, no_block, same_colour, longer_first, shorter_first, apart_from_clue, first_block, first_colour, clue_behind, clue_background}

-- the line spells the rest of a pattern to its end, where `last` is the cell of the pattern that was spelled last
abbrev pub Spells : ℕ → List ℕ → List ℕ → Type 0
Spells last [] [] = Unit {0}
Spells last (y ∷ rest) [] = ⊥
Spells last [] (x ∷ line) = (x ≡ 0) × Spells last [] line
Spells last (y ∷ rest) (x ∷ line) = ((x ≡ y) × Spells y rest line) ⊎ ((x ≡ 0) × (y ≢ 0) × (y ≢ last) × Spells last (y ∷ rest) line)

abbrev pub BeginsWith : ℕ → List ℕ → Type 0
BeginsWith c [] = ⊥
BeginsWith c (x ∷ f) = x ≡ c

-- a pattern has background only between two cells of one colour
abbrev pub Tight : ℕ → List ℕ → Type 0
Tight last [] = Unit {0}
Tight last (zero ∷ rest) = (last ≢ 0) × BeginsWith last rest × Tight zero rest
Tight last (suc y ∷ rest) = Tight (suc y) rest

tight_next : (p y : ℕ) (e : List ℕ) → Tight p (y ∷ e) → Tight y e
tight_next p zero e t = t.2
tight_next p (suc y) e t = t

-- a line that may wait for the pattern's next cell doesn't begin with the last one
apart_from_waiting : (p y : ℕ) (e f : List ℕ) → p ≢ 0 → y ≢ p → Spells p (y ∷ e) f → Apart p f
apart_from_waiting p y e [] h n s = tt
apart_from_waiting p y e (x ∷ f) h n s = λ i. elim s [ inl a ↦ n (sym a.0 ∙ sym i) | inr b ↦ h (i ∙ b.0) ]

apart_from_end : (p : ℕ) (f : List ℕ) → p ≢ 0 → Spells p [] f → Apart p f
apart_from_end p [] h s = tt
apart_from_end p (x ∷ f) h s = λ i. h (i ∙ s.0)

pub clue_from_spells : (p : ℕ) (e f : List ℕ) → Tight p e → Spells p e f → clue_of (p ∷ f) ≡ clue_of (p ∷ e)
clue_from_spells p [] [] t s = refl
clue_from_spells p (y ∷ e) [] t s = absurd s
clue_from_spells p [] (x ∷ f) t s =
    ap (λ z. clue_of (p ∷ z ∷ f)) s.0 ∙ (clue_background p f (λ h. apart_from_end p f h s.1) ∙ clue_from_spells p [] f tt s.1)
clue_from_spells p (y ∷ e) (x ∷ f) t s = elim s [
  | inl a ↦ ap (λ z. clue_of (p ∷ z ∷ f)) a.0 ∙ clue_behind p y f e (clue_from_spells y e f (tight_next p y e t) a.1)
  | inr b ↦ ap (λ z. clue_of (p ∷ z ∷ f)) b.0 ∙ (clue_background p f (λ h. apart_from_waiting p y e f h b.2 b.3) ∙ clue_from_spells p (y ∷ e) f t b.3)
]

-- what the first cell of a line says, where the line's clue is the pattern's
abbrev Steps : ℕ → ℕ → List ℕ → ℕ → List ℕ → Type 0
Steps p y e x f = ((x ≡ y) × (clue_of (y ∷ f) ≡ clue_of (y ∷ e))) ⊎ ((x ≡ 0) × (y ≢ 0) × (y ≢ p) × (clue_of (p ∷ f) ≡ clue_of (p ∷ y ∷ e)))

tails : {a b : Block} {f e : List Block} → a ∷ f ≡ b ∷ e → f ≡ e
tails h = cc

begins_is : (c : ℕ) (f : List ℕ) → BeginsWith c f → (g : List ℕ) × (f ≡ c ∷ g)
begins_is c [] h = absurd h
begins_is c (x ∷ f) h = (f, ap (λ y. y ∷ f) h)

-- the cell before is background
steps_behind_background : (y : ℕ) (e : List ℕ) (x : ℕ) (f : List ℕ) → y ≢ 0 → clue_of (x ∷ f) ≡ clue_of (y ∷ e) → Steps 0 y e x f
steps_behind_background y e x f n h = elim (cases_eq x 0) [
  | inl z ↦ inr (z, n, n, sym (ap (λ c. clue_of (c ∷ f)) z) ∙ h)
  | inr c ↦ let i = same_colour x y f e c n h in inl (i, sym (ap (λ c. clue_of (c ∷ f)) i) ∙ h)
]

-- the line goes on with the colour of the cell before
steps_in_run : (p y : ℕ) (e : List ℕ) (x : ℕ) (f : List ℕ) → p ≢ 0 → p ≡ x → clue_of (p ∷ x ∷ f) ≡ clue_of (p ∷ y ∷ e) → Steps p y e x f
steps_in_run p y e x f n i h = elim (cases_eq p y) [
  | inl k ↦
      let s = shorter_first p f e n (sym (clue_more_at p x f n i) ∙ (h ∙ clue_more_at p y e n k)) in
      inl (sym i ∙ k, let P : ℕ → Type 0 = λ c. clue_of (c ∷ f) ≡ clue_of (c ∷ e) in subst P k s)
  | inr k ↦ absurd (longer_first p f (clue_of (y ∷ e)) n (sym (clue_more_at p x f n i) ∙ (h ∙ clue_apart p (y ∷ e) n k)))
]

-- the clue goes on after a run of the cell before has ended
steps_after_run : (p y : ℕ) (e : List ℕ) (x : ℕ) (f : List ℕ) → p ≢ 0 → y ≢ p → p ≢ x → Tight p (y ∷ e) → clue_of (x ∷ f) ≡ clue_of (y ∷ e) → Steps p y e x f
steps_after_run p zero e x f n k i t h = elim (cases_eq x 0) [
  | inl z ↦ inl (z, sym (ap (λ c. clue_of (c ∷ f)) z) ∙ h)
  | inr c ↦
      let b = begins_is p e t.1 in
      absurd (i (sym (same_colour x p f b.0 c n (h ∙ ap clue_of b.1))))
]
steps_after_run p (suc y) e x f n k i t h = elim (cases_eq x 0) [
  | inl z ↦
      let m : suc y ≢ 0 = λ q. absurd (omega arith) in
      let g : clue_of f ≡ clue_of (suc y ∷ e) = sym (ap (λ c. clue_of (c ∷ f)) z) ∙ h in
      let b = first_block (suc y) e m in
      let j : first_colour (clue_of f) ≡ suc y = ap first_colour (g ∙ b.is) in
      let a = apart_from_clue p f n (λ q. k (sym j ∙ q)) in
      inr (z, m, k, clue_apart p f n a ∙ (ap (λ bs. block 1 p ∷ bs) g ∙ sym (clue_apart p (suc y ∷ e) n (λ q. k (sym q)))))
  | inr c ↦
      let m : suc y ≢ 0 = λ q. absurd (omega arith) in
      let j = same_colour x (suc y) f e c m h in
      inl (j, sym (ap (λ c. clue_of (c ∷ f)) j) ∙ h)
]

steps_behind_colour : (p y : ℕ) (e : List ℕ) (x : ℕ) (f : List ℕ) → p ≢ 0 → Tight p (y ∷ e) → clue_of (p ∷ x ∷ f) ≡ clue_of (p ∷ y ∷ e) → Steps p y e x f
steps_behind_colour p y e x f n t h = elim (cases_eq p x) [
  | inl i ↦ steps_in_run p y e x f n i h
  | inr i ↦ elim (cases_eq p y) [
    | inl k ↦ absurd (longer_first p e (clue_of (x ∷ f)) n (sym (clue_more_at p y e n k) ∙ (sym h ∙ clue_apart p (x ∷ f) n i)))
    | inr k ↦ steps_after_run p y e x f n (λ q. k (sym q)) i t (tails (sym (clue_apart p (x ∷ f) n i) ∙ (h ∙ clue_apart p (y ∷ e) n k)))
  ]
]

steps_of : (p y : ℕ) (e : List ℕ) (x : ℕ) (f : List ℕ) → Tight p (y ∷ e) → clue_of (p ∷ x ∷ f) ≡ clue_of (p ∷ y ∷ e) → Steps p y e x f
steps_of zero zero e x f t h = absurd (t.0 refl)
steps_of zero (suc y) e x f t h = steps_behind_background (suc y) e x f (λ q. absurd (omega arith)) h
steps_of (suc p) y e x f t h = steps_behind_colour (suc p) y e x f (λ q. absurd (omega arith)) t h

-- a line at the pattern's end has only background
only_background : (p x : ℕ) (f : List ℕ) → clue_of (p ∷ x ∷ f) ≡ clue_of (p ∷ []) → x ≡ 0
only_background zero x f h = elim (cases_eq x 0) [ inl z ↦ z | inr c ↦ absurd (no_block x f c h) ]
only_background (suc p) x f h =
    let n : suc p ≢ 0 = λ q. absurd (omega arith) in
    elim (cases_eq x 0) [
      | inl z ↦ z
      | inr c ↦ elim (cases_eq (suc p) x) [
        | inl i ↦ absurd (longer_first (suc p) f [] n (sym (clue_more_at (suc p) x f n i) ∙ (h ∙ clue_apart (suc p) [] n tt)))
        | inr i ↦ absurd (no_block x f c (tails (sym (clue_apart (suc p) (x ∷ f) n i) ∙ (h ∙ clue_apart (suc p) [] n tt))))
      ]
    ]

after_background : (p : ℕ) (f : List ℕ) → clue_of (p ∷ 0 ∷ f) ≡ clue_of (p ∷ []) → clue_of (p ∷ f) ≡ clue_of (p ∷ [])
after_background zero f h = h
after_background (suc p) f h =
    let n : suc p ≢ 0 = λ q. absurd (omega arith) in
    let g : clue_of f ≡ [] = tails (sym (clue_apart (suc p) (0 ∷ f) n n) ∙ (h ∙ clue_apart (suc p) [] n tt)) in
    let a = apart_from_clue (suc p) f n (λ q. n (sym q ∙ ap first_colour g)) in
    clue_apart (suc p) f n a ∙ (ap (λ bs. block 1 (suc p) ∷ bs) g ∙ sym (clue_apart (suc p) [] n tt))

-- a pattern with a cell more has another clue
has_no_more : (p y : ℕ) (e : List ℕ) → Tight p (y ∷ e) → clue_of (p ∷ []) ≢ clue_of (p ∷ y ∷ e)
has_no_more zero zero e t h = t.0 refl
has_no_more zero (suc y) e t h = no_block (suc y) e (λ q. absurd (omega arith)) (sym h)
has_no_more (suc p) y e t h =
    let n : suc p ≢ 0 = λ q. absurd (omega arith) in
    let z = only_background (suc p) y e (sym h) in
    let u : Tight (suc p) (0 ∷ e) = subst (λ c. Tight (suc p) (c ∷ e)) z t in
    let b = begins_is (suc p) e u.1 in
    let g = after_background (suc p) e (sym (ap (λ c. clue_of (suc p ∷ c ∷ e)) z) ∙ sym h) in
    longer_first (suc p) b.0 [] n (sym (clue_more_at (suc p) (suc p) b.0 n refl) ∙ (sym (ap (λ l. clue_of (suc p ∷ l)) b.1) ∙ (g ∙ clue_apart (suc p) [] n tt)))

pub spells_from_clue : (p : ℕ) (e f : List ℕ) → Tight p e → clue_of (p ∷ f) ≡ clue_of (p ∷ e) → Spells p e f
spells_from_clue p [] [] t h = tt
spells_from_clue p (y ∷ e) [] t h = has_no_more p y e t h
spells_from_clue p [] (x ∷ f) t h =
    let z = only_background p x f h in
    (z, spells_from_clue p [] f tt (after_background p f (sym (ap (λ c. clue_of (p ∷ c ∷ f)) z) ∙ h)))
spells_from_clue p (y ∷ e) (x ∷ f) t h = elim (steps_of p y e x f t h) [
  | inl a ↦ inl (a.0, spells_from_clue y e f (tight_next p y e t) a.1)
  | inr b ↦ inr (b.0, b.1, b.2, spells_from_clue p (y ∷ e) f t b.3)
]
