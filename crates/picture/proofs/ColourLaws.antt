-- Laws of colours in a list: their places, and colours that are added by first appearance.
use Rattle.std.proofs.Common.{◌≡◌, ℕ, suc, ◌+◌, ◌<◌, ◌≤◌, Bool, true, false, eqb, ◌&&◌, ◌||◌, List, [], ◌∷◌, ◌++◌, length, Option, Some, None, refl, sym, subst, ap, ◌∙◌, append_assoc, inl, inr, arith}
use Rattle.std.proofs.Common.{unwrap_or}
use Rattle.std.specs.Cmp.{IsEquivalence}
use Rattle.std.specs.Option.{option_map}
use Rattle.std.specs.List.{list_any, AllByRecursion, IsDistinct}
use Rattle.std.proofs.lemmas.Bool.{cases_Bool, eq-eqb, eqb-true, false≢true, false_from_ne_true}
use Rattle.std.proofs.lemmas.List.{append-nil}
use Rattle.std.proofs.lemmas.List.Folds.{list_any-append}
use Rattle.std.proofs.lemmas.Map.Keys.{IsDistinct-push}
use Rattle.std.proofs.lemmas.Map.Made.{length-le_from_is_member}
use Rattle.picture.specs.declared.rgb.Rgb.{Rgb}
use Rattle.picture.specs.Palette.{rgb_eq, fits, place_of}
use Rattle.picture.specs.Document.{seen_after, number_among}

-- ---- equal colours

pub same_rgb : (a b : Rgb) → rgb_eq a b ≡ true → a ≡ b
same_rgb a b e = by (eqb a.r b.r) refl (eqb a.g b.g) refl (eqb a.b b.b) refl e
  where
    by : (x : Bool) → eqb a.r b.r ≡ x → (y : Bool) → eqb a.g b.g ≡ y → (z : Bool) → eqb a.b b.b ≡ z → (x && (y && z)) ≡ true → a ≡ b
    by true p true q true r _ = let rs = eqb-true _ _ p in let gs = eqb-true _ _ q in let bs = eqb-true _ _ r in λ i. record { r = rs i; g = gs i; b = bs i }
    by true p true q false r isnt = absurd (false≢true isnt)
    by true p false q z r isnt = absurd (false≢true isnt)
    by false p y q z r isnt = absurd (false≢true isnt)

pub rgb_eq-sym : (a b : Rgb) → rgb_eq a b ≡ false → rgb_eq b a ≡ false
rgb_eq-sym a b isnt = false_from_ne_true (rgb_eq b a) (λ e. let same = same_rgb b a e in false≢true (sym isnt ∙ subst (λ t. rgb_eq t b ≡ true) same (subst (λ t. rgb_eq b t ≡ true) (sym same) e)))

pub same : (t : Rgb) → rgb_eq t t ≡ true
same t = rw (eq-eqb t.r t.r refl, eq-eqb t.g t.g refl, eq-eqb t.b t.b refl) refl

pub rgb_equiv : IsEquivalence rgb_eq
rgb_equiv = grind (arith, rgb_eq, rgb_eq-sym, same, same_rgb)

-- ---- what holds of each colour

pub every_append : {X : Type 0} (P : X → Type 0) (xs ys : List X) → AllByRecursion P xs → AllByRecursion P ys → AllByRecursion P (xs ++ ys)
every_append P [] ys all more = more
every_append P (x ∷ xs) ys all more = (all.0, every_append P xs ys all.1 more)

-- all of the colours are among others
abbrev pub Among : List Rgb → List Rgb → Type 0
Among all = AllByRecursion (λ t. list_any (rgb_eq t) all ≡ true)

pub member : (all known : List Rgb) (q : Rgb) → Among all known → list_any (rgb_eq q) known ≡ true → list_any (rgb_eq q) all ≡ true
member all [] q among is = absurd (cc)
member all (t ∷ known) q among is = elim (cases_Bool (rgb_eq q t)) [
  | inl e ↦ subst (λ u. list_any (rgb_eq u) all ≡ true) (sym (same_rgb q t e)) among.0
  | inr e ↦ member all known q among.1 (rw e at is)
]

pub fits_there : (maxval : ℕ) (rgb : Rgb) (all : List Rgb) → AllByRecursion (λ t. fits maxval t ≡ true) all → list_any (rgb_eq rgb) all ≡ true → fits maxval rgb ≡ true
fits_there maxval rgb [] fit is = absurd (cc)
fits_there maxval rgb (t ∷ all) fit is = elim (cases_Bool (rgb_eq rgb t)) [
  | inl e ↦ subst (λ u. fits maxval u ≡ true) (sym (same_rgb rgb t e)) fit.0
  | inr e ↦ fits_there maxval rgb all fit.1 (rw e at is)
]

-- ---- one of the colours, and its place

pub any_front : (t : Rgb) (xs ys : List Rgb) → list_any (rgb_eq t) xs ≡ true → list_any (rgb_eq t) (xs ++ ys) ≡ true
any_front t xs ys has = list_any-append (rgb_eq t) xs ys ∙ ap (λ b. b || list_any (rgb_eq t) ys) has

pub any_last : (t : Rgb) (xs : List Rgb) → list_any (rgb_eq t) (xs ++ t ∷ []) ≡ true
any_last t [] = rw (same t) refl
any_last t (x ∷ xs) = elim (cases_Bool (rgb_eq t x)) [
  | inl e ↦ rw e refl
  | inr e ↦ rw e (any_last t xs)
]

pub place-front : (t : Rgb) (xs ys : List Rgb) → list_any (rgb_eq t) xs ≡ true → place_of t (xs ++ ys) ≡ place_of t xs
place-front t [] ys has = absurd (cc)
place-front t (x ∷ xs) ys has = elim (cases_Bool (rgb_eq t x)) [
  | inl e ↦ rw e refl
  | inr e ↦ rw e (ap (option_map (λ k. k + 1)) (place-front t xs ys (rw e at has)))
]

pub place-last : (t : Rgb) (xs : List Rgb) → list_any (rgb_eq t) xs ≡ false → place_of t (xs ++ t ∷ []) ≡ Some (length xs)
place-last t [] none = rw (same t) refl
place-last t (x ∷ xs) none = elim (cases_Bool (rgb_eq t x)) [
  | inl e ↦ absurd (false≢true (sym (rw e at none)))
  | inr e ↦ rw e (ap (option_map (λ k. k + 1)) (place-last t xs (rw e at none)) ∙ ap Some (omega arith))
]

later : (n : ℕ) (place : Option ℕ) → unwrap_or place 0 < n → unwrap_or (option_map (λ k. k + 1) place) 0 < suc n
later n (Some k) lt = omega (arith, lt)
later n None lt = omega arith

pub number_small : (t : Rgb) (xs : List Rgb) → list_any (rgb_eq t) xs ≡ true → number_among xs t < length xs
number_small t [] has = absurd (cc)
number_small t (x ∷ xs) has = elim (cases_Bool (rgb_eq t x)) [
  | inl e ↦ rw e (omega arith)
  | inr e ↦ rw e (later (length xs) (place_of t xs) (number_small t xs (rw e at has)))
]

-- a colour without a place is not in the list
pub unplaced : (t : Rgb) (xs : List Rgb) → list_any (rgb_eq t) xs ≡ false → place_of t xs ≡ None
unplaced t [] none = refl
unplaced t (x ∷ xs) none = elim (cases_Bool (rgb_eq t x)) [
  | inl e ↦ absurd (false≢true (sym (rw e at none)))
  | inr e ↦ rw e (ap (option_map (λ k. k + 1)) (unplaced t xs (rw e at none)))
]

pub placed : (t : Rgb) (xs : List Rgb) (k : ℕ) → Some k ≡ place_of t xs → list_any (rgb_eq t) xs ≡ true
placed t xs k at = grind (arith, list_any, rgb_eq, unplaced)

none_before : (place : Option ℕ) → None ≡ option_map (λ k. k + 1) place → None ≡ place
none_before (Some k) none = absurd (cc)
none_before None none = refl

pub absent : (t : Rgb) (xs : List Rgb) → None ≡ place_of t xs → list_any (rgb_eq t) xs ≡ false
absent t [] none = refl
absent t (x ∷ xs) none = elim (cases_Bool (rgb_eq t x)) [
  | inl e ↦ let some = rw e at none in absurd (cc)
  | inr e ↦ rw e (absent t xs (none_before (place_of t xs) (rw e at none)))
]

-- ---- colours seen

pub seen-append : (known xs ys : List Rgb) → seen_after known (xs ++ ys) ≡ seen_after (seen_after known xs) ys
seen-append known [] ys = refl
seen-append known (x ∷ xs) ys = elim (cases_Bool (list_any (rgb_eq x) known)) [
  | inl e ↦ rw e (seen-append known xs ys)
  | inr e ↦ rw e (seen-append (known ++ x ∷ []) xs ys)
]

-- what was known comes first
pub seen-front : (known xs : List Rgb) → (more : List Rgb) × (seen_after known xs ≡ known ++ more)
seen-front known [] = ([], sym (append-nil known))
seen-front known (x ∷ xs) = elim (cases_Bool (list_any (rgb_eq x) known)) [
  | inl e ↦ rw e (seen-front known xs)
  | inr e ↦ let rest = seen-front (known ++ x ∷ []) xs in rw e (x ∷ rest.0, rest.1 ∙ append_assoc known (x ∷ []) rest.0)
]

pub keeps : (t : Rgb) (known xs : List Rgb) → list_any (rgb_eq t) known ≡ true → list_any (rgb_eq t) (seen_after known xs) ≡ true
keeps t known xs has = let front = seen-front known xs in rw front.1 (any_front t known front.0 has)

pub seen-known : (known xs : List Rgb) (x : Rgb) → list_any (rgb_eq x) known ≡ true → seen_after known (x ∷ xs) ≡ seen_after known xs
seen-known known xs x e = rw e refl

pub seen-new : (known xs : List Rgb) (x : Rgb) → list_any (rgb_eq x) known ≡ false → seen_after known (x ∷ xs) ≡ seen_after (known ++ x ∷ []) xs
seen-new known xs x e = rw e refl

pub seen-all : (known xs : List Rgb) → AllByRecursion (λ t. list_any (rgb_eq t) (seen_after known xs) ≡ true) xs
seen-all known [] = tt
seen-all known (x ∷ xs) = elim (cases_Bool (list_any (rgb_eq x) known)) [
  | inl e ↦ subst (λ all. AllByRecursion (λ t. list_any (rgb_eq t) all ≡ true) (x ∷ xs)) (sym (seen-known known xs x e)) (keeps x known xs e, seen-all known xs)
  | inr e ↦
      subst (λ all. AllByRecursion (λ t. list_any (rgb_eq t) all ≡ true) (x ∷ xs)) (sym (seen-new known xs x e))
      (keeps x (known ++ x ∷ []) xs (any_last x known), seen-all (known ++ x ∷ []) xs)
]

-- ---- how many there are

seen-distinct : (known xs : List Rgb) → IsDistinct rgb_eq known → IsDistinct rgb_eq (seen_after known xs)
seen-distinct known [] distinct = distinct
seen-distinct known (x ∷ xs) distinct = elim (cases_Bool (list_any (rgb_eq x) known)) [
  | inl e ↦ rw e (seen-distinct known xs distinct)
  | inr e ↦ rw e (seen-distinct (known ++ x ∷ []) xs (IsDistinct-push rgb_equiv known x distinct e))
]

seen-among : (all known xs : List Rgb) → Among all known → Among all xs → Among all (seen_after known xs)
seen-among all known [] had among = had
seen-among all known (x ∷ xs) had among = elim (cases_Bool (list_any (rgb_eq x) known)) [
  | inl e ↦ rw e (seen-among all known xs had among.1)
  | inr e ↦ rw e (seen-among all (known ++ x ∷ []) xs (every_append (λ t. list_any (rgb_eq t) all ≡ true) known (x ∷ []) had (among.0, tt)) among.1)
]

-- different colours that are all among others are at most as many
pub few_among : (all known : List Rgb) → IsDistinct rgb_eq known → Among all known → length known ≤ length all
few_among all known distinct among = length-le_from_is_member rgb_equiv known all distinct (λ q is. member all known q among is)

pub few_seen : (all xs : List Rgb) (first : Rgb) → list_any (rgb_eq first) all ≡ true → Among all xs → length (seen_after (first ∷ []) xs) ≤ length all
unfolding IsDistinct
few_seen all xs first there among =
    few_among all (seen_after (first ∷ []) xs) (seen-distinct (first ∷ []) xs (IsDistinct-push rgb_equiv [] first tt refl)) (seen-among all (first ∷ []) xs (there, tt) among)
