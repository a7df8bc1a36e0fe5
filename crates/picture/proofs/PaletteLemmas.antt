-- Colours in a palette's list, and the first error of adding one.
use Rattle.std.proofs.Common.{◌≡◌, ℕ, zero, suc, ◌+◌, ◌-◌, ◌<◌, ◌≤◌, Bool, true, false, cond, ltb, not, ◌||◌, List, [], ◌∷◌, ◌++◌, length, get_or, set, Option, Some, None, refl, sym, subst, ap, ◌∙◌}
use Rattle.std.proofs.Common.{inl, inr, arith, position, nat_le, slice_get, IfSome, option_to_list}
use Rattle.std.specs.Option.{option_map}
use Rattle.std.specs.List.{list_any, position_or_len, AllByRecursion, IsDistinct, swap_remove, remove}
use Rattle.std.proofs.lemmas.Bool.{cases_lt, lt-ltb, le-ltb, not-true, not-false}
use Rattle.std.proofs.lemmas.Option.{get_or_from_slice_get, slice_get_within, slice_get-get_or}
use Rattle.std.proofs.lemmas.Map.Keys.{IsDistinct-head, IsDistinct-tail}
use Rattle.std.proofs.lemmas.List.{length_push, get_or_push, length-set, length-append, set-append_left, set-get_or, take_at}
use Rattle.std.proofs.lemmas.List.Elements.{All-from_recursion, All-get_or, All-set, recursion_from_All}
use Rattle.std.proofs.lemmas.Bool.Decides.{nat_tests}
use Rattle.picture.specs.declared.rgb.Rgb.{Rgb}
use Rattle.picture.specs.declared.palette.PaletteFault.TheVariants.{Duplicate, SampleOver}
use Rattle.picture.proofs.ColourLaws.{same_rgb, rgb_eq-sym}
use Rattle.picture.specs.Palette.{Colours, rgb_eq, fits, place_of, add_fault, with_triple, stands_elsewhere, IsPalette}

later : (k n : ℕ) → cond (ltb (1 + k) (suc n)) (Some (1 + k)) None ≡ option_map (λ j. j + 1) (cond (ltb k n) (Some k) None)
later k n = grind (arith, le-ltb, lt-ltb)

pub position-place_of : (rgb : Rgb) (triples : List Rgb) → position (rgb_eq rgb) triples ≡ place_of rgb triples
position-place_of rgb [] = refl
position-place_of rgb (t ∷ triples) = by (rgb_eq rgb t) (position-place_of rgb triples)
  where
    place : ℕ
    place = position_or_len (rgb_eq rgb) triples

    by : (b : Bool) → cond (ltb place (length triples)) (Some place) None ≡ place_of rgb triples
        → cond (ltb (cond (not b) (1 + place) 0) (suc (length triples))) (Some (cond (not b) (1 + place) 0)) None ≡ cond b (Some 0) (option_map (λ k. k + 1) (place_of rgb triples))
    by true e = let some : 0 < suc (length triples) = omega arith in rw (lt-ltb 0 (suc (length triples)) some) refl
    by false e = later place (length triples) ∙ ap (option_map (λ k. k + 1)) e

pub not_full : (n : ℕ) → n < 16 → nat_le 16 n ≡ false
not_full n room = grind (arith, nat_tests)

pub stands_twice : (colours : Colours) (rgb : Rgb) → length colours.triples < 16 → list_any (rgb_eq rgb) colours.triples ≡ true → add_fault colours rgb ≡ Some Duplicate
stands_twice colours rgb room there = rw (not_full (length colours.triples) room, there) refl

pub is_over : (colours : Colours) (rgb : Rgb) → length colours.triples < 16 → list_any (rgb_eq rgb) colours.triples ≡ false → fits colours.maxval rgb ≡ false → add_fault colours rgb ≡ Some SampleOver
is_over colours rgb room there over = rw (not_full (length colours.triples) room, there, over) refl

-- ---- another colour at a number

pub at_each : (P : Rgb → Type 0) (triples : List Rgb) (k : ℕ) (d : Rgb) → k < length triples → AllByRecursion P triples → P (get_or triples k d)
at_each P triples k d lt all = All-get_or P triples k d lt (All-from_recursion P triples all)

every_set : (P : Rgb → Type 0) (triples : List Rgb) (k : ℕ) (t : Rgb) → P t → AllByRecursion P triples → AllByRecursion P (set triples k t)
every_set P triples k t is all = recursion_from_All P (set triples k t) (All-set P triples k t is (All-from_recursion P triples all))

pub every_front : (P : Rgb → Type 0) (xs ys : List Rgb) → AllByRecursion P (xs ++ ys) → AllByRecursion P xs
every_front P [] ys all = tt
every_front P (x ∷ xs) ys all = (all.0, every_front P xs ys all.1)

none_equal : (rgb : Rgb) (triples : List Rgb) → AllByRecursion (λ t. rgb_eq rgb t ≡ false) triples → list_any (rgb_eq rgb) triples ≡ false
none_equal rgb [] all = refl
none_equal rgb (t ∷ triples) all = rw all.0 (none_equal rgb triples all.1)

-- the colour at k is at no other place
pub at_no_other : (rgb d : Rgb) (triples : List Rgb) (k : ℕ) → k < length triples → IsDistinct rgb_eq triples → rgb_eq (get_or triples k d) rgb ≡ true
    → list_any (rgb_eq rgb) (remove triples k) ≡ false
at_no_other rgb d [] k lt distinct at = absurd (omega (arith, lt))
at_no_other rgb d (t ∷ triples) zero lt distinct at =
    none_equal rgb triples (subst (λ u. AllByRecursion (λ y. rgb_eq u y ≡ false) triples) (same_rgb t rgb at) (IsDistinct-head rgb_eq t triples distinct))
at_no_other rgb d (t ∷ triples) (suc k) lt distinct at =
    let inside : k < length triples = omega (arith, lt) in
    let other = at_each (λ y. rgb_eq t y ≡ false) triples k d inside (IsDistinct-head rgb_eq t triples distinct) in
    rw (rgb_eq-sym t rgb (subst (λ u. rgb_eq t u ≡ false) (same_rgb (get_or triples k d) rgb at) other))
    (at_no_other rgb d triples k inside (IsDistinct-tail rgb_eq t triples distinct) at)

-- a colour that is not the one at k
at_others : (rgb d : Rgb) (triples : List Rgb) (k : ℕ) → k < length triples → rgb_eq (get_or triples k d) rgb ≡ false → list_any (rgb_eq rgb) (remove triples k) ≡ list_any (rgb_eq rgb) triples
at_others rgb d [] k lt isnt = absurd (omega (arith, lt))
at_others rgb d (t ∷ triples) zero lt isnt = rw (rgb_eq-sym t rgb isnt) refl
at_others rgb d (t ∷ triples) (suc k) lt isnt = ap (λ rest. rgb_eq rgb t || rest) (at_others rgb d triples k (omega (arith, lt)) isnt)

-- the last colour moved to the place of another
moved_over : (triples : List Rgb) (t d : Rgb) (k : ℕ) → k < length triples → swap_remove (triples ++ t ∷ []) k d ≡ set triples k t
moved_over triples t d k lt =
    let n = length_push triples t in
    let last : length (triples ++ t ∷ []) - 1 ≡ length triples = omega arith in
    let long : length (set triples k t) ≡ length triples = length-set triples k t in
    rw (last, get_or_push triples t d (length triples) refl, set-append_left triples (t ∷ []) k t lt) (take_at (set triples k t) (t ∷ []) (length triples) long)

pub replaced : (maxval : ℕ) (triples new : List Rgb) (k : ℕ) (t : Rgb) → IsPalette (record { maxval = maxval; triples = triples }) → fits maxval t ≡ true → new ≡ set triples k t
    → IsDistinct rgb_eq new → IsPalette (record { maxval = maxval; triples = new })
replaced maxval triples new k t is fit e distinct =
    let n : length new ≡ length triples = ap length e ∙ length-set triples k t in
    record {
      has_maxval = is.has_maxval;
      maxval_fits = is.maxval_fits;
      has_background = omega (arith, n, is.has_background);
      colours_fit = omega (arith, n, is.colours_fit);
      distinct = distinct;
      samples_fit = rw e (every_set _ triples k t fit is.samples_fit);
    }

at_most_one : (gone : Option Rgb) → length (option_to_list gone) ≤ 1
at_most_one (Some t) = omega arith
at_most_one None = omega arith

pub popped : (maxval : ℕ) (triples new : List Rgb) (gone : Option Rgb) → IsPalette (record { maxval = maxval; triples = triples }) → triples ≡ new ++ option_to_list gone → 1 < length triples
    → IsDistinct rgb_eq new → IsPalette (record { maxval = maxval; triples = new })
popped maxval triples new gone is e some distinct =
    let n : length triples ≡ length new + length (option_to_list gone) = ap length e ∙ length-append new (option_to_list gone) in
    let few = at_most_one gone in
    record {
      has_maxval = is.has_maxval;
      maxval_fits = is.maxval_fits;
      has_background = omega arith;
      colours_fit = omega (arith, n, is.colours_fit);
      distinct = distinct;
      samples_fit = every_front _ new (option_to_list gone) (rw e at is.samples_fit);
    }

-- what two tests say of the other numbers; `shown` is the list as it was read
module _ (rgb d : Rgb) (triples shown : List Rgb) (k : ℕ) (ne : Bool) (read : shown ≡ triples) (lt : k < length triples) (is : ne ≡ not (rgb_eq (get_or shown k d) rgb)) where
  pub stands_if_differs : ne ≡ true → list_any (rgb_eq rgb) triples ≡ stands_elsewhere triples k rgb
  stands_if_differs holds = sym (at_others rgb d triples k lt (subst (λ xs. rgb_eq (get_or xs k d) rgb ≡ false) read (not-true _ (sym is ∙ holds))))

  pub stands_if_same : IsDistinct rgb_eq triples → ne ≡ false → ne ≡ stands_elsewhere triples k rgb
  stands_if_same distinct isnt = isnt ∙ sym (at_no_other rgb d triples k lt distinct (subst (λ xs. rgb_eq (get_or xs k d) rgb ≡ true) read (not-false _ (sym is ∙ isnt))))

pub stands_nowhere : (rgb t : Rgb) (triples : List Rgb) (k : ℕ) (eq : Bool) → slice_get triples k ≡ Some t → eq ≡ rgb_eq t rgb → eq ≡ false → stands_elsewhere triples k rgb ≡ false
    → list_any (rgb_eq rgb) triples ≡ false
stands_nowhere rgb t triples k eq at is isnt nowhere =
    sym (at_others rgb t triples k (slice_get_within triples k t at) (rw (get_or_from_slice_get triples k t t at) (sym is ∙ isnt))) ∙ nowhere

pub kept_over : (colours : Colours) (k : ℕ) (rgb t : Rgb) (eq : Bool) → slice_get colours.triples k ≡ Some t → eq ≡ rgb_eq t rgb → eq ≡ true → colours ≡ with_triple colours k rgb
kept_over colours k rgb t eq at is holds =
    ap (λ triples. record { maxval = colours.maxval; triples = triples })
    (sym (set-get_or colours.triples k t) ∙ ap (λ u. set colours.triples k u) (get_or_from_slice_get colours.triples k t t at ∙ same_rgb t rgb (sym is ∙ holds)))

-- a new colour put last and then moved to a number
pub swapped_in : (old mid new : List Rgb) (k : ℕ) (t : Rgb) (gone : Option Rgb) → k < length old → list_any (rgb_eq t) old ≡ false → mid ≡ cond (list_any (rgb_eq t) old) old (old ++ t ∷ [])
    → gone ≡ slice_get mid k → IfSome gone (λ d. new ≡ swap_remove mid k d) → new ≡ set old k t
swapped_in old mid new k t (Some d) lt absent is read swapped =
    let pushed : mid ≡ old ++ t ∷ [] = is ∙ ap (λ b. cond b old (old ++ t ∷ [])) absent in
    swapped ∙ ap (λ xs. swap_remove xs k d) pushed ∙ moved_over old t d k lt
swapped_in old mid new k t None lt absent is read swapped =
    let pushed : mid ≡ old ++ t ∷ [] = is ∙ ap (λ b. cond b old (old ++ t ∷ [])) absent in
    let n = ap length pushed in
    let m = length_push old t in
    let some = slice_get-get_or mid k t (omega arith) in
    absurd (cc)
