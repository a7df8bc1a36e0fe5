-- Colours added to a list as they come, and their numbers in it.
use Rattle.std.proofs.Common.{◌≡◌, ℕ, zero, suc, ◌+◌, ◌*◌, ◌<◌, true, false, List, [], ◌∷◌, ◌++◌, length, get_or, take, drop, map, Option, Some, None, refl, ap, ◌∙◌, sym, subst, inl, inr, arith}
use Rattle.std.proofs.Common.{unwrap_or, slice_get}
use Rattle.std.specs.List.{list_any, All, AllByRecursion, concat, flat_map}
use Rattle.std.specs.Option.{option_map}
use Rattle.std.proofs.lemmas.Bool.{cases_Bool, false≢true}
use Rattle.std.proofs.lemmas.List.Elements.{All-append, All-from_get_or, All-from_recursion, All-nil}
use Rattle.std.proofs.lemmas.List.{map-append, map_more, take-map, drop-map, length-map}
use Rattle.std.proofs.lemmas.Option.{get_or_from_slice_get}
use Rattle.picture.specs.declared.rgb.Rgb.{Rgb}
use Rattle.picture.specs.Palette.{Colours, rgb_eq, place_of, IsPalette}
use Rattle.picture.specs.Document.{with_seen, rows_shown, number_among, triples_of, first_of, renumbered_rows}
use Rattle.picture.specs.Picture.{AreCells}
use Rattle.picture.specs.Rows.{rows_of, cell_at, Rows}
use Rattle.picture.proofs.FlatLaws.{cell_at_below}
use Rattle.picture.proofs.ColourLaws.{same_rgb, place-front, place-last, number_small, placed, absent, seen-append, seen-front, seen-known, seen-all}
use Rattle.picture.proofs.PaletteLemmas.{every_front}
use Rattle.picture.proofs.GridLemmas.{every_map, every_at_all, concat-rows_of}

-- ---- one colour more

pub known_stays : (colours : Colours) (t : Rgb) (k : ℕ) → Some k ≡ place_of t colours.triples → colours ≡ with_seen colours (t ∷ [])
known_stays colours t k at = ap (λ triples. record { maxval = colours.maxval; triples = triples }) (sym (seen-known colours.triples [] t (placed t colours.triples k at)))

pub number_added : (t : Rgb) (xs : List Rgb) → None ≡ place_of t xs → number_among (xs ++ t ∷ []) t ≡ length xs
number_added t xs none = ap (λ place. unwrap_or place 0) (place-last t xs (absent t xs none))

-- the numbers given so far stay as they are
numbers_stay : (known more : List Rgb) (xs : List Rgb) → AllByRecursion (λ t. list_any (rgb_eq t) known ≡ true) xs → map (number_among (known ++ more)) xs ≡ map (number_among known) xs
numbers_stay known more [] all = refl
numbers_stay known more (x ∷ xs) all = rw (place-front x known more all.0, numbers_stay known more xs all.1) refl

module _ (old : Colours) (xs : List Rgb) (t : Rgb) where
  pub seen_more : (now new : Colours) → now ≡ with_seen old xs → new ≡ with_seen now (t ∷ []) → new ≡ with_seen old (xs ++ t ∷ [])
  seen_more now new so_far step =
      step ∙ ap (λ colours. with_seen colours (t ∷ [])) so_far ∙ ap (λ triples. record { maxval = old.maxval; triples = triples }) (sym (seen-append old.triples xs (t ∷ [])))

  pub numbered_more : (now new : Colours) (numbers more : List ℕ) (number : ℕ) → now ≡ with_seen old xs → new ≡ with_seen now (t ∷ []) → numbers ≡ map (number_among now.triples) xs
      → number ≡ number_among new.triples t → more ≡ numbers ++ number ∷ [] → more ≡ map (number_among new.triples) (xs ++ t ∷ [])
  numbered_more now new numbers more number so_far step given is pushed =
      let front = seen-front now.triples (t ∷ []) in
      let extends : new.triples ≡ now.triples ++ front.0 = ap (λ colours. colours.triples) step ∙ front.1 in
      let all = subst (λ colours. AllByRecursion (λ u. list_any (rgb_eq u) colours.triples ≡ true) xs) (sym so_far) (seen-all old.triples xs) in
      let stays : map (number_among new.triples) xs ≡ map (number_among now.triples) xs = ap (λ triples. map (number_among triples) xs) extends ∙ numbers_stay now.triples front.0 xs all in
      pushed ∙ ap (λ ns. ns ++ number ∷ []) (given ∙ sym stays) ∙ ap (λ n. map (number_among new.triples) xs ++ n ∷ []) is ∙ sym (map-append (number_among new.triples) xs (t ∷ []))

pub triples_more : (triples : List Rgb) (cells : List ℕ) (i : ℕ) (t : Rgb) → i < length cells → slice_get triples (get_or cells i 0) ≡ Some t
    → triples_of triples (take (i + 1) cells) ≡ triples_of triples (take i cells) ++ t ∷ []
triples_more triples cells i t lt at =
    map_more (λ k. get_or triples k (first_of triples)) cells i 0 lt ∙ ap (λ u. triples_of triples (take i cells) ++ u ∷ []) (get_or_from_slice_get triples (get_or cells i 0) t (first_of triples) at)

-- ---- whole pictures

rows_coloured : (limit : ℕ) (rows : Rows) → ((i j : ℕ) → cell_at rows i j < limit) → All (λ x. x < limit) (concat rows)
rows_coloured limit [] each = All-nil (λ x. x < limit)
rows_coloured limit (row ∷ rows) each = All-append (λ x. x < limit) row (concat rows) (All-from_get_or (λ x. x < limit) row 0 (λ k _. each 0 k)) (rows_coloured limit rows (λ i. each (suc i)))

concat-triples : (triples : List Rgb) (rows : Rows) → triples_of triples (concat rows) ≡ flat_map (triples_of triples) rows
concat-triples triples [] = refl
concat-triples triples (row ∷ rows) = map-append (λ k. get_or triples k (first_of triples)) row (concat rows) ∙ ap (λ ts. triples_of triples row ++ ts) (concat-triples triples rows)

rows_of-renumbered : (among triples : List Rgb) (height width : ℕ) (cells : List ℕ)
    → rows_of height width (map (number_among among) (triples_of triples cells)) ≡ renumbered_rows among triples (rows_of height width cells)
rows_of-renumbered among triples zero width cells = refl
rows_of-renumbered among triples (suc height) width cells =
    let f : ℕ → Rgb = λ k. get_or triples k (first_of triples) in
    rw (take-map (number_among among) width (triples_of triples cells), take-map f width cells, drop-map (number_among among) width (triples_of triples cells), drop-map f width cells)
    (ap (λ rows. map (number_among among) (triples_of triples (take width cells)) ∷ rows) (rows_of-renumbered among triples height width (drop width cells)))

numbers_below : (among ts : List Rgb) → AllByRecursion (λ t. list_any (rgb_eq t) among ≡ true) ts → All (λ n. n < length among) (map (number_among among) ts)
numbers_below among ts all =
    every_map (λ t. list_any (rgb_eq t) among ≡ true) (λ n. n < length among) (number_among among) (λ t. number_small t among) ts (All-from_recursion (λ t. list_any (rgb_eq t) among ≡ true) ts all)

module _ (height width : ℕ) (cells : List ℕ) (now : Rows) (reads : rows_of height width cells ≡ now) (is : AreCells height width cells) (triples : List Rgb) where
  whole : cells ≡ concat now
  whole = sym (concat-rows_of height width cells is.count) ∙ ap concat reads

  pub cells_coloured : (shown : List ℕ) → shown ≡ cells → (limit : ℕ) → 0 < limit → ((i j : ℕ) → cell_at now i j < limit) → (k : ℕ) → get_or shown k 0 < limit
  cells_coloured shown e limit some each k = rw (e ∙ whole) (every_at_all limit (concat now) some (rows_coloured limit now each) k)

  -- `shown` is the cells as they were read
  pub seen_in_rows : (shown : List ℕ) → shown ≡ cells → (old new : Colours) → new ≡ with_seen old (triples_of triples shown) → new ≡ with_seen old (flat_map (triples_of triples) now)
  seen_in_rows shown e old new seen = seen ∙ ap (λ xs. with_seen old (triples_of triples xs)) (e ∙ whole) ∙ ap (with_seen old) (concat-triples triples now)

  module _ (shown : List ℕ) (e : shown ≡ cells) (old new : Colours) (numbers : List ℕ) (palette : IsPalette new) (seen : new ≡ with_seen old (triples_of triples shown))
      (given : numbers ≡ map (number_among new.triples) (triples_of triples shown)) where
    below : (k : ℕ) → get_or numbers k 0 < length new.triples
    below k =
        let all = subst (λ colours. AllByRecursion (λ t. list_any (rgb_eq t) colours.triples ≡ true) (triples_of triples shown)) (sym seen) (seen-all old.triples (triples_of triples shown)) in
        rw given (every_at_all (length new.triples) _ palette.has_background (numbers_below new.triples (triples_of triples shown) all) k)

    as_many : length numbers ≡ height * width
    as_many = ap length given ∙ length-map (triples_of triples shown) (number_among new.triples) ∙ length-map shown (λ k. get_or triples k (first_of triples)) ∙ ap length e ∙ is.count

    pub are_numbers : AreCells height width numbers
    are_numbers = record {
      has_row = is.has_row;
      rows_fit = is.rows_fit;
      has_column = is.has_column;
      columns_fit = is.columns_fit;
      count = as_many;
      colours = λ k. omega (arith, below k, palette.colours_fit);
    }

    pub rows_renumbered : rows_of height width numbers ≡ renumbered_rows new.triples triples now
    rows_renumbered = grind (arith, map, number_among, renumbered_rows, rows_of, rows_of-renumbered, triples_of)

    pub numbers_coloured : (result : Rows) → result ≡ rows_of height width numbers → (i j : ℕ) → cell_at result i j < length new.triples
    numbers_coloured result is_result i j = rw is_result (cell_at_below height width (length new.triples) numbers palette.has_background below i j)

-- ---- no cell's colour changes

number_finds : (t d : Rgb) (xs : List Rgb) → list_any (rgb_eq t) xs ≡ true → get_or xs (number_among xs t) d ≡ t
number_finds t d [] has = absurd (cc)
number_finds t d (x ∷ xs) has = elim (cases_Bool (rgb_eq t x)) [
  | inl e ↦ rw e (sym (same_rgb t x e))
  | inr e ↦ rw e (further (place_of t xs) refl (rw e at has) (number_finds t d xs (rw e at has)))
]
  where
    further : (place : Option ℕ) → place_of t xs ≡ place → list_any (rgb_eq t) xs ≡ true → get_or xs (unwrap_or place 0) d ≡ t → get_or (x ∷ xs) (unwrap_or (option_map (λ k. k + 1) place) 0) d ≡ t
    further (Some k) at there found = let next : k + 1 ≡ suc k = omega arith in rw next found
    further None at there found = absurd (false≢true (sym (absent t xs (sym at)) ∙ there))

shown_back : (among ts : List Rgb) → AllByRecursion (λ t. list_any (rgb_eq t) among ≡ true) ts → triples_of among (map (number_among among) ts) ≡ ts
shown_back among [] all = refl
shown_back among (t ∷ ts) all = rw (number_finds t (first_of among) among all.0, shown_back among ts all.1) refl

every_right : (P : Rgb → Type 0) (xs ys : List Rgb) → AllByRecursion P (xs ++ ys) → AllByRecursion P ys
every_right P [] ys all = all
every_right P (x ∷ xs) ys all = every_right P xs ys all.1

rows_shown_back : (among triples : List Rgb) (rows : Rows) → AllByRecursion (λ t. list_any (rgb_eq t) among ≡ true) (flat_map (triples_of triples) rows)
    → rows_shown among (renumbered_rows among triples rows) ≡ rows_shown triples rows
rows_shown_back among triples [] all = refl
rows_shown_back among triples (row ∷ rows) all =
    rw (shown_back among (triples_of triples row) (every_front (λ t. list_any (rgb_eq t) among ≡ true) (triples_of triples row) (flat_map (triples_of triples) rows) all))
    (ap (λ rest. triples_of triples row ∷ rest)
    (rows_shown_back among triples rows (every_right (λ t. list_any (rgb_eq t) among ≡ true) (triples_of triples row) (flat_map (triples_of triples) rows) all)))

-- what the renumbered picture shows is what the picture showed
pub same_shown : (old new : Colours) (triples : List Rgb) (rows : Rows) → new ≡ with_seen old (flat_map (triples_of triples) rows)
    → rows_shown new.triples (renumbered_rows new.triples triples rows) ≡ rows_shown triples rows
same_shown old new triples rows seen =
    rows_shown_back new.triples triples rows
    (subst (λ colours. AllByRecursion (λ t. list_any (rgb_eq t) colours.triples ≡ true) (flat_map (triples_of triples) rows)) (sym seen) (seen-all old.triples (flat_map (triples_of triples) rows)))
