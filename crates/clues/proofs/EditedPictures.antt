-- The lines of a picture after lines were inserted, deleted or exchanged.
use Rattle.std.proofs.Common.{◌≡◌, ◌≢◌, ℕ, suc, ◌+◌, ◌-◌, ◌<◌, ◌≤◌, ◌⊎◌, inl, inr, Some, option_map, List, [], ◌∷◌, length, get_or, set, map, replicate, refl, sym, ap, ◌∙◌, arith}
use Rattle.std.specs.List.{insert, remove, swap}
use Rattle.std.proofs.lemmas.Bool.{cases_lt, cases_eq}
use Rattle.std.proofs.lemmas.Bool.Decides.{nat_tests}
use Rattle.std.proofs.lemmas.List.{length-map, length-replicate, get_or-map, map-set, set-get_or}
use Rattle.std.proofs.lemmas.List.Edits.{length-insert, get_or-insert_below, get_or-insert_at, get_or-insert_above, length-remove, get_or-remove_below, get_or-remove_above, swap_is, length-swap}
use Rattle.std.proofs.lemmas.List.Edits.{swapped_from_swap}
use Rattle.picture.specs.declared.line_id.Axis.{Axis}
use Rattle.picture.specs.declared.line_id.Axis.TheVariants.{Across, Down}
use Rattle.picture.specs.Picture.{IsPicture}
use Rattle.picture.specs.Rows.{width_of, line_along, line_of, lines_along, lines_swapped, with_line, without_line, Rows}
use Rattle.clues.specs.declared.places.Places.{Places}
use Rattle.clues.specs.declared.places.Places.TheVariants.{Kept, Inserted, Deleted, Swapped}
use Rattle.clues.specs.Places.{exchanged, new_place, count_after, AreAmong, IsNewAt, ChangesLength}
use Rattle.picture.specs.LineSet.{Lines, no_names}
use Rattle.clues.specs.Change.{AreMoves, Changes, FollowsSwap, HasSize, IsTouched, IsOldLine, Follows, line_at, lines_before, lines_after, image_of, moved_along, still}
use Rattle.picture.specs.CrossingLines.{crossing}
use Rattle.clues.proofs.MovedLines.{origin_of-image}
use Rattle.clues.proofs.ChangedLines.{length-line_along}

-- a list whose items have moved, with an item at a new place
abbrev pub edited : {X : Type 0} → Places → X → List X → List X
edited Kept new xs = xs
edited (Inserted place) new xs = insert xs place new
edited (Deleted place) new xs = remove xs place
edited (Swapped first second) new xs = swap xs first second

pub length-edited : {X : Type 0} (places : Places) (new : X) (xs : List X) → AreAmong places (length xs) → length (edited places new xs) ≡ count_after places (length xs)
length-edited Kept new xs among = refl
length-edited (Inserted place) new xs among = length-insert xs place new among
length-edited (Deleted place) new xs among = omega (arith, length-remove xs place among)
length-edited (Swapped first second) new xs among = length-swap xs first second

-- the places of lines that move
inserted-below : (place from to : ℕ) → from < place → new_place (Inserted place) from ≡ Some to → to ≡ from
inserted-below place from to h e = grind (arith, nat_tests)

inserted-above : (place from to : ℕ) → place ≤ from → new_place (Inserted place) from ≡ Some to → to ≡ from + 1
inserted-above place from to h e = grind (arith, nat_tests)

deleted-not : (place from to : ℕ) → new_place (Deleted place) from ≡ Some to → from ≢ place
deleted-not place from to e = grind (arith, nat_tests)

deleted-below : (place from to : ℕ) → from < place → new_place (Deleted place) from ≡ Some to → to ≡ from
deleted-below place from to h e = grind (arith, nat_tests)

deleted-above : (place from to : ℕ) → place < from → new_place (Deleted place) from ≡ Some to → from ≡ to + 1
deleted-above place from to h e = grind (arith, nat_tests)

exchanged-first : (first second : ℕ) → exchanged first second first ≡ second
exchanged-first first second = grind (arith, nat_tests)

exchanged-second : (first second : ℕ) → exchanged first second second ≡ first
exchanged-second first second = grind (arith, nat_tests)

exchanged-other : (first second at : ℕ) → at ≢ first → at ≢ second → exchanged first second at ≡ at
exchanged-other first second at f s = grind (arith, nat_tests)

pub get_or-swap : {X : Type 0} (xs : List X) (first second at : ℕ) (d : X) → first < length xs → second < length xs → get_or (swap xs first second) (exchanged first second at) d ≡ get_or xs at d
get_or-swap xs first second at d in_first in_second =
    let swapped = swapped_from_swap xs (swap xs first second) first second d in_first in_second refl in
    elim (cases_eq at first) [
      | inl f ↦ rw (f, exchanged-first) swapped.1
      | inr f ↦
          elim (cases_eq at second) [
            | inl s ↦ rw (s, exchanged-second) swapped.0
            | inr s ↦ rw (exchanged-other first second at f s) (swapped.2 at f s)
          ]
    ]

-- an item is found at its new place
pub get_or-edited : {X : Type 0} (places : Places) (new d : X) (xs : List X) (from to : ℕ) → AreAmong places (length xs) → from < length xs → new_place places from ≡ Some to
    → get_or (edited places new xs) to d ≡ get_or xs from d
get_or-edited Kept new d xs from to among within e = let same : to ≡ from = cc e in rw same refl
get_or-edited (Inserted place) new d xs from to among within e =
    elim (cases_lt from place) [
      | inl h ↦ rw (inserted-below place from to h e) (get_or-insert_below xs place new d from h among)
      | inr h ↦ rw (inserted-above place from to h e) (get_or-insert_above xs place new d from h among)
    ]
get_or-edited (Deleted place) new d xs from to among within e =
    elim (cases_lt from place) [
      | inl h ↦ rw (deleted-below place from to h e) (get_or-remove_below xs place d from h among)
      | inr h ↦
          let above : place < from = omega (arith, deleted-not place from to e) in
          let moved = deleted-above place from to above e in
          rw moved (get_or-remove_above xs place d to (omega (arith, moved)) among)
    ]
get_or-edited (Swapped first second) new d xs from to among within e =
    let moved : to ≡ exchanged first second from = cc e in
    rw moved (get_or-swap xs first second from d among.0 among.1)

-- each place that is not new had an item before
exchanged-within : (first second count at : ℕ) → first < count → second < count → at < count → exchanged first second at < count
exchanged-within first second count at f s h = grind (arith, nat_tests)

pub exchanged-exchanged : (first second at : ℕ) → exchanged first second (exchanged first second at) ≡ at
exchanged-exchanged first second at = grind (arith, nat_tests)

pub origin : (places : Places) (count at : ℕ) → AreAmong places count → at < count_after places count → (IsNewAt places at → ⊥) → (from : ℕ) × (from < count) × (new_place places from ≡ Some at)
origin Kept count at among within old = (at, within, refl)
origin (Inserted place) count at among within old =
    let other : at ≢ place = old in
    elim (cases_lt at place) [
      | inl h ↦ (at, omega arith, grind (arith, nat_tests))
      | inr h ↦ (at - 1, omega arith, grind (arith, nat_tests))
    ]
origin (Deleted place) count at among within old =
    elim (cases_lt at place) [
      | inl h ↦ (at, omega arith, grind (arith, nat_tests))
      | inr h ↦ (at + 1, omega arith, grind (arith, nat_tests))
    ]
origin (Swapped first second) count at among within old =
    (exchanged first second at, exchanged-within first second count at among.0 among.1 within, ap Some (exchanged-exchanged first second at))

-- a picture whose lines along an axis have moved, with background at a new place
abbrev pub edited_picture : Axis → Places → Rows → Rows
edited_picture Across places picture = edited places (replicate (width_of picture) 0) picture
edited_picture Down places picture = map (edited places 0) picture

-- a column is the same where each row has the same cell there
same_column : (f : List ℕ → List ℕ) (to from width : ℕ) → ((row : List ℕ) → length row ≡ width → get_or (f row) to 0 ≡ get_or row from 0) → (rows : Rows)
    → ((i : ℕ) → i < length rows → length (get_or rows i []) ≡ width) → map (λ row. get_or row to 0) (map f rows) ≡ map (λ row. get_or row from 0) rows
same_column f to from width same [] equal = refl
same_column f to from width same (row ∷ rows) equal =
    ap (λ x. x ∷ map (λ r. get_or r to 0) (map f rows)) (same row (equal 0 (omega arith)))
    ∙ ap (λ xs. get_or row from 0 ∷ xs) (same_column f to from width same rows (λ i h. equal (suc i) (omega (arith, h))))

-- the line at a new place is the one from the old place
pub moved_line : (axis : Axis) (places : Places) (picture : Rows) (from to : ℕ) → IsPicture picture → AreAmong places (lines_along axis picture) → from < lines_along axis picture
    → new_place places from ≡ Some to → line_along axis to (edited_picture axis places picture) ≡ line_along axis from picture
moved_line Across places picture from to is among within e = get_or-edited places (replicate (width_of picture) 0) [] picture from to among within e
moved_line Down places picture from to is among within e =
    same_column (edited places 0) to from (width_of picture)
    (λ row wide. get_or-edited places 0 0 row from to (rw wide among) (rw wide within) e)
    picture is.rectangular

-- a place is new or had an item before
pub new_or_old : (places : Places) (at : ℕ) → IsNewAt places at ⊎ (IsNewAt places at → ⊥)
new_or_old Kept at = inr (λ h. h)
new_or_old (Inserted place) at = cases_eq at place
new_or_old (Deleted place) at = inr (λ h. h)
new_or_old (Swapped first second) at = inr (λ h. h)

pub get_or-edited_new : {X : Type 0} (places : Places) (new d : X) (xs : List X) (at : ℕ) → AreAmong places (length xs) → IsNewAt places at → get_or (edited places new xs) at d ≡ new
get_or-edited_new Kept new d xs at among n = absurd n
get_or-edited_new (Inserted place) new d xs at among n = rw n (get_or-insert_at xs place new d among)
get_or-edited_new (Deleted place) new d xs at among n = absurd n
get_or-edited_new (Swapped first second) new d xs at among n = absurd n

-- how many lines there are along both axes
pub first_row : (places : Places) (picture : Rows) → IsPicture picture → AreAmong places (length picture) → 0 < count_after places (length picture)
    → length (get_or (edited places (replicate (width_of picture) 0) picture) 0 []) ≡ width_of picture
first_row places picture is among some =
    elim (new_or_old places 0) [
      | inl n ↦ ap length (get_or-edited_new places (replicate (width_of picture) 0) [] picture 0 among n) ∙ length-replicate (width_of picture) 0
      | inr old ↦
          let from = origin places (length picture) 0 among some old in
          ap length (get_or-edited places (replicate (width_of picture) 0) [] picture from.0 0 among from.1 from.2) ∙ is.rectangular from.0 from.1
    ]

pub edited-sizes : (axis : Axis) (places : Places) (height width : ℕ) (picture : Rows) → HasSize height width picture → AreAmong places (lines_before axis (still height width))
    → 0 < lines_after axis (moved_along axis places height width) → (along : Axis) → lines_along along (edited_picture axis places picture) ≡ lines_after along (moved_along axis places height width)
edited-sizes Across places height width picture has among some Across =
    rw (← has.row_count) (length-edited places (replicate (width_of picture) 0) picture (rw has.row_count among))
edited-sizes Across places height width picture has among some Down =
    first_row places picture has.is_picture (rw has.row_count among) (rw has.row_count some) ∙ has.column_count
edited-sizes Down places height width picture has among some Across = length-map picture (edited places 0) ∙ has.row_count
edited-sizes Down places height width picture has among some Down =
    ap length (get_or-map (edited places 0) picture 0 [] [] has.is_picture.has_row)
    ∙ (length-edited places 0 (get_or picture 0 []) (rw has.column_count among) ∙ ap (count_after places) has.column_count)

crossing-crossing : (axis : Axis) → crossing (crossing axis) ≡ axis
crossing-crossing Across = refl
crossing-crossing Down = refl

-- a line that crosses two that are exchanged
pub swap-same : {X : Type 0} (xs : List X) (first second : ℕ) (d : X) → first < length xs → second < length xs → get_or xs first d ≡ get_or xs second d → swap xs first second ≡ xs
swap-same xs first second d in_first in_second same =
    sym (swap_is xs first second d in_first in_second)
    ∙ (ap (λ x. set (set xs first x) second (get_or xs first d)) (sym same)
    ∙ (ap (λ ys. set ys second (get_or xs first d)) (set-get_or xs first d)
    ∙ (ap (λ x. set xs second x) same ∙ set-get_or xs second d)))

map-swap : {X : Type 0} (f : X → ℕ) (xs : List X) (first second : ℕ) (d : X) → first < length xs → second < length xs → map f (swap xs first second) ≡ swap (map f xs) first second
map-swap f xs first second d in_first in_second =
    ap (map f) (sym (swap_is xs first second d in_first in_second))
    ∙ (map-set f (set xs first (get_or xs second d)) second (get_or xs first d)
    ∙ (ap (λ ys. set ys second (f (get_or xs first d))) (map-set f xs first (get_or xs second d))
    ∙ (ap (λ y. set (set (map f xs) first y) second (f (get_or xs first d))) (sym (get_or-map f xs second d 0 in_second))
    ∙ (ap (λ y. set (set (map f xs) first (get_or (map f xs) second 0)) second y) (sym (get_or-map f xs first d 0 in_first))
    ∙ swap_is (map f xs) first second 0 (omega (arith, length-map xs f)) (omega (arith, length-map xs f))))))

crossing_swapped : (axis : Axis) (first second : ℕ) (picture : Rows) (at : ℕ) → first < lines_along axis picture → second < lines_along axis picture → at < lines_along (crossing axis) picture
    → line_along (crossing axis) at (edited_picture axis (Swapped first second) picture) ≡ swap (line_along (crossing axis) at picture) first second
crossing_swapped Across first second picture at in_first in_second within = map-swap (λ row. get_or row at 0) picture first second [] in_first in_second
crossing_swapped Down first second picture at in_first in_second within = get_or-map (λ row. swap row first second) picture at [] [] within

-- it stays where both cells are the same, and only there
crossing_line : (axis : Axis) (first second : ℕ) (picture : Rows) (at : ℕ) → IsPicture picture → first < lines_along axis picture → second < lines_along axis picture
    → at < lines_along (crossing axis) picture → get_or (line_along (crossing axis) at picture) first 0 ≡ get_or (line_along (crossing axis) at picture) second 0
    → line_along (crossing axis) at (edited_picture axis (Swapped first second) picture) ≡ line_along (crossing axis) at picture
crossing_line axis first second picture at is in_first in_second within same =
    let long : length (line_along (crossing axis) at picture) ≡ lines_along axis picture = length-line_along (crossing axis) at picture is within
    ∙ ap (λ along. lines_along along picture) (crossing-crossing axis) in
    crossing_swapped axis first second picture at in_first in_second within
    ∙ swap-same (line_along (crossing axis) at picture) first second 0 (rw long in_first) (rw long in_second) same

crossing_alike : (axis : Axis) (first second : ℕ) (picture : Rows) (at : ℕ) → IsPicture picture → first < lines_along axis picture → second < lines_along axis picture
    → at < lines_along (crossing axis) picture → line_along (crossing axis) at (edited_picture axis (Swapped first second) picture) ≡ line_along (crossing axis) at picture
    → get_or (line_along (crossing axis) at picture) first 0 ≡ get_or (line_along (crossing axis) at picture) second 0
crossing_alike axis first second picture at is in_first in_second within same =
    let line = line_along (crossing axis) at picture in
    let long : length line ≡ lines_along axis picture = length-line_along (crossing axis) at picture is within ∙ ap (λ along. lines_along along picture) (crossing-crossing axis) in
    let moved : get_or (swap line first second) second 0 ≡ get_or line first 0 =
    rw (exchanged-first first second) at (get_or-swap line first second first 0 (rw long in_first) (rw long in_second)) in
    sym moved ∙ ap (λ cells. get_or cells second 0) (sym (crossing_swapped axis first second picture at in_first in_second within) ∙ same)

-- lines that are still there
pub lines_along-size : (axis : Axis) (height width : ℕ) (picture : Rows) → HasSize height width picture → lines_along axis picture ≡ lines_before axis (still height width)
lines_along-size Across height width picture has = has.row_count
lines_along-size Down height width picture has = has.column_count

pub image_of-along : (axis : Axis) (places : Places) (height width from to : ℕ) → new_place places from ≡ Some to
    → image_of (moved_along axis places height width) (line_at axis from) ≡ Some (line_at axis to)
image_of-along Across places height width from to e = ap (option_map (line_at Across)) e
image_of-along Down places height width from to e = ap (option_map (line_at Down)) e

image_of-crossing : (axis : Axis) (places : Places) (height width at : ℕ) → image_of (moved_along axis places height width) (line_at (crossing axis) at) ≡ Some (line_at (crossing axis) at)
image_of-crossing Across places height width at = refl
image_of-crossing Down places height width at = refl

old_line : (axis : Axis) (places : Places) (height width : ℕ) (picture : Rows) (at : ℕ) → HasSize height width picture → AreAmong places (lines_before axis (still height width))
    → at < count_after places (lines_before axis (still height width)) → (IsNewAt places at → ⊥)
    → IsOldLine (moved_along axis places height width) picture (edited_picture axis places picture) (line_at axis at)
old_line axis places height width picture at has among within old =
    let count = lines_along-size axis height width picture has in
    let from = origin places (lines_before axis (still height width)) at among within old in
    let inside : from.0 < lines_along axis picture = rw count from.1 in
    (line_at axis from.0, inside, image_of-along axis places height width from.0 at from.2, moved_line axis places picture from.0 at has.is_picture (rw count among) inside from.2)

pub lines_before-along : (axis : Axis) (places : Places) (height width : ℕ) (picture : Rows) → HasSize height width picture → (along : Axis)
    → lines_along along picture ≡ lines_before along (moved_along axis places height width)
lines_before-along Across places height width picture has Across = has.row_count
lines_before-along Across places height width picture has Down = has.column_count
lines_before-along Down places height width picture has Across = has.row_count
lines_before-along Down places height width picture has Down = has.column_count

-- a crossing line is its own image, and no other line's
crossing_is_same : (axis : Axis) (first second height width : ℕ) (picture : Rows) (at : ℕ)
    → IsOldLine (moved_along axis (Swapped first second) height width) picture (edited_picture axis (Swapped first second) picture) (line_at (crossing axis) at)
    → line_along (crossing axis) at (edited_picture axis (Swapped first second) picture) ≡ line_along (crossing axis) at picture
crossing_is_same axis first second height width picture at is =
    let moves = moved_along axis (Swapped first second) height width in
    let line = line_at (crossing axis) at in
    let same : is.0 ≡ line = cc (origin_of-image moves is.0 line is.2, origin_of-image moves line line (image_of-crossing axis (Swapped first second) height width at)) in
    is.3 ∙ ap (line_of picture) same

-- an insertion or a deletion
untouched_line : (axis along : Axis) (places : Places) (height width : ℕ) (marked : Lines) (picture : Rows) (at : ℕ) → ChangesLength places → HasSize height width picture
    → AreAmong places (lines_before axis (still height width)) → at < lines_after along (moved_along axis places height width)
    → (IsTouched (record { moves = moved_along axis places height width; marked = marked }) (line_at along at) → ⊥)
    → IsOldLine (moved_along axis places height width) picture (edited_picture axis places picture) (line_at along at)
untouched_line Across Across places height width marked picture at changes has among within untouched = old_line Across places height width picture at has among within (λ n. untouched (inl n))
untouched_line Across Down places height width marked picture at changes has among within untouched = absurd (untouched (inr (inl changes)))
untouched_line Down Across places height width marked picture at changes has among within untouched = absurd (untouched (inr (inl changes)))
untouched_line Down Down places height width marked picture at changes has among within untouched = old_line Down places height width picture at has among within (λ n. untouched (inl n))

follows : (axis : Axis) (places : Places) (height width : ℕ) (marked : Lines) (picture : Rows) → ChangesLength places → HasSize height width picture → AreMoves (moved_along axis places height width)
    → AreAmong places (lines_before axis (still height width)) → Follows (record { moves = moved_along axis places height width; marked = marked }) picture (edited_picture axis places picture)
follows axis places height width marked picture changes has moves among =
    let sizes = edited-sizes axis places height width picture has among (moves.some_after axis) in
    record {
      sizes = sizes;
      untouched = λ line within untouched. untouched_line axis line.axis places height width marked picture line.at changes has among (rw sizes at within) untouched;
    }

follows_insert : (axis : Axis) (at height width : ℕ) (marked : Lines) (picture : Rows) → HasSize height width picture → AreMoves (moved_along axis (Inserted at) height width)
    → Follows (record { moves = moved_along axis (Inserted at) height width; marked = marked }) picture (with_line axis at picture)
follows_insert Across at height width marked picture has moves = follows Across (Inserted at) height width marked picture tt has moves (moves.among Across)
follows_insert Down at height width marked picture has moves = follows Down (Inserted at) height width marked picture tt has moves (moves.among Down)

follows_delete : (axis : Axis) (at height width : ℕ) (marked : Lines) (picture : Rows) → HasSize height width picture → AreMoves (moved_along axis (Deleted at) height width)
    → Follows (record { moves = moved_along axis (Deleted at) height width; marked = marked }) picture (without_line axis at picture)
follows_delete Across at height width marked picture has moves = follows Across (Deleted at) height width marked picture tt has moves (moves.among Across)
follows_delete Down at height width marked picture has moves = follows Down (Deleted at) height width marked picture tt has moves (moves.among Down)

-- an exchange
swapped_line : (axis along : Axis) (first second height width : ℕ) (picture : Rows) (at : ℕ) → HasSize height width picture → AreAmong (Swapped first second) (lines_before axis (still height width))
    → at < lines_after along (moved_along axis (Swapped first second) height width) → (along ≡ crossing axis → get_or (line_along along at picture) first 0
    ≡ get_or (line_along along at picture) second 0) → IsOldLine (moved_along axis (Swapped first second) height width) picture (edited_picture axis (Swapped first second) picture) (line_at along at)
swapped_line Across Across first second height width picture at has among within same = old_line Across (Swapped first second) height width picture at has among within (λ n. n)
swapped_line Across Down first second height width picture at has among within same = (
  line_at Down at,
  rw has.column_count within,
  refl,
  crossing_line Across first second picture at has.is_picture (rw has.row_count among.0) (rw has.row_count among.1) (rw has.column_count within) (same refl),
)
swapped_line Down Across first second height width picture at has among within same = (
  line_at Across at,
  rw has.row_count within,
  refl,
  crossing_line Down first second picture at has.is_picture (rw has.column_count among.0) (rw has.column_count among.1) (rw has.row_count within) (same refl),
)
swapped_line Down Down first second height width picture at has among within same = old_line Down (Swapped first second) height width picture at has among within (λ n. n)

alike_line : (axis along : Axis) (first second height width : ℕ) (picture : Rows) (at : ℕ) → HasSize height width picture → AreAmong (Swapped first second) (lines_before axis (still height width))
    → at < lines_after along (moved_along axis (Swapped first second) height width) → along ≡ crossing axis → IsOldLine (moved_along axis (Swapped first second) height width) picture
    (edited_picture axis (Swapped first second) picture) (line_at along at) → get_or (line_along along at picture) first 0 ≡ get_or (line_along along at picture) second 0
alike_line Across Across first second height width picture at has among within crosses is = absurd (cc crosses)
alike_line Across Down first second height width picture at has among within crosses is =
    crossing_alike Across first second picture at has.is_picture (rw has.row_count among.0) (rw has.row_count among.1) (rw has.column_count within)
    (crossing_is_same Across first second height width picture at is)
alike_line Down Across first second height width picture at has among within crosses is =
    crossing_alike Down first second picture at has.is_picture (rw has.column_count among.0) (rw has.column_count among.1) (rw has.row_count within)
    (crossing_is_same Down first second height width picture at is)
alike_line Down Down first second height width picture at has among within crosses is = absurd (cc crosses)

swapped_lines : (axis : Axis) (first second height width : ℕ) (picture : Rows) → HasSize height width picture → AreMoves (moved_along axis (Swapped first second) height width)
    → AreAmong (Swapped first second) (lines_before axis (still height width))
    → FollowsSwap axis first second (moved_along axis (Swapped first second) height width) picture (edited_picture axis (Swapped first second) picture)
swapped_lines axis first second height width picture has moves among =
    let sizes = edited-sizes axis (Swapped first second) height width picture has among (moves.some_after axis) in
    record {
      sizes = record { before = lines_before-along axis (Swapped first second) height width picture has; after = sizes };
      alike = λ line within same. swapped_line axis line.axis first second height width picture line.at has among (rw sizes at within) same;
      only = λ line within is crosses. alike_line axis line.axis first second height width picture line.at has among (rw sizes at within) crosses is;
    }

follows_swap : (axis : Axis) (first second height width : ℕ) (picture : Rows) → HasSize height width picture → AreMoves (moved_along axis (Swapped first second) height width)
    → FollowsSwap axis first second (moved_along axis (Swapped first second) height width) picture (lines_swapped axis first second picture)
follows_swap Across first second height width picture has moves = swapped_lines Across first second height width picture has moves (moves.among Across)
follows_swap Down first second height width picture has moves = swapped_lines Down first second height width picture has moves (moves.among Down)

-- the pictures that the changes of lines follow
pub inserts : (change : Changes) (axis : Axis) (at height width : ℕ) → change ≡ record { moves = moved_along axis (Inserted at) height width; marked = no_names } → AreMoves change.moves
    → (picture : Rows) → HasSize height width picture → Follows change picture (with_line axis at picture)
inserts change axis at height width is moves = λ picture has. rw is (follows_insert axis at height width no_names picture has (rw is at moves))

pub deletes : (change : Changes) (axis : Axis) (at height width : ℕ) → change ≡ record { moves = moved_along axis (Deleted at) height width; marked = no_names } → AreMoves change.moves
    → (picture : Rows) → HasSize height width picture → Follows change picture (without_line axis at picture)
deletes change axis at height width is moves = λ picture has. rw is (follows_delete axis at height width no_names picture has (rw is at moves))

pub swaps : (change : Changes) (axis : Axis) (first second height width : ℕ) → change ≡ record { moves = moved_along axis (Swapped first second) height width; marked = no_names }
    → AreMoves change.moves → (picture : Rows) → HasSize height width picture → FollowsSwap axis first second change.moves picture (lines_swapped axis first second picture)
swaps change axis first second height width is moves = λ picture has. rw is (follows_swap axis first second height width picture has (rw is at moves))

pub ruleset following = (inserts, deletes, swaps)
