-- The map of a puzzle: there is a base, and a search for another picture may start from the map.
use Rattle.std.proofs.Common.{◌≡◌, ℕ, ◌^◌, ◌+◌, ◌<◌, ◌≤◌, List, [], Result, Ok, Err, length, replicate, get_or, refl, sym, ap, subst, ◌∙◌, arith, inl, inr, bit_and}
use Rattle.std.specs.Prelude.{IsBitSet, slice_index}
use Rattle.std.proofs.lemmas.Bool.{cases_eq, cases_lt}
use Rattle.std.proofs.lemmas.List.{get_or-replicate, get_or_past}
use Rattle.picture.specs.declared.line_id.Axis.TheVariants.{Across, Down}
use Rattle.picture.specs.declared.picture.TheConstants.{MAX_SIDE}
use Rattle.picture.specs.CellSet.{HasCell}
use Rattle.picture.specs.Picture.{IsPicture}
use Rattle.picture.specs.Rows.{width_of, row_at, cell_at, Rows}
use Rattle.picture.proofs.BitLaws.{bit_below}
use Rattle.clues.specs.ClueBook.{Clues, clues_of}
use Rattle.line_facts.specs.declared.meter.Meter.{Meter}
use Rattle.line_facts.specs.FactSets.{IsBase, IsFacts, IsLeast, SameShape, nothing_excluded}
use Rattle.line_facts.specs.Masks.{Masks}
use Rattle.line_facts.proofs.GridLaws.{all_left, full_shape, shape_sym, shape_trans}
use Rattle.fixpoint.specs.declared.fault.CloseFault.{CloseFault}
use Rattle.fixpoint.specs.declared.fault.CloseFault.TheVariants as fault
use Rattle.fixpoint.specs.ClosedFacts.{AreClosable, HasDeadLine}
use Rattle.fixpoint.specs.Fillings.{Fills, LeavesPicture, only}
use Rattle.fixpoint.specs.LeastFacts.{SettlingWorks}
use Rattle.grade.specs.declared.figures.Figures.{Figures}
use Rattle.grade.specs.Figures.{figures_of}
use Rattle.grade.specs.Looks.{Look}
use Rattle.grade.specs.Runs.{IsRun}
use Rattle.grade.specs.Starts.{IsStart}
use Rattle.grade.proofs.StartLaws.{pictures_fill, starts_suffice}
use Rattle.second_search.specs.Other.{AreSound}
use Rattle.second_search.specs.Evaluations.{most_to_close}
use Rattle.second_search.specs.Parts.{IsScene, picked}
use Rattle.second_search.proofs.DrawLemmas.{closing_few, same_most}
use Rattle.second_search.proofs.FindLemmas.{can_close}
use Rattle.second_search.proofs.KnownLaws.{closing_keeps_fillings, clues_are_of_lines, only_is_closed, sound_facts}
use Rattle.second_search.proofs.PickLemmas.{IsRectangle, off_part, on_part, rect_like, shape_of_picked}
use Rattle.assess.specs.Settling.{HasFigures, IsMap}

-- ---- the base

-- in the givens the picture's colour alone, elsewhere all sixteen
base_of : List ℕ → Rows → Masks
base_of givens picture = picked givens (only picture) (nothing_excluded (length picture) (width_of picture))

full_cell : (picture : Rows) (row col : ℕ) → row < length picture → col < width_of picture → cell_at (nothing_excluded (length picture) (width_of picture)) row col ≡ 65535
full_cell picture row col h w =
    ap (λ (r : List ℕ). get_or r col 0) (get_or-replicate (length picture) row (replicate (width_of picture) 65535) [] h) ∙ get_or-replicate (width_of picture) col 65535 0 w

base_is : (picture : Rows) (givens : List ℕ) → IsPicture picture → IsBase givens picture (base_of givens picture)
unfolding base_of
base_is picture givens is =
    let full = nothing_excluded (length picture) (width_of picture) in
    let shape = full_shape picture is in
    let rect : IsRectangle full = rect_like picture full shape is.rectangular in
    record {
      same_shape = shape_trans shape (shape_sym (shape_of_picked givens (only picture) full rect));
      left = λ row col k h w.
          let tall : row < length full = (let e = shape.rows in omega arith) in
          let wide : col < width_of full = (let e = shape.each 0 in omega arith) in
          let long : col < length (row_at picture row) = (let r = is.rectangular row h in omega arith) in
          elim (cases_eq (bit_and (slice_index givens row) (2 ^ col)) 0) [
            | inl e ↦
                let n : HasCell givens row col → ⊥ = λ g. g e in
                let there : cell_at (base_of givens picture) row col ≡ 65535 = off_part givens (only picture) full row col rect n ∙ full_cell picture row col h w in (
                  (λ l. (bit_below 65535 16 k (omega arith) (subst (λ (m : ℕ). IsBitSet m k) there l), (λ g. absurd (n g)))),
                  (λ o. subst (λ (m : ℕ). IsBitSet m k) (sym (off_part givens (only picture) full row col rect n)) (all_left (length picture) (width_of picture) row col k h w o.0)),
                )
            | inr g ↦
                let there = on_part givens (only picture) full row col tall wide g in
                let leaves = only_is_closed.leaves picture row col k in (
                  (λ l.
                      let e : k ≡ cell_at picture row col = (leaves.0 (subst (λ (m : ℕ). IsBitSet m k) there l)).1 in
                      ((let c = is.colours row col in omega arith), (λ _. e))),
                  (λ o. subst (λ (m : ℕ). IsBitSet m k) (sym there) (leaves.1 (long, o.1 g))),
                )
          ];
    }

-- ---- the map

-- line logic ends with the map
pub map_of : (clues : Clues) (picture : Rows) (givens : List ℕ) (start : Masks) (end : Masks) → IsPicture picture → clues ≡ clues_of picture → IsStart clues givens picture start
    → ((other : Rows) → Fills clues start other → IsLeast clues start end) → IsMap picture givens end
map_of clues picture givens start end is e s least =
    let base = base_of givens picture in
    let based = base_is picture givens is in
    let started = subst (λ (c : Clues). IsStart c givens picture start) e s in
    let ends = subst (λ (c : Clues). (other : Rows) → Fills c start other → IsLeast c start end) e least in
    (base, (based, starts_suffice picture givens base start end is based started (ends picture (pictures_fill picture givens start is started))))

pub has_figures : (clues : Clues) (picture : Rows) (givens : List ℕ) (start : Masks) (end : Masks) (looks : List Look) (figures : Figures) → IsPicture picture → clues ≡ clues_of picture
    → IsStart clues givens picture start → ((other : Rows) → Fills clues start other → IsLeast clues start end) → IsRun clues start looks end → figures ≡ figures_of looks end
    → HasFigures picture givens figures
has_figures clues picture givens start end looks figures is e s least run same = record {
  looks = looks;
  map = end;
  are_looks = record {
    start = start;
    is_start = subst (λ (c : Clues). IsStart c givens picture start) e s;
    is_run = subst (λ (c : Clues). IsRun c start looks end) e run;
  };
  is_map = map_of clues picture givens start end is e s least;
  figures_are = same;
}

pub scene_is : (clues : Clues) (picture : Rows) (givens : List ℕ) (map : Masks) → IsPicture picture → clues ≡ clues_of picture → IsMap picture givens map → IsScene clues givens map picture
scene_is clues picture givens map is e m = record {
  is_picture = is;
  has_clues = sym e;
  sound =
      let based = sound_facts.base (clues_of picture) givens picture m.0 is m.1.0 in
      subst (λ (c : Clues). AreSound c givens picture map) (sym e) (sound_facts.settled (clues_of picture) givens picture m.0 map m.1.1 based);
}

-- ---- sizes, and closing

-- no line of a puzzle is longer than an engine takes
pub fits : (clues : Clues) (picture : Rows) (longest : ℕ) → IsPicture picture → clues ≡ clues_of picture → MAX_SIDE ≤ longest
    → (length clues.rows ≤ longest) × (length clues.columns ≤ longest)
fits clues picture longest is e long =
    let rows : length clues.rows ≡ length picture = ap (λ (c : Clues). length c.rows) e ∙ clues_are_of_lines.sizes picture Across in
    let columns : length clues.columns ≡ width_of picture = ap (λ (c : Clues). length c.columns) e ∙ clues_are_of_lines.sizes picture Down in
    let tall = is.rows_fit in
    let wide = is.columns_fit in
    (omega arith, omega arith)

pub closable : (clues : Clues) (picture : Rows) (base : Masks) (longest : ℕ) → IsPicture picture → clues ≡ clues_of picture → MAX_SIDE ≤ longest → SameShape picture base
    → AreClosable clues longest base
closable clues picture base longest is e long s =
    let f = fits clues picture longest is e long in
    can_close clues picture base base longest (clues_are_of_lines.sizes picture) (sym e) s refl f.0 f.1

pub map_settled : (clues : Clues) (picture : Rows) (givens : List ℕ) (base : Masks) (map : Masks) → clues ≡ clues_of picture → IsBase givens picture base
    → IsLeast clues base map → IsMap picture givens map
map_settled clues picture givens base map e b l = (base, (b, subst (λ (c : Clues). IsLeast c base map) e l))

pub cell_inside : (picture : Rows) (row col : ℕ) → IsPicture picture → col < length (row_at picture row) → (row < length picture) × (col < width_of picture)
cell_inside picture row col is l = elim (cases_lt row (length picture)) [
  | inl h ↦ (h, (let r = is.rectangular row h in let w : col < width_of picture = omega arith in w))
  | inr past ↦ (let none = ap length (get_or_past picture row [] past) in absurd (omega arith))
]

-- the picture fills the facts of its givens, so that no line is dead
pub none_dead : (clues : Clues) (picture : Rows) (givens : List ℕ) (base : Masks) → IsPicture picture → clues ≡ clues_of picture → IsBase givens picture base → HasDeadLine clues base → ⊥
none_dead clues picture givens base is e b dead =
    closing_keeps_fillings.none_where_dead clues base picture dead (record { is_picture = is; same_shape = b.same_shape; has_clues = sym e; leaves = leaves })
  where
    leaves : LeavesPicture picture base
    leaves row col l =
        let inside = cell_inside picture row col is l in
        (b.left row col (cell_at picture row col) inside.0 inside.1).1 ((let c = is.colours row col in let m : cell_at picture row col < 16 = omega arith in m), (λ _. refl))

pub settling_few : (clues : Clues) (picture : Rows) (base : Masks) (result : Result Masks CloseFault) (old new : Meter) (before after : ℕ) → IsFacts base → SameShape picture base
    → SettlingWorks clues base result old new before after → after ≤ before + most_to_close picture
settling_few clues picture base (Ok map) old new before after is s w =
    let few = closing_few clues base map w.0 _ old new before after is (λ line h. (w.1.0 line).0 h) w.1.1 in
    omega (arith, same_most picture base s)
settling_few clues picture base (Err fault.Dead) old new before after is s w =
    let few = closing_few clues base w.1.1.0 w.0 _ old new before after is (λ line h. (w.1.0 line).0 h) w.1.1.1 in
    omega (arith, same_most picture base s)
settling_few clues picture base (Err fault.Memory) old new before after is s w =
    let same = w.1 in
    omega arith

-- settling does not let the engine's calls fall
pub settling_calls : (clues : Clues) (base : Masks) (result : Result Masks CloseFault) (old new : Meter) (before after : ℕ) → before < 2 ^ 64
    → SettlingWorks clues base result old new before after → before ≤ after
settling_calls clues base (Ok map) old new before after some w =
    let calls = w.1.1.counts.calls in
    omega arith
settling_calls clues base (Err fault.Dead) old new before after some w =
    let calls = w.1.1.1.counts.calls in
    omega arith
settling_calls clues base (Err fault.Memory) old new before after some w =
    let same = w.1 in
    omega arith

pub closable_by : (clues : Clues) (facts : Masks) (longest : ℕ) → AreClosable clues MAX_SIDE facts → MAX_SIDE ≤ longest → AreClosable clues longest facts
closable_by clues facts longest c long = record { rows = c.rows; columns = c.columns; wide = omega arith; tall = omega arith }
