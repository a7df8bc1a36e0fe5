-- A tree that is told step by step is a proof with lemmas.
use Rattle.std.proofs.Common.{◌≡◌, ℕ, ◌+◌, ◌-◌, ◌^◌, ◌<◌, ◌≤◌, List, [], ◌∷◌, length, get_or, replicate, refl, sym, ap, subst, ◌∙◌, arith, inl, inr, bit_and}
use Rattle.std.specs.Prelude.{IsBitSet, slice_index}
use Rattle.std.proofs.lemmas.List.{get_or-replicate, length-replicate}
use Rattle.std.specs.Int.{bit_not, w16}
use Rattle.std.specs.List.{AllByRecursion}
use Rattle.line_facts.specs.Masks.{Masks}
use Rattle.line_facts.specs.Branches.{colours_of, held}
use Rattle.line_facts.specs.FactSets.{SameShape, nothing_excluded}
use Rattle.line_facts.proofs.GridLaws.{at_with_cell, full_shape, shape_sym, shape_trans, shape_with_cell}
use Rattle.picture.specs.declared.line_id.Axis.{Axis}
use Rattle.picture.specs.declared.line_id.Axis.TheVariants.{Across, Down}
use Rattle.picture.specs.Picture.{IsPicture}
use Rattle.picture.specs.Rows.{cell_at, lines_along, row_at, width_of, with_cell, Rows}
use Rattle.picture.proofs.BitLaws.{bit_below, fewer_le, no_bit, power_has}
use Rattle.line_facts.proofs.MaskLaws.{full_has}
use Rattle.trail.proofs.GridLemmas.{same_grid, set_each}
use Rattle.cert_text.specs.declared.cert_line.CellNumber.{CellNumber}
use Rattle.cert_text.specs.declared.cert_line.LineNumber.{LineNumber}
use Rattle.cert_text.specs.declared.cert_line.CertLine.{CertLine}
use Rattle.cert_text.specs.declared.cert_line.CertLine.TheVariants.{Line, Dead, Done, Part}
use Rattle.cert_text.specs.declared.form.Form.{Form}
use Rattle.cert_text.specs.declared.form.Form.TheVariants.{Tree as OfTree, GivenTree, Lemmas, LemmaRuns}
use Rattle.cert_text.specs.Cert.{AreOfForm, AreOrdered, CanHaveGivens, IsOfLemmas}
use Rattle.cert_check.specs.Puzzle.{HasCellNumber, HasLineNumber, IsDead, IsForced, base_of, line_id}
use Rattle.cert_check.specs.Lemmas.{held_off, held_to, no_lemmas}
use Rattle.cert_check.specs.LemmaProof.{TrunkProves}
use Rattle.cert_check.specs.Tree.{Tree, Trees, done, dead, forced, split, none, more, Proves, EachProves}
use Rattle.cert_check.proofs.BaseLemmas.{givens_shape, left_inside, left_or_given}
use Rattle.cert_check.proofs.BoardLemmas.{overwritten}
use Rattle.cert_check.proofs.Soundness.{forced_within}
use Rattle.cert_check.proofs.TreeExactness.{same_gains}
use Rattle.claims.specs.Told.{HasLemmas, Tells, TellsEach, ToldTreesAreProofs, branch_of, mask_of, row_of, some_of}
use Rattle.claims.proofs.ToldColourLemmas.{Ascend, colours_ascend, first_left, mask_back, mask_small, mask_some, one_colour, others_left}
use Rattle.claims.proofs.ToldStepLemmas.{AreSteps, ended, onward, parted}

-- facts of the picture's shape, whose masks have 16 bits
record AreFacts (picture : Rows) (facts : Masks) : Type 0 where
  same_shape : SameShape picture facts
  small : (row col k : ℕ) → IsBitSet (cell_at facts row col) k → k < 16

-- a line of a picture by its number
few_lines : (axis : Axis) (picture : Rows) → IsPicture picture → lines_along axis picture ≤ 120
few_lines Across picture is = is.rows_fit
few_lines Down picture is = is.columns_fit

number_small : (picture : Rows) (number : LineNumber) → IsPicture picture → HasLineNumber picture number → number.number < 1000
number_small picture number is has = let few = few_lines number.axis picture is in omega (arith, has.1, few)

module _ (picture : Rows) (is : IsPicture picture) where
  -- ---- what the facts of a proof are

  cell_small : (facts : Masks) → AreFacts picture facts → (row col : ℕ) → cell_at facts row col < 2 ^ 16
  cell_small facts f row col = let l = fewer_le (cell_at facts row col) 65535 (λ k s. full_has k (f.small row col k s)) in omega arith

  forced_facts : (facts gained : Masks) (number : LineNumber) → AreFacts picture facts → IsForced picture facts (line_id number) gained → AreFacts picture gained
  forced_facts facts gained number f gains =
      let within = forced_within picture facts gained (line_id number) gains in
      record { same_shape = shape_trans f.same_shape within.same_shape; small = λ row col k s. f.small row col k (within.leaves row col k s) }

  all_facts : AreFacts picture (nothing_excluded (length picture) (width_of picture))
  all_facts = record { same_shape = full_shape picture is; small = small }
    where
      small : (row col k : ℕ) → IsBitSet (cell_at (nothing_excluded (length picture) (width_of picture)) row col) k → k < 16
      small row col k s =
          let full : List ℕ = replicate (width_of picture) 65535 in
          let inside = left_inside (replicate (length picture) full) row col k s in
          let there : row < length picture = omega (arith, inside.0, length-replicate (length picture) full) in
          let row_is = get_or-replicate (length picture) row full [] there in
          let wide : col < width_of picture = omega (arith, inside.1, ap (λ (r : List ℕ). length r) row_is, length-replicate {A = ℕ} (width_of picture) 65535) in
          bit_below 65535 16 k (omega arith) (subst (λ (m : ℕ). IsBitSet m k) (ap (λ (r : List ℕ). get_or r col 0) row_is ∙ get_or-replicate (width_of picture) col 65535 0 wide) s)

  base_facts : (givens : List CellNumber) → AreFacts picture (base_of picture givens)
  base_facts givens = record {
    same_shape = givens_shape picture (nothing_excluded (length picture) (width_of picture)) givens all_facts.same_shape;
    small = λ row col k s. elim (left_or_given picture (nothing_excluded (length picture) (width_of picture)) givens row col k s) [
      | inl l ↦ all_facts.small row col k l
      | inr e ↦ let c = is.colours row col in omega arith
    ];
  }

  -- ---- a cell that is split

  module _ (cell : CellNumber) (has : HasCellNumber picture cell) (facts : Masks) (f : AreFacts picture facts) where
    row_there : cell.row - 1 < length facts
    row_there = let a = has.0 in let b = has.1 in let s = f.same_shape.rows in omega arith

    col_there : cell.col - 1 < length (row_at facts (cell.row - 1))
    col_there =
        let a = has.0 in
        let b = has.1 in
        let c = has.2 in
        let d = has.3 in
        let s = f.same_shape.each (cell.row - 1) in
        let r = is.rectangular (cell.row - 1) (omega arith) in
        omega arith

    -- the cell with these colours
    abbrev at : ℕ → Masks
    at mask = with_cell facts (cell.row - 1) (cell.col - 1) mask

    at_is : (mask : ℕ) → cell_at (at mask) (cell.row - 1) (cell.col - 1) ≡ mask
    at_is mask = at_with_cell facts (cell.row - 1) (cell.col - 1) mask row_there col_there

    at_again : (mask other : ℕ) → with_cell (at mask) (cell.row - 1) (cell.col - 1) other ≡ at other
    at_again mask other = overwritten facts (cell.row - 1) (cell.col - 1) mask other row_there col_there

    at_same : (mask : ℕ) → mask ≡ cell_at facts (cell.row - 1) (cell.col - 1) → at mask ≡ facts
    at_same mask e =
        same_grid (at mask) facts (shape_sym (shape_with_cell facts (cell.row - 1) (cell.col - 1) mask))
        (set_each facts (cell.row - 1) (cell.col - 1) mask row_there col_there (λ r c m. m ≡ cell_at facts r c) e (λ r c d. refl))

    colour_facts : (colour : ℕ) → colour < 16 → AreFacts picture (at (2 ^ colour))
    colour_facts colour l = record {
      same_shape = shape_trans f.same_shape (shape_with_cell facts (cell.row - 1) (cell.col - 1) (2 ^ colour));
      small = set_each facts (cell.row - 1) (cell.col - 1) (2 ^ colour) row_there col_there (λ r c m. (k : ℕ) → IsBitSet m k → k < 16)
          (λ k s. let e = (power_has colour k).0 s in omega arith) (λ r c d. f.small r c);
    }

    -- no list of colours fits the row of a cell without colours
    row_dead : IsDead picture (at 0) (line_id (row_of cell))
    row_dead fit =
        let s = shape_with_cell facts (cell.row - 1) (cell.col - 1) 0 in
        let wide = s.each (cell.row - 1) in
        let there = col_there in
        no_bit (slice_index fit.0 (cell.col - 1))
        (subst (λ (m : ℕ). IsBitSet m (slice_index fit.0 (cell.col - 1))) (at_is 0) (fit.1.keeps (cell.col - 1) (omega arith)))

    off_is : (least colour : ℕ) (others : List ℕ) → Ascend least (colour ∷ others) → held_off (at (mask_of (colour ∷ others))) (some_of cell others) ≡ at (2 ^ colour)
    off_is least colour others a =
        let mask = mask_of (colour ∷ others) in
        ap (λ (m : ℕ). with_cell (at mask) (cell.row - 1) (cell.col - 1) m) (ap (λ (m : ℕ). bit_and m (bit_not w16 (mask_of others))) (at_is mask) ∙ first_left least colour others a)
        ∙ at_again mask (2 ^ colour)

    to_is : (colour : ℕ) (others : List ℕ) → held_to (at (mask_of (colour ∷ others))) (some_of cell others) ≡ at (mask_of others)
    to_is colour others =
        let mask = mask_of (colour ∷ others) in
        ap (λ (m : ℕ). with_cell (at mask) (cell.row - 1) (cell.col - 1) m) (ap (λ (m : ℕ). bit_and m (mask_of others)) (at_is mask) ∙ others_left colour others)
        ∙ at_again mask (mask_of others)

    cell_writes : (cell.row < 1000) × (cell.col < 1000)
    cell_writes = let r = is.rows_fit in let c = is.columns_fit in ((let l : cell.row < 1000 = omega (arith, has.1, r) in l), (let l : cell.col < 1000 = omega (arith, has.3, c) in l))

  -- ---- the tree

  mutual
    steps : (tree : Tree) (facts : Masks) (lines : List CertLine) → AreFacts picture facts → Proves picture facts tree → Tells picture facts tree lines → AreSteps picture facts lines
    steps done facts lines f p t = subst (λ (ls : List CertLine). AreSteps picture facts ls) (sym t) (ended picture facts Done tt tt (p, refl))
    steps (dead number) facts lines f p t =
        subst (λ (ls : List CertLine). AreSteps picture facts ls) (sym t) (ended picture facts (Dead number) (number_small picture number is p.0) tt (p.0, p.1, refl))
    steps (forced number tree) facts lines f p t =
        let same : p.1.0 ≡ t.0 = same_gains picture facts p.1.0 t.0 (line_id number) p.1.1.0 t.1.1.0 in
        let rest = steps tree t.0 t.1.0 (forced_facts facts t.0 number f t.1.1.0) (subst (λ (fs : Masks). Proves picture fs tree) same p.1.1.1) t.1.1.1 in
        subst (λ (ls : List CertLine). AreSteps picture facts ls) (sym t.1.1.2)
        (onward picture facts (Line number) (number_small picture number is p.0) tt t.0 t.1.0 (p.0, (t.0, (t.1.1.0, refl))) rest)
    steps (split cell trees) facts lines f p t =
        let mask = cell_at facts (cell.row - 1) (cell.col - 1) in
        subst (λ (fs : Masks). AreSteps picture fs lines) (at_same cell p.0 facts f (mask_of (colours_of mask)) (mask_back mask (cell_small facts f (cell.row - 1) (cell.col - 1))))
        (each_steps trees cell p.0 facts f 0 (colours_of mask) lines (colours_ascend mask) p.1 t)

    each_steps : (trees : Trees) (cell : CellNumber) (has : HasCellNumber picture cell) (facts : Masks) (f : AreFacts picture facts) (least : ℕ) (colours : List ℕ) (lines : List CertLine)
        → Ascend least colours → EachProves picture (held facts (cell.row - 1) (cell.col - 1) colours) trees → TellsEach picture facts cell colours trees lines
        → AreSteps picture (with_cell facts (cell.row - 1) (cell.col - 1) (mask_of colours)) lines
    each_steps none cell has facts f least [] lines a p t =
        let there : HasLineNumber picture (row_of cell) = (has.0, has.1) in
        subst (λ (ls : List CertLine). AreSteps picture (with_cell facts (cell.row - 1) (cell.col - 1) 0) ls) (sym t)
        (ended picture _ (Dead (row_of cell)) (number_small picture (row_of cell) is there) tt (there, row_dead cell has facts f, refl))
    each_steps none cell has facts f least (colour ∷ others) lines a p t = absurd p
    each_steps (more tree trees) cell has facts f least [] lines a p t = absurd p
    each_steps (more tree none) cell has facts f least (colour ∷ []) lines a p t =
        subst (λ (m : ℕ). AreSteps picture (with_cell facts (cell.row - 1) (cell.col - 1) m) lines) (sym (one_colour colour))
        (steps tree (branch_of facts cell colour) lines (colour_facts cell has facts f colour a.1) p.0 t)
    each_steps (more tree (more other trees)) cell has facts f least (colour ∷ []) lines a p t = absurd t
    each_steps (more tree trees) cell has facts f least (colour ∷ next ∷ others) lines a p t =
        let first = steps tree (branch_of facts cell colour) t.0 (colour_facts cell has facts f colour a.1) p.0 t.1.1.0 in
        let rest = each_steps trees cell has facts f (colour + 1) (next ∷ others) t.1.0 a.2 p.1 t.1.1.1 in
        let at_hand = with_cell facts (cell.row - 1) (cell.col - 1) (mask_of (colour ∷ next ∷ others)) in
        let literal = some_of cell (next ∷ others) in
        let small = mask_small (colour + 1) (next ∷ others) a.2 in
        let writes = cell_writes cell has facts f in
        subst (λ (ls : List CertLine). AreSteps picture at_hand ls) (sym t.1.1.2)
        (parted picture at_hand (Part literal) (writes.0, writes.1, mask_some next others, small) tt (held_off at_hand literal) (held_to at_hand literal) t.0 t.1.0 ((has, small), refl)
        (subst (λ (fs : Masks). AreSteps picture fs t.0) (sym (off_is cell has facts f least colour (next ∷ others) a)) first)
        (subst (λ (fs : Masks). AreSteps picture fs t.1.0) (sym (to_is cell has facts f colour (next ∷ others))) rest))

-- ---- the certificate

ordered : (form : Form) (givens : List CellNumber) → CanHaveGivens form givens → AreOrdered 0 givens
ordered OfTree givens c = subst (λ (cells : List CellNumber). AreOrdered 0 cells) (sym c) tt
ordered GivenTree givens c = c
ordered Lemmas givens c = c
ordered LemmaRuns givens c = c

of_form : (form : Form) (givens : List CellNumber) (lines : List CertLine) → HasLemmas form → AreOrdered 0 givens → AllByRecursion IsOfLemmas lines → CanHaveGivens form givens × AreOfForm form lines
of_form OfTree givens lines h o w = absurd h
of_form GivenTree givens lines h o w = absurd h
of_form Lemmas givens lines h o w = (o, w)
of_form LemmaRuns givens lines h o w = (o, w)

pub told_trees_are_proofs : ToldTreesAreProofs
told_trees_are_proofs picture cert is writable proof told t =
    let s = steps picture is proof.tree (base_of picture cert.givens) told.lines (base_facts picture is cert.givens) proof.proves t.lines in
    let o = subst (λ (cells : List CellNumber). AreOrdered 0 cells) (sym t.givens) (ordered cert.form cert.givens writable.givens) in
    let w = of_form told.form told.givens told.lines t.form o s.writable in (
      record {
        inside = subst (λ (cells : List CellNumber). AllByRecursion (HasCellNumber picture) cells) (sym t.givens) proof.inside;
        trunk = s.trunk;
        lines = sym s.trunk_is;
        proves = subst (λ (cells : List CellNumber). TrunkProves picture no_lemmas (base_of picture cells) s.trunk) (sym t.givens) s.trunk_proves;
      },
      record { givens = w.0; lines = w.1; runs = t.runs },
      s.plain,
    )
