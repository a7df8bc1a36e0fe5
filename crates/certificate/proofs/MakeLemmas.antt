-- The lines of a tree that a search writes are those of a certificate without error.
use Rattle.std.proofs.Common.{◌≡◌, ℕ, suc, ◌+◌, ◌-◌, ◌<◌, ◌≤◌, List, [], ◌∷◌, ◌++◌, true, None, Some, length, eqb, eqb-true, refl, sym, ap, ◌∙◌, arith, inr}
use Rattle.std.specs.Int.{bit_at}
use Rattle.std.specs.List.{All, range_with_len}
use Rattle.std.proofs.lemmas.List.Elements.{filter_passes}
use Rattle.line_facts.specs.Masks.{Masks}
use Rattle.picture.specs.declared.line_id.Axis.{Axis}
use Rattle.picture.specs.declared.line_id.Axis.TheVariants.{Across, Down}
use Rattle.picture.proofs.BitLaws.{bit_is_set}
use Rattle.picture.specs.Picture.{IsPicture}
use Rattle.picture.specs.Rows.{width_of, cell_at, line_of, lines_along, Rows}
use Rattle.clues.specs.ClueBook.{Clues, clues_of}
use Rattle.clues.specs.Laws.{CluesAreOfLines}
use Rattle.line_facts.specs.FactSets.{IsWithin, SameShape}
use Rattle.line_facts.proofs.GridLaws.{shape_refl, shape_trans}
use Rattle.fixpoint.specs.ClosedFacts.{AreClosable}
use Rattle.fixpoint.specs.Fillings.{Fills}
use Rattle.fixpoint.proofs.ClosingLaws.{within_trans}
use Rattle.cert_text.specs.declared.cert_line.CellNumber.{CellNumber}
use Rattle.cert_text.specs.declared.cert_line.LineNumber.{LineNumber}
use Rattle.cert_text.specs.declared.cert_line.CertLine.{CertLine}
use Rattle.cert_text.specs.declared.cert_line.CertLine.TheVariants.{Line, Use, Split, Dead, Broken, Done, Part, Lemma, Deny, Forget}
use Rattle.second_search.specs.Trees.{IsOtherIn, Stands, Walks}
use Rattle.second_search.proofs.FindLemmas.{held_within}
use Rattle.line_facts.specs.Branches.{colours_of, held}
use Rattle.cert_text.specs.declared.form.Form.TheVariants.{Tree}
use Rattle.cert_text.specs.Cert.{AreOfForm, IsOfTree}
use Rattle.cert_check.specs.TreeFault.{TreeFault, TreeLeads}
use Rattle.certificate.specs.MadeCert.{EachExcludes, ExcludesSome, WritesTree}
use Rattle.cert_check.specs.Puzzle.{HasCellNumber, HasLineNumber, line_id}
use Rattle.cert_check.specs.Walk.{CanCheck}
use Rattle.cert_check.proofs.BaseLemmas.{left_inside}
use Rattle.cert_check.proofs.TreeExactness.{same_gains}
use Rattle.cert_check.proofs.Soundness.{forced_within}
use Rattle.cert_check.proofs.WalkLemmas.{gains_force}

-- ---- what waits excludes all that the facts at the root exclude

abbrev EachWithin : Masks → List (List (List ℕ)) → Type 0
EachWithin start [] = Unit {0}
EachWithin start (facts ∷ others) = IsWithin start facts × EachWithin start others

both_within : (start : Masks) (xs ys : List (List (List ℕ))) → EachWithin start xs → EachWithin start ys → EachWithin start (xs ++ ys)
both_within start [] ys p q = q
both_within start (x ∷ xs) ys p q = (p.0, both_within start xs ys p.1 q)

each_held : (start facts : Masks) (row col : ℕ) (colours : List ℕ) → IsWithin start facts → All (λ k. eqb (bit_at (cell_at facts row col) k) 1 ≡ true) colours
    → EachWithin start (held facts row col colours)
each_held start facts row col [] w a = tt
each_held start facts row col (k ∷ ks) w a =
    let left = bit_is_set (cell_at facts row col) k (eqb-true (bit_at (cell_at facts row col) k) 1 (a 0 0 (omega arith))) in
    let inside = left_inside facts row col k left in
    (within_trans start facts _ w (held_within facts row col k inside.0 inside.1 left), each_held start facts row col ks w (λ i d m. a (suc i) d (omega arith)))

colours_are_left : (mask : ℕ) → All (λ k. eqb (bit_at mask k) 1 ≡ true) (colours_of mask)
unfolding colours_of
colours_are_left mask = filter_passes (λ k. eqb (bit_at mask k) 1) (range_with_len 0 16)

led_within : (picture : Rows) (start facts : Masks) (line : CertLine) (next : List (List (List ℕ))) → TreeLeads picture facts line next → IsWithin start facts → EachWithin start next
led_within picture start facts (Line number) next l w =
    let forced = l.1.1.0 in
    rw l.1.1.1 (within_trans start facts l.1.0 w (forced_within picture facts l.1.0 (line_id number) forced), tt)
led_within picture start facts (Split cell) next l w =
    let row = cell.row - 1 in
    let col = cell.col - 1 in
    rw l.1 (each_held start facts row col (colours_of (cell_at facts row col)) w (colours_are_left (cell_at facts row col)))
led_within picture start facts (Dead number) next l w = rw l.2 tt
led_within picture start facts Done next l w = rw l.1 tt
led_within picture start facts (Use n) next l w = absurd l
led_within picture start facts (Broken n) next l w = absurd l
led_within picture start facts (Part m) next l w = absurd l
led_within picture start facts Lemma next l w = absurd l
led_within picture start facts (Deny m) next l w = absurd l
led_within picture start facts (Forget n) next l w = absurd l

-- ---- the lines of a tree are those of a certificate

line_number : (picture : Rows) (facts : Masks) (number : LineNumber) → SameShape picture facts → HasLineNumber facts number → HasLineNumber picture number
line_number picture facts number s h = by number.axis h
  where
    by : (axis : Axis) → (0 < number.number) × (number.number ≤ lines_along axis facts) → (0 < number.number) × (number.number ≤ lines_along axis picture)
    by Across q = (q.0, (let e = s.rows in omega arith))
    by Down q = (q.0, (let e = s.each 0 in omega arith))

few_lines : (axis : Axis) (picture : Rows) → IsPicture picture → lines_along axis picture ≤ 120
few_lines Across picture is = is.rows_fit
few_lines Down picture is = is.columns_fit

cell_inside : (picture : Rows) (facts : Masks) (cell : CellNumber) → SameShape picture facts → HasCellNumber facts cell → HasCellNumber picture cell
cell_inside picture facts cell s h =
    let columns = s.each 0 in
    ((let a : 0 < cell.row = h.0 in a), (let a : cell.row ≤ length picture = omega arith in a), (let a : 0 < cell.col = h.2 in a), (let a : cell.col ≤ width_of picture = omega arith in a))

leads : (picture : Rows) (facts : Masks) (line : CertLine) (next : List (List (List ℕ))) → SameShape picture facts → Stands (clues_of picture) picture facts line next
    → TreeLeads picture facts line next
leads picture facts (Line number) next s h = (line_number picture facts number s h.0, (h.1.0, (gains_force picture facts h.1.0 (line_id number) h.1.1.0.outcome h.1.1.0.gains, h.1.1.1)))
leads picture facts (Split cell) next s h = (cell_inside picture facts cell s h.0, h.1.0)
leads picture facts (Dead number) next s h = (line_number picture facts number s h.0, h.1.0, h.1.1)
leads picture facts Done next s h = h
leads picture facts (Use n) next s h = absurd h
leads picture facts (Broken n) next s h = absurd h
leads picture facts (Part l) next s h = absurd h
leads picture facts Lemma next s h = absurd h
leads picture facts (Deny l) next s h = absurd h
leads picture facts (Forget n) next s h = absurd h

writable : (picture : Rows) (facts : Masks) (line : CertLine) (next : List (List (List ℕ))) → IsPicture picture → SameShape picture facts → Stands (clues_of picture) picture facts line next
    → IsOfTree line
writable picture facts (Line number) next is s h = let q = line_number picture facts number s h.0 in let few = few_lines number.axis picture is in
    (let l : number.number < 1000 = omega (arith, q.1, few) in l)
writable picture facts (Split cell) next is s h =
    let q = cell_inside picture facts cell s h.0 in
    let r = is.rows_fit in
    let c = is.columns_fit in
    ((let l : cell.row < 1000 = omega (arith, q.1, r) in l), (let l : cell.col < 1000 = omega (arith, q.3, c) in l))
writable picture facts (Dead number) next is s h = let q = line_number picture facts number s h.0 in let few = few_lines number.axis picture is in
    (let l : number.number < 1000 = omega (arith, q.1, few) in l)
writable picture facts Done next is s h = tt
writable picture facts (Use n) next is s h = absurd h
writable picture facts (Broken n) next is s h = absurd h
writable picture facts (Part l) next is s h = absurd h
writable picture facts Lemma next is s h = absurd h
writable picture facts (Deny l) next is s h = absurd h
writable picture facts (Forget n) next is s h = absurd h

excludes : (picture : Rows) (facts : Masks) (line : CertLine) (next : List (List (List ℕ))) → Stands (clues_of picture) picture facts line next → ExcludesSome picture facts line
excludes picture facts (Line number) next h = λ gained forced same.
    let mine = h.1.1.0 in
    mine.more (ap (λ (fs : List (List ℕ)). line_of fs (line_id number)) (sym same ∙ same_gains picture facts gained h.1.0 (line_id number) forced
    (gains_force picture facts h.1.0 (line_id number) mine.outcome mine.gains)))
excludes picture facts (Split cell) next h = h.1.1
excludes picture facts (Dead number) next h = tt
excludes picture facts Done next h = tt
excludes picture facts (Use n) next h = absurd h
excludes picture facts (Broken n) next h = absurd h
excludes picture facts (Part l) next h = absurd h
excludes picture facts Lemma next h = absurd h
excludes picture facts (Deny l) next h = absurd h
excludes picture facts (Forget n) next h = absurd h

record IsWhole (picture : Rows) (waits : List (List (List ℕ))) (lines : List CertLine) : Type 0 where
  writes : AreOfForm Tree lines
  goes : (n : ℕ) → TreeFault picture waits n lines None
  each : EachExcludes picture waits lines

no_cons : (facts : Masks) (others : List (List (List ℕ))) → facts ∷ others ≡ [] → ⊥
no_cons facts others e = let n : length (facts ∷ others) ≡ 0 = ap length e in absurd (omega arith)

whole : (picture : Rows) (start : Masks) → IsPicture picture → SameShape picture start → (lines : List CertLine) (waits : List (List (List ℕ)))
    → EachWithin start waits → Walks (clues_of picture) picture lines waits [] → IsWhole picture waits lines
whole picture start is s [] [] w h = record { writes = tt; goes = λ n. refl; each = tt }
whole picture start is s [] (facts ∷ others) w h = absurd (no_cons facts others h)
whole picture start is s (line ∷ lines) [] w h = absurd h
whole picture start is s (line ∷ lines) (facts ∷ others) w h =
    let next = h.0 in
    let shape = shape_trans s w.0.same_shape in
    let stands = h.1.0 in
    let lead = leads picture facts line next shape stands in
    let rest = whole picture start is s lines (next ++ others) (both_within start next others (led_within picture start facts line next lead w.0) w.1) h.1.1 in
    record {
      writes = (writable picture facts line next is shape stands, rest.writes);
      goes = λ n. inr (next, (lead, rest.goes (n + 1)));
      each = (excludes picture facts line next stands, (next, (lead, rest.each)));
    }

pub whole_tree : (picture : Rows) (start : Masks) (clues : Clues) (longest : ℕ) (lines : List CertLine) → CanCheck picture clues longest → SameShape picture start
    → Walks clues picture lines (start ∷ []) [] → WritesTree picture start (Some lines)
whole_tree picture start clues longest lines can s h =
    let w = whole picture start can.is_picture s lines (start ∷ []) (record { same_shape = shape_refl start; leaves = λ row col k l. l }, tt) (rw can.clues_are at h) in
    (w.writes, w.goes, w.each)

pub other_fills : (picture : Rows) (start : Masks) (other : Rows) (clues : Clues) (longest : ℕ) → CanCheck picture clues longest → IsOtherIn clues picture start other
    → Fills (clues_of picture) start other × (other ≡ picture → ⊥)
other_fills picture start other clues longest can h = (rw can.clues_are at h.0, h.1)

pub can_close : CluesAreOfLines → (picture : Rows) (start : Masks) (clues : Clues) (longest : ℕ) → CanCheck picture clues longest → SameShape picture start → AreClosable clues longest start
can_close law picture start clues longest can s =
    let rows : length clues.rows ≡ length picture = ap (λ (c : Clues). length c.rows) can.clues_are ∙ law.sizes picture Across in
    let columns : length clues.columns ≡ width_of picture = ap (λ (c : Clues). length c.columns) can.clues_are ∙ law.sizes picture Down in
    let each = s.each 0 in
    record { rows = omega arith; columns = omega arith; wide = omega arith; tall = omega arith }
