-- Trees written line by line: where lines lead, what fills the branches that wait, and what they weigh.
use Rattle.std.proofs.Common.{◌≡◌, ℕ, ◌+◌, ◌-◌, ◌*◌, ◌^◌, ◌<◌, ◌≤◌, ◌==◌, ◌↔◌, eq-eqb, Bool, true, false, Option, None, Some, List, [], ◌∷◌, ◌++◌, length, append_assoc, get_or, refl, sym, ap, subst}
use Rattle.std.proofs.Common.{◌∙◌, arith, inl, inr}
use Rattle.std.specs.Int.{bit_at}
use Rattle.std.proofs.lemmas.Bool.{cases_eq, cases_lt}
use Rattle.std.proofs.lemmas.List.{append-nil, get_or_past}
use Rattle.std.proofs.Math.Pow.{pow_mono, pow_pos}
use Rattle.picture.specs.declared.line_id.Axis.{Axis}
use Rattle.picture.specs.declared.line_id.Axis.TheVariants.{Across, Down}
use Rattle.picture.specs.declared.line_id.LineId.{LineId}
use Rattle.picture.proofs.BitLaws.{same_bits, no_bit, set_bit}
use Rattle.picture.specs.CrossingLines.{crossing}
use Rattle.picture.specs.LineSet.{Lines as Names, HasName, no_names}
use Rattle.picture.specs.Picture.{IsPicture}
use Rattle.picture.specs.Rows.{width_of, row_at, cell_at, line_of, lines_along, HasLine, Rows}
use Rattle.clues.specs.declared.block.Block.{Block}
use Rattle.clues.specs.ClueBook.{Clues, clue_at, clues_of}
use Rattle.clues.specs.Laws.{BooksAreTheirClues, CluesAreOfLines}
use Rattle.line_facts.specs.declared.line_engine.Outcome.{Outcome}
use Rattle.line_facts.specs.declared.line_engine.Outcome.TheVariants.{Narrowed, Dead as NoneFits}
use Rattle.line_facts.specs.CrossedLines.{CrossesChange}
use Rattle.line_facts.specs.Fits.{CanFit}
use Rattle.line_facts.specs.Masks.{IsOnly, Masks}
use Rattle.line_facts.specs.FactSets.{Gains, IsClosedLine, IsFacts, IsWithin, Leaves, SameShape, row_on}
use Rattle.line_facts.proofs.FitLaws.{tighter_can_fit, within_tighter}
use Rattle.line_facts.proofs.ForceLaws.{gains_grows, gains_inside, on_or_not}
use Rattle.line_facts.proofs.GridLaws.{cell_on, same_has_line, shape_refl, shape_sym, shape_trans, shape_with_cell}
use Rattle.fixpoint.specs.ClosedFacts.{AreClosable, EachFits}
use Rattle.fixpoint.specs.Fillings.{Fills, only}
use Rattle.fixpoint.proofs.FillingLaws.{fills_fewer}
use Rattle.fixpoint.specs.Laws.{ClosingKeepsFillings, OnlyIsClosed}
use Rattle.trail.specs.declared.cell.Cell.{Cell}
use Rattle.split_choice.specs.Choices.{IsUnsettled}
use Rattle.cert_text.specs.declared.cert_line.CellNumber.{CellNumber}
use Rattle.cert_text.specs.declared.cert_line.LineNumber.{LineNumber}
use Rattle.cert_text.specs.declared.cert_line.CertLine.{CertLine}
use Rattle.cert_text.specs.declared.cert_line.CertLine.TheVariants.{Line, Use, Split, Dead, Broken, Done, Part, Lemma, Deny, Forget}
use Rattle.second_search.specs.declared.tree_lines.Lines.{Lines}
use Rattle.second_search.specs.declared.tree_lines.Lines.TheVariants.{Kept, Dropped}
use Rattle.second_search.specs.declared.tree.Growing.{Growing}
use Rattle.second_search.specs.declared.tree_step.TreeStep.{TreeStep}
use Rattle.second_search.specs.declared.tree_step.TreeStep.TheVariants.{Ends, Splits, Other}
use Rattle.second_search.specs.declared.ladder.Decided.TheVariants.{Tree}
use Rattle.second_search.specs.SettledFacts.{FillsSome}
use Rattle.trail.specs.Trail.{Trailed, places, trail_of}
use Rattle.line_facts.specs.Branches.{branches, colours_of, held}
use Rattle.second_search.specs.SettledFacts.{FindsFilling, Shows}
use Rattle.cert_check.specs.Puzzle.{HasCellNumber, HasLineNumber, ShowsOnly, line_id, split_at}
use Rattle.second_search.specs.Trees.{Adds, Advances, AreNone, AreTree, Continues, Decides, EachFitsAlong, ForcesMore, IsComparedTo, IsDeadLine, IsOtherIn, IsUnsettledAt, Says, Settles, Stands, Turns}
use Rattle.second_search.specs.Trees.{TurnsOn, Walks}
use Rattle.trail.proofs.ColourLemmas.{Among, among_kept}
use Rattle.second_search.proofs.FindLemmas.{AreAlike, alike_both, each_colour, held_alike, held_some, some_behind, some_both, some_front, some_held, left_there}
use Rattle.second_search.proofs.EndLemmas.{shown_clues}
use Rattle.fixpoint.proofs.ClosingLaws.{within_refl, within_trans}
use Rattle.second_search.proofs.LookLemmas.{shown_fills}
use Rattle.second_search.proofs.WeightLemmas.{branches_lighter, load, load_append, load_more, weight, weight_within}
use Rattle.trail.proofs.GridLemmas.{same_grid}

-- ---- lines after lines

pub walks_on : (clues : Clues) (known : Rows) (xs ys : List CertLine) (a b c : List (List (List ℕ))) → Walks clues known xs a b → Walks clues known ys b c → Walks clues known (xs ++ ys) a c
walks_on clues known [] ys a b c w v = let P : List (List (List ℕ)) → Type 0 = λ x. Walks clues known ys x c in subst P (sym w) v
walks_on clues known (x ∷ xs) ys [] b c w v = absurd w
walks_on clues known (x ∷ xs) ys (f ∷ fs) b c w v = (w.0, (w.1.0, walks_on clues known xs ys (w.0 ++ fs) b c w.1.1 v))

pub adds_on : (a b c : Lines) (xs ys : List CertLine) → Adds a b xs → Adds b c ys → Adds a c (xs ++ ys)
adds_on (Kept a) (Kept b) (Kept c) xs ys p q = q ∙ (ap (λ (z : List CertLine). z ++ ys) p ∙ append_assoc a.items xs ys)
adds_on (Kept a) (Kept b) Dropped xs ys p q = absurd q
adds_on (Kept a) Dropped c xs ys p q = absurd p
adds_on Dropped (Kept b) c xs ys p q = absurd p
adds_on Dropped Dropped (Kept c) xs ys p q = absurd q
adds_on Dropped Dropped Dropped xs ys p q = tt

pub adds_none : (a : Lines) → Adds a a []
adds_none (Kept a) = sym (append-nil a.items)
adds_none Dropped = tt

says_on : (clues : Clues) (known : Rows) (a b : List (List ℕ)) (front : List (List (List ℕ))) (l m n : Lines) → Says clues known a (b ∷ []) l m → Says clues known b front m n
    → Says clues known a front l n
says_on clues known a b front l m n p q = record {
  lines = p.lines ++ q.lines;
  adds = adds_on l m n p.lines q.lines p.adds q.adds;
  walks = λ others. walks_on clues known p.lines q.lines (a ∷ others) (b ∷ others) (front ++ others) (p.walks others) (q.walks others);
}

pub settles_none : (clues : Clues) (facts : Masks) (l : Lines) → Settles clues facts facts l l Narrowed
settles_none clues facts l = (within_refl facts, λ known. record { lines = []; adds = adds_none l; walks = λ others. refl })

pub settles_on : (clues : Clues) (a b c : List (List ℕ)) (l m n : Lines) (outcome : Outcome) → Settles clues a b l m Narrowed → Settles clues b c m n outcome → Settles clues a c l n outcome
settles_on clues a b c l m n Narrowed p q = (within_trans a b c p.0 q.0, λ known. says_on clues known a b (c ∷ []) l m n (p.1 known) (q.1 known))
settles_on clues a b c l m n NoneFits p q = λ known. says_on clues known a b [] l m n (p.1 known) (q known)

-- ---- a line evaluated

number_is : (line : LineId) (number : LineNumber) → number.axis ≡ line.axis → number.number ≡ line.at + 1 → line_id number ≡ line
number_is line number a n =
    let at : number.number - 1 ≡ line.at = omega (arith, n) in
    ap (λ (x : Axis). record { axis = x; at = number.number - 1 }) a ∙ ap (λ (i : ℕ). record { axis = line.axis; at = i }) at

has_number : (facts : Masks) (line : LineId) (number : LineNumber) → HasLine facts line → number.axis ≡ line.axis → number.number ≡ line.at + 1 → HasLineNumber facts number
has_number facts line number h a n =
    subst (λ (x : Axis). (0 < number.number) × (number.number ≤ lines_along x facts)) (sym a)
    ((let p : 0 < number.number = omega arith in p), (let q : number.number ≤ lines_along line.axis facts = omega arith in q))

-- where no line crosses a change, nothing has changed
same_line : (before after : List ℕ) (line : LineId) → length before ≡ length after → ((other : LineId) → CrossesChange line before after other → ⊥) → (i : ℕ) → i < length before
    → get_or before i 0 ≡ get_or after i 0
same_line before after line len none i l = elim (cases_eq (get_or before i 0) (get_or after i 0)) [
  | inl e ↦ e
  | inr d ↦ absurd (none (record { axis = crossing line.axis; at = i }) (record { is_crossing = refl; within = l; differs = d }))
]

no_names_has : (line : LineId) → HasName no_names line → ⊥
no_names_has line = by line.axis line.at
  where
    by : (axis : Axis) (at : ℕ) → HasName no_names (record { axis = axis; at = at }) → ⊥
    by Across at s = no_bit at s
    by Down at s = no_bit at s

all_names_none : (names : Names) → ((line : LineId) → HasName names line → ⊥) → names ≡ no_names
all_names_none names none =
    let rows : names.rows ≡ 0 = same_bits names.rows 0 (λ k. ((λ s. absurd (none (record { axis = Across; at = k }) s)), (λ s. absurd (no_bit k s)))) in
    let columns : names.columns ≡ 0 = same_bits names.columns 0 (λ k. ((λ s. absurd (none (record { axis = Down; at = k }) s)), (λ s. absurd (no_bit k s)))) in
    ap (λ (r : ℕ). let it : Names = record { rows = r; columns = names.columns } in it) rows ∙ ap (λ (c : ℕ). let it : Names = record { rows = 0; columns = c } in it) columns

-- a line that changed nothing is not written
pub quiet_settles : (clues : Clues) (clue : List Block) (line : LineId) (facts : Masks) (new : List (List ℕ)) (names : Names) (l : Lines) → Gains clue line facts new Narrowed
    → ((other : LineId) → HasName names other ↔ CrossesChange line (line_of facts line) (line_of new line) other) → names ≡ no_names → Settles clues facts new l l Narrowed
quiet_settles clues clue line facts new names l g changed none =
    let crosses : (other : LineId) → CrossesChange line (line_of facts line) (line_of new line) other → ⊥ =
    λ other c. no_names_has other (let Q : Names → Type 0 = λ n. HasName n other in subst Q none ((changed other).1 c)) in
    let on : (i : ℕ) → i < length (line_of facts line)
    → get_or (line_of facts line) i 0 ≡ get_or (line_of new line) i 0 = same_line (line_of facts line) (line_of new line) line (sym g.narrows.same_length) crosses in
    let all : facts ≡ new = same_grid facts new g.same_shape (λ row col. elim (on_or_not line row col) [
      | inl o ↦
          let at : (rows : Rows) → cell_at rows row col ≡ get_or (line_of rows line) o.0 0 =
          λ rows. ap (λ r. cell_at rows r col) o.1 ∙ (ap (λ c. cell_at rows (row_on line.axis line.at o.0) c) o.2 ∙ sym (cell_on rows line o.0)) in
          at facts ∙ (places o.0 on ∙ sym (at new))
      | inr off ↦ sym (g.elsewhere row col off)
    ]) in
    subst (λ (f : List (List ℕ)). Settles clues facts f l l Narrowed) all (settles_none clues facts l)
  where
    places : (i : ℕ) → ((j : ℕ) → j < length (line_of facts line) → get_or (line_of facts line) j 0 ≡ get_or (line_of new line) j 0) → get_or (line_of facts line) i 0 ≡ get_or (line_of new line) i 0
    places i h = elim (cases_lt i (length (line_of facts line))) [
      | inl m ↦ h i m
      | inr p ↦ get_or_past (line_of facts line) i 0 p ∙ sym (get_or_past (line_of new line) i 0 (let e = g.narrows.same_length in omega arith))
    ]

-- a line that forces something is written
pub forced_settles : (clues : Clues) (clue : List Block) (line : LineId) (number : LineNumber) (facts : Masks) (new : List (List ℕ)) (names : Names) (l m : Lines) → HasLine facts line
    → clue ≡ clue_at clues line → Gains clue line facts new Narrowed → ((other : LineId) → HasName names other ↔ CrossesChange line (line_of facts line) (line_of new line) other)
    → (names ≡ no_names → ⊥) → number.axis ≡ line.axis → number.number ≡ line.at + 1 → Adds l m (Line number ∷ []) → Settles clues facts new l m Narrowed
forced_settles clues clue line number facts new names l m has e g changed some a n adds = (
  gains_grows clue line facts new Narrowed g,
  λ known. record {
    lines = Line number ∷ [];
    adds = adds;
    walks = λ others. (new ∷ [], ((has_number facts line number has a n, (new, (more, refl))), refl));
  },
)
  where
    differ : line_of facts line ≡ line_of new line → ⊥
    differ same = some (all_names_none names (λ other h.
        let c = (changed other).0 h in
        c.differs (ap (λ (x : List ℕ). get_or x other.at 0) same)))

    more : ForcesMore clues facts (line_id number) new
    more =
        subst (λ (x : LineId). ForcesMore clues facts x new) (sym (number_is line number a n))
        (record { outcome = Narrowed; gains = subst (λ (bs : List Block). Gains bs line facts new Narrowed) e g; more = differ })

-- a dead line is written
pub dead_settles : (clues : Clues) (clue : List Block) (line : LineId) (number : LineNumber) (facts : Masks) (new : List (List ℕ)) (l m : Lines) → HasLine facts line → clue ≡ clue_at clues line
    → Gains clue line facts new NoneFits → number.axis ≡ line.axis → number.number ≡ line.at + 1 → Adds l m (Dead number ∷ []) → Settles clues facts new l m NoneFits
dead_settles clues clue line number facts new l m has e g a n adds = λ known. record {
  lines = Dead number ∷ [];
  adds = adds;
  walks = λ others. ([], ((has_number facts line number has a n, (dead, refl)), refl));
}
  where
    unfit : CanFit (clue_at clues line) (line_of facts line) → ⊥
    unfit fit =
        let other : NoneFits ≡ Narrowed = g.narrows.fits.1 (subst (λ (bs : List Block). CanFit bs (line_of facts line)) (sym e) fit) in
        cc

    dead : CanFit (clue_at clues (line_id number)) (line_of facts (line_id number)) → ⊥
    dead =
        subst (λ (x : LineId). CanFit (clue_at clues x) (line_of facts x) → ⊥) (sym (number_is line number a n)) unfit

-- ---- what fills the branches that wait

inside_row : (facts : Masks) (picture : Rows) (cell : CellNumber) → IsPicture picture → SameShape picture facts → HasCellNumber facts cell
    → (cell.row - 1 < length facts) × (cell.col - 1 < length (row_at facts (cell.row - 1)))
inside_row facts picture cell is s h =
    let here : cell.row - 1 < length picture = omega arith in
    let rect = is.rectangular (cell.row - 1) here in
    let each = s.each (cell.row - 1) in
    ((let p : cell.row - 1 < length facts = omega arith in p), (let p : cell.col - 1 < length (row_at facts (cell.row - 1)) = omega arith in p))

forced_fills : OnlyIsClosed → (clues : Clues) (facts gained : Masks) (picture : Rows) (line : LineId) → HasLine facts line → ForcesMore clues facts line gained → Fills clues facts picture
    → Fills clues gained picture
forced_fills own clues facts gained picture line has f fills =
    let within : IsWithin facts (only picture) = (own.within picture facts fills.same_shape).0 fills.leaves in
    let there : HasLine (only picture) line = same_has_line facts (only picture) line within.same_shape has in
    let P : Clues → Type 0 = λ c. IsClosedLine (clue_at c line) (line_of (only picture) line) in
    let closed : P clues = subst P fills.has_clues (own.closed picture fills.is_picture line there) in
    let inside = gains_inside (clue_at clues line) line facts gained f.outcome f.gains (only picture) within closed in
    let shape = shape_trans fills.same_shape f.gains.same_shape in
    record {
      is_picture = fills.is_picture;
      same_shape = shape;
      has_clues = fills.has_clues;
      leaves = (own.within picture gained shape).1 inside;
    }

dead_has_none : ClosingKeepsFillings → (clues : Clues) (facts : Masks) (picture : Rows) (line : LineId) → HasLine facts line → (CanFit (clue_at clues line) (line_of facts line) → ⊥)
    → Fills clues facts picture → ⊥
dead_has_none closing clues facts picture line has dead fills = closing.none_where_dead clues facts picture (record {
  line = line;
  has = has;
  dead = λ others closed within fit. dead (tighter_can_fit (clue_at clues line) (line_of facts line) (line_of others line) (within_tighter facts others within line) fit);
}) fills

line_there : (facts : Masks) (number : LineNumber) → HasLineNumber facts number → HasLine facts (line_id number)
line_there facts number h = (let l : number.number - 1 < lines_along number.axis facts = omega arith in l)

among_left : (clues : Clues) (facts : Masks) (picture : Rows) (row col : ℕ) → Fills clues facts picture → Leaves facts row col (cell_at picture row col)
    → Among (colours_of (cell_at facts row col)) (cell_at picture row col)
unfolding colours_of
among_left clues facts picture row col f s =
    among_kept (λ k. bit_at (cell_at facts row col) k == 1) 0 16 (cell_at picture row col) (omega arith) (let small : cell_at picture row col < 16 = f.is_picture.colours row col in omega arith)
    (eq-eqb (bit_at (cell_at facts row col) (cell_at picture row col)) 1 (set_bit (cell_at facts row col) (cell_at picture row col) s))

split_some : (clues : Clues) (facts : Masks) (picture : Rows) (row col : ℕ) → row < length facts → col < length (row_at facts row) → Fills clues facts picture
    → FillsSome clues (branches facts row col (cell_at facts row col)) picture
split_some clues facts picture row col h l fills =
    some_held clues facts picture row col h l fills (colours_of (cell_at facts row col)) (among_left clues facts picture row col fills (fills.leaves row col (omega arith)))

held_shape : (clues : Clues) (facts : Masks) (picture : Rows) (row col : ℕ) (ks : List ℕ) → FillsSome clues (held facts row col ks) picture → IsPicture picture × SameShape picture facts
held_shape clues facts picture row col [] f = absurd f
held_shape clues facts picture row col (k ∷ ks) f = elim f [
  | inl here ↦ (here.is_picture, shape_trans here.same_shape (shape_sym (shape_with_cell facts row col (2 ^ k))))
  | inr there ↦ held_shape clues facts picture row col ks there
]

split_back : (clues : Clues) (facts : Masks) (picture : Rows) (cell : CellNumber) → HasCellNumber facts cell → FillsSome clues (split_at facts cell) picture → Fills clues facts picture
split_back clues facts picture cell h f =
    let row = cell.row - 1 in
    let col = cell.col - 1 in
    let colours = colours_of (cell_at facts row col) in
    let shape = held_shape clues facts picture row col colours f in
    let i = inside_row facts picture cell shape.0 shape.1 h in
    held_some clues facts picture row col i.0 i.1 colours (each_colour (cell_at facts row col)) f

-- a picture that fills facts which leave only the known one's colours is the known one
only_known : (clues : Clues) (known : Rows) (facts : Masks) (picture : Rows) → SameShape known facts → ShowsOnly known facts → Fills clues facts picture → picture ≡ known
only_known clues known facts picture s only f = same_grid picture known (shape_trans f.same_shape (shape_sym s)) (λ row col. elim (cases_lt col (length (row_at picture row))) [
  | inl l ↦ only row col (cell_at picture row col) (f.leaves row col l)
  | inr p ↦
      get_or_past (row_at picture row) col 0 p ∙ sym (get_or_past (row_at known row) col 0 (omega arith))
])

module _ (clues : Clues) (known : Rows) where
  step_alike : (first facts : Masks) (line : CertLine) (next : List (List (List ℕ))) → SameShape first facts → Stands clues known facts line next → AreAlike first next
  step_alike first facts (Line number) next e s =
      rw s.1.1.1 (shape_trans e s.1.1.0.gains.same_shape, tt)
  step_alike first facts (Split cell) next e s =
      rw s.1.0 (held_alike first facts (cell.row - 1) (cell.col - 1) e (colours_of (cell_at facts (cell.row - 1) (cell.col - 1))))
  step_alike first facts (Dead number) next e s = let P : List (List (List ℕ)) → Type 0 = AreAlike first in subst P (sym s.1.1) tt
  step_alike first facts Done next e s = let P : List (List (List ℕ)) → Type 0 = AreAlike first in subst P (sym s.1) tt
  step_alike first facts (Use n) next e s = absurd s
  step_alike first facts (Broken n) next e s = absurd s
  step_alike first facts (Part l) next e s = absurd s
  step_alike first facts Lemma next e s = absurd s
  step_alike first facts (Deny l) next e s = absurd s
  step_alike first facts (Forget n) next e s = absurd s

  pub walk_alike : (first : Masks) (lines : List CertLine) (waits rest : List (List (List ℕ))) → Walks clues known lines waits rest → AreAlike first waits → AreAlike first rest
  walk_alike first [] waits rest w a = let P : List (List (List ℕ)) → Type 0 = AreAlike first in subst P w a
  walk_alike first (line ∷ lines) [] rest w a = absurd w
  walk_alike first (line ∷ lines) (facts ∷ others) rest w a =
      walk_alike first lines (w.0 ++ others) rest w.1.1 (alike_both first facts w.0 others a.0 (step_alike facts facts line w.0 (shape_refl facts) w.1.0) a.1)

module _ (own : OnlyIsClosed) (closing : ClosingKeepsFillings) (clues : Clues) (known : Rows) where
  -- what fills a branch and is not the known picture fills one of the branches that a line leads to
  step_fills : (facts : Masks) (picture : Rows) (line : CertLine) (next : List (List (List ℕ))) → SameShape known facts → Stands clues known facts line next → (picture ≡ known → ⊥)
      → Fills clues facts picture → FillsSome clues next picture
  step_fills facts picture (Line number) next e s d f =
      subst (λ (x : List (List (List ℕ))). FillsSome clues x picture) (sym s.1.1.1) (inl (forced_fills own clues facts s.1.0 picture (line_id number) (line_there facts number s.0) s.1.1.0 f))
  step_fills facts picture (Split cell) next e s d f =
      let i = inside_row facts picture cell f.is_picture f.same_shape s.0 in
      subst (λ (x : List (List (List ℕ))). FillsSome clues x picture) (sym s.1.0) (split_some clues facts picture (cell.row - 1) (cell.col - 1) i.0 i.1 f)
  step_fills facts picture (Dead number) next e s d f = absurd (dead_has_none closing clues facts picture (line_id number) (line_there facts number s.0) s.1.0 f)
  step_fills facts picture Done next e s d f = absurd (d (only_known clues known facts picture e s.0 f))
  step_fills facts picture (Use n) next e s d f = absurd s
  step_fills facts picture (Broken n) next e s d f = absurd s
  step_fills facts picture (Part l) next e s d f = absurd s
  step_fills facts picture Lemma next e s d f = absurd s
  step_fills facts picture (Deny l) next e s d f = absurd s
  step_fills facts picture (Forget n) next e s d f = absurd s

  -- what fills a branch that a line leads to fills the branch
  step_back : (facts : Masks) (picture : Rows) (line : CertLine) (next : List (List (List ℕ))) → Stands clues known facts line next → FillsSome clues next picture → Fills clues facts picture
  step_back facts picture (Line number) next s f =
      elim (subst (λ (x : List (List (List ℕ))). FillsSome clues x picture) s.1.1.1 f) [
        | inl here ↦ fills_fewer clues facts s.1.0 picture (gains_grows (clue_at clues (line_id number)) (line_id number) facts s.1.0 s.1.1.0.outcome s.1.1.0.gains) here
        | inr none ↦ absurd none
      ]
  step_back facts picture (Split cell) next s f =
      split_back clues facts picture cell s.0 (subst (λ (x : List (List (List ℕ))). FillsSome clues x picture) s.1.0 f)
  step_back facts picture (Dead number) next s f =
      absurd (subst (λ (x : List (List (List ℕ))). FillsSome clues x picture) s.1.1 f)
  step_back facts picture Done next s f =
      absurd (subst (λ (x : List (List (List ℕ))). FillsSome clues x picture) s.1 f)
  step_back facts picture (Use n) next s f = absurd s
  step_back facts picture (Broken n) next s f = absurd s
  step_back facts picture (Part l) next s f = absurd s
  step_back facts picture Lemma next s f = absurd s
  step_back facts picture (Deny l) next s f = absurd s
  step_back facts picture (Forget n) next s f = absurd s

  pub walk_fills : (first : Masks) (picture : Rows) (lines : List CertLine) (waits rest : List (List (List ℕ))) → SameShape known first → AreAlike first waits → Walks clues known lines waits rest
      → (picture ≡ known → ⊥) → FillsSome clues waits picture → FillsSome clues rest picture
  walk_fills first picture [] waits rest e a w d f = let P : List (List (List ℕ)) → Type 0 = λ x. FillsSome clues x picture in subst P w f
  walk_fills first picture (line ∷ lines) [] rest e a w d f = absurd w
  walk_fills first picture (line ∷ lines) (facts ∷ others) rest e a w d f =
      walk_fills first picture lines (w.0 ++ others) rest e (alike_both first facts w.0 others a.0 (step_alike clues known facts facts line w.0 (shape_refl facts) w.1.0) a.1) w.1.1 d (elim f [
        | inl here ↦ some_front clues w.0 others picture (step_fills facts picture line w.0 (shape_trans e a.0) w.1.0 d here)
        | inr there ↦ some_behind clues w.0 others picture there
      ])

  pub walk_back : (picture : Rows) (lines : List CertLine) (waits rest : List (List (List ℕ))) → Walks clues known lines waits rest → FillsSome clues rest picture → FillsSome clues waits picture
  walk_back picture [] waits rest w f = let P : List (List (List ℕ)) → Type 0 = λ x. FillsSome clues x picture in subst P (sym w) f
  walk_back picture (line ∷ lines) [] rest w f = absurd w
  walk_back picture (line ∷ lines) (facts ∷ others) rest w f =
      elim (some_both clues w.0 others picture (walk_back picture lines (w.0 ++ others) rest w.1.1 f)) [
        | inl here ↦ inl (step_back facts picture line w.0 w.1.0 here)
        | inr there ↦ inr there
      ]

  -- where lines lead from facts to the end of a tree, nothing fills the facts but the known picture
  pub tree_is_whole : (facts : Masks) (picture : Rows) (lines : List CertLine) → SameShape known facts → Walks clues known lines (facts ∷ []) [] → (picture ≡ known → ⊥) → Fills clues facts picture → ⊥
  tree_is_whole facts picture lines e w d f = walk_fills facts picture lines (facts ∷ []) [] e (shape_refl facts, tt) w d (inl f)

-- ---- the load of what waits falls

pub ended_lighter : (facts : Masks) (others : List Masks) → load others < load (facts ∷ others)
ended_lighter facts others = let more = load_more facts others in let some = pow_pos (5 * weight facts) in omega arith

pub split_lighter : (facts : Masks) (others : List Masks) (cell : Cell) → IsFacts facts → IsUnsettled facts cell
    → load (branches facts cell.row cell.col (cell_at facts cell.row cell.col) ++ others) < load (facts ∷ others)
split_lighter facts others cell is at =
    let light = branches_lighter facts cell.row cell.col at.in_rows (omega arith) at.unsettled in
    let both = load_append (branches facts cell.row cell.col (cell_at facts cell.row cell.col)) others in
    let more = load_more facts others in
    omega arith

pub within_lighter : (facts settled : Masks) (others : List Masks) → IsWithin facts settled → load (settled ∷ others) ≤ load (facts ∷ others)
within_lighter facts settled others w =
    let less = weight_within facts settled w in
    let most = pow_mono {i = 5 * weight settled} {j = 5 * weight facts} (omega arith) in
    let one = load_more settled others in
    let other = load_more facts others in
    omega arith

-- ---- what comes next on a branch

shown_only : (known : Rows) (facts : Masks) (picture : Rows) → IsFacts facts → Shows facts picture → picture ≡ known → ShowsOnly known facts
shown_only known facts picture is s e row col k l =
    let at = left_there facts row col k l in
    ((s.only row col at.0 (omega arith)) k).0 l ∙ ap (λ (p : List (List ℕ)). cell_at p row col) e

pub compare_continues : (clues : Clues) (known : Rows) (facts : Masks) (picture : Rows) (step : TreeStep) → IsFacts facts → Shows facts picture → clues_of picture ≡ clues
    → IsComparedTo known picture step → Continues clues known facts step
compare_continues clues known facts picture (Ends line) is s has h =
    subst (λ (l : CertLine). Stands clues known facts l []) (sym h.0) (shown_only known facts picture is s h.1, refl)
compare_continues clues known facts picture (Splits cell) is s has h = absurd h
compare_continues clues known facts picture (Other other) is s has h =
    subst (λ (p : List (List ℕ)). IsOtherIn clues known facts p) (sym h.0) (shown_fills clues facts picture is s has, h.1)

pub dead_continues : (clues : Clues) (known : Rows) (facts : Masks) (line : LineId) (number : LineNumber) → IsDeadLine clues facts line → number.axis ≡ line.axis → number.number ≡ line.at + 1
    → Continues clues known facts (Ends (Dead number))
dead_continues clues known facts line number d a n =
    (has_number facts line number d.has a n, (subst (λ (x : LineId). CanFit (clue_at clues x) (line_of facts x) → ⊥) (sym (number_is line number a n)) d.dead, refl))

pub none_dead : CluesAreOfLines → BooksAreTheirClues → (clues : Clues) (longest : ℕ) (facts : Masks) (picture : Rows) → IsFacts facts → AreClosable clues longest facts → EachFits clues facts
    → Shows facts picture → clues_of picture ≡ clues
none_dead law books clues longest facts picture is can fits s = shown_clues law books clues facts picture is fits s (record { rows = can.rows; columns = can.columns })

-- ---- a turn

pub ends_turn : (clues : Clues) (known : Rows) (old new : Growing) (line : CertLine) → Stands clues known old.trail.at_hand line [] → new.trail ≡ old.trail → Adds old.lines new.lines (line ∷ [])
    → TurnsOn clues known old new
ends_turn clues known old new line s e adds =
    let same : new.trail.behind ≡ old.trail.behind = ap (λ (x : Trailed). x.behind) e in
    let light = ended_lighter old.trail.at_hand old.trail.behind in
    record {
      lines = line ∷ [];
      adds = adds;
      walks = ([], (s, sym same));
      lighter = rw same light;
    }

pub splits_turn : (clues : Clues) (known : Rows) (old new : Growing) (cell : Cell) (number : CellNumber) → IsFacts old.trail.at_hand → IsUnsettled old.trail.at_hand cell → number.row ≡ cell.row + 1
    → number.col ≡ cell.col + 1 → new.trail ≡ trail_of old.trail.at_hand (branches old.trail.at_hand cell.row cell.col (cell_at old.trail.at_hand cell.row cell.col) ++ old.trail.behind)
    (places cell.row cell.col (cell_at old.trail.at_hand cell.row cell.col) ++ old.trail.cells) → Adds old.lines new.lines (Split number ∷ []) → TurnsOn clues known old new
splits_turn clues known old new cell number is at er ec e adds =
    let facts = old.trail.at_hand in
    let front = branches facts cell.row cell.col (cell_at facts cell.row cell.col) in
    let same : new.trail.behind ≡ front ++ old.trail.behind = ap (λ (x : Trailed). x.behind) e in
    let r : cell.row ≡ number.row - 1 = omega (arith, er) in
    let c : cell.col ≡ number.col - 1 = omega (arith, ec) in
    let split : front ≡ split_at facts number = ap (λ (x : ℕ). branches facts x cell.col (cell_at facts x cell.col)) r
    ∙ ap (λ (y : ℕ). branches facts (number.row - 1) y (cell_at facts (number.row - 1) y)) c in
    let open_there : IsUnsettledAt facts number =
    subst (λ (y : ℕ). (k : ℕ) → IsOnly (cell_at facts (number.row - 1) y) k → ⊥) c (subst (λ (x : ℕ). (k : ℕ) → IsOnly (cell_at facts x cell.col) k → ⊥) r at.unsettled) in
    record {
      lines = Split number ∷ [];
      adds = adds;
      walks = (
        front,
        (
          (
            (
              (let a : 0 < number.row = omega arith in a),
              (let a : number.row ≤ length facts = omega arith in a),
              (let a : 0 < number.col = omega arith in a),
              (let a : number.col ≤ width_of facts = omega arith in a),
            ),
            (split, open_there),
          ),
          sym same,
        ),
      );
      lighter = rw same (split_lighter facts old.trail.behind cell is at);
    }

-- a dead line was met while a branch was closed
pub dead_turn : (clues : Clues) (known : Rows) (first settled : Masks) (old new : Growing) → first ≡ old.trail.at_hand → new.trail ≡ old.trail
    → Settles clues first settled old.lines new.lines NoneFits → TurnsOn clues known old new
dead_turn clues known first settled old new f e h =
    let says = h known in
    let same : new.trail.behind ≡ old.trail.behind = ap (λ (x : Trailed). x.behind) e in
    record {
      lines = says.lines;
      adds = says.adds;
      walks = rw same (rw f at (says.walks old.trail.behind));
      lighter = rw same (ended_lighter old.trail.at_hand old.trail.behind);
    }

turns_on : (clues : Clues) (known : Rows) (first settled : Masks) (old mid new : Growing) → first ≡ old.trail.at_hand → Settles clues first settled old.lines mid.lines Narrowed
    → mid.trail ≡ trail_of settled old.trail.behind old.trail.cells → TurnsOn clues known mid new → TurnsOn clues known old new
turns_on clues known first settled old mid new f h e t =
    let says = h.1 known in
    let behind : mid.trail.behind ≡ old.trail.behind = ap (λ (x : Trailed). x.behind) e in
    let hand : mid.trail.at_hand ≡ settled = ap (λ (x : Trailed). x.at_hand) e in
    let waits : mid.trail.at_hand ∷ mid.trail.behind ≡ settled ∷ old.trail.behind = ap (λ (x : Trailed). x.at_hand ∷ x.behind) e in
    let light = within_lighter old.trail.at_hand settled old.trail.behind (subst (λ (x : List (List ℕ)). IsWithin x settled) f h.0) in
    let lighter = subst (λ (x : List (List (List ℕ))). load new.trail.behind < load x) waits t.lighter in
    record {
      lines = says.lines ++ t.lines;
      adds = adds_on old.lines mid.lines new.lines says.lines t.lines says.adds t.adds;
      walks =
          walks_on clues known says.lines t.lines (old.trail.at_hand ∷ old.trail.behind) (settled ∷ old.trail.behind) new.trail.behind (rw f at (says.walks old.trail.behind)) (rw waits at t.walks);
      lighter = (let l : load new.trail.behind < load (old.trail.at_hand ∷ old.trail.behind) = omega arith in l);
    }

pub turn_on : (clues : Clues) (known : Rows) (first settled : Masks) (old mid new : Growing) → first ≡ old.trail.at_hand → Settles clues first settled old.lines mid.lines Narrowed
    → mid.trail ≡ trail_of settled old.trail.behind old.trail.cells → (found : Option Rows) → Turns clues known mid new found → Turns clues known old new found
turn_on clues known first settled old mid new f h e None t = turns_on clues known first settled old mid new f h e t
turn_on clues known first settled old mid new f h e (Some picture) t =
    let hand : mid.trail.at_hand ≡ settled = ap (λ (x : Trailed). x.at_hand) e in
    (fills_fewer clues old.trail.at_hand settled picture (subst (λ (x : List (List ℕ)). IsWithin x settled) f h.0) (subst (λ (x : List (List ℕ)). Fills clues x picture) hand t.0), t.1)

-- ---- a tree

-- the lines so far lead from the first facts to what waits
abbrev pub Said : Clues → Rows → Masks → Lines → Growing → Type 0
Said clues known facts start g = (lines : List CertLine) × (Adds start g.lines lines × Walks clues known lines (facts ∷ []) (g.trail.at_hand ∷ g.trail.behind))

-- more lines lead from the first facts to the end of a tree
abbrev pub LeadsToEnd : Clues → Rows → Masks → Lines → Lines → Type 0
LeadsToEnd clues known facts start end = (lines : List CertLine) × (Adds start end lines × Walks clues known lines (facts ∷ []) [])

pub starts_said : (clues : Clues) (known : Rows) (facts first : Masks) (start : Lines) (g : Growing) → first ≡ facts → g.trail ≡ trail_of first [] [] → g.lines ≡ start → Said clues known facts start g
starts_said clues known facts first start g f e l =
    let waits : facts ∷ [] ≡ g.trail.at_hand ∷ g.trail.behind = sym (ap (λ (x : Trailed). x.at_hand ∷ x.behind) e ∙ ap (λ (x : List (List ℕ)). x ∷ []) f) in
    ([], (subst (λ (x : Lines). Adds start x []) (sym l) (adds_none start), waits))

-- a turn leads on to what waits afterwards
said_on : (clues : Clues) (known : Rows) (facts : Masks) (start : Lines) (old mid : Growing) → Said clues known facts start old
    → TurnsOn clues known old mid
    → (lines : List CertLine) × (Adds start mid.lines lines × Walks clues known lines (facts ∷ []) mid.trail.behind)
said_on clues known facts start old mid s t = (
  s.0 ++ t.lines,
  (
    adds_on start old.lines mid.lines s.0 t.lines s.1.0 t.adds,
    walks_on clues known s.0 t.lines (facts ∷ []) (old.trail.at_hand ∷ old.trail.behind) mid.trail.behind s.1.1 t.walks,
  ),
)

pub goes_said : (clues : Clues) (known : Rows) (facts : Masks) (start : Lines) (old mid new : Growing) → Said clues known facts start old → TurnsOn clues known old mid → Advances mid new true
    → Said clues known facts start new
goes_said clues known facts start old mid new s t a =
    let on = said_on clues known facts start old mid s t in
    (on.0, (rw a.1 on.1.0, subst (λ (x : List (List (List ℕ))). Walks clues known on.0 (facts ∷ []) x) a.0 on.1.1))

pub ends_said : (clues : Clues) (known : Rows) (facts : Masks) (start end : Lines) (old mid new : Growing) → Said clues known facts start old → TurnsOn clues known old mid → Advances mid new false
    → end ≡ new.lines → LeadsToEnd clues known facts start end
ends_said clues known facts start end old mid new s t a e =
    let on = said_on clues known facts start old mid s t in
    let P : List (List (List ℕ)) → Type 0 = λ x. Walks clues known on.0 (facts ∷ []) x in
    (on.0, (rw (e ∙ a.1) on.1.0, subst P a.0 on.1.1))

pub shape_said : (clues : Clues) (known : Rows) (facts : Masks) (start : Lines) (g : Growing) → Said clues known facts start g → SameShape facts g.trail.at_hand
shape_said clues known facts start g s = (walk_alike clues known facts s.0 (facts ∷ []) (g.trail.at_hand ∷ g.trail.behind) s.1.1 (shape_refl facts, tt)).0

pub found_said : OnlyIsClosed → ClosingKeepsFillings → (clues : Clues) (known : Rows) (facts : Masks) (picture : Rows) (start : Lines) (g : Growing) → Said clues known facts start g
    → IsOtherIn clues known g.trail.at_hand picture → IsOtherIn clues known facts picture
found_said own closing clues known facts picture start g s h = (
  elim (walk_back own closing clues known picture s.0 (facts ∷ []) (g.trail.at_hand ∷ g.trail.behind) s.1.1 (inl h.0)) [
    | inl f ↦ f
    | inr none ↦ absurd none
  ],
  h.1,
)

pub said_lighter : (clues : Clues) (known : Rows) (old mid new : Growing) → TurnsOn clues known old mid → Advances mid new true
    → load (new.trail.at_hand ∷ new.trail.behind) < load (old.trail.at_hand ∷ old.trail.behind)
said_lighter clues known old mid new t a = rw a.0 at t.lighter

-- what a tree decides
pub tree_decides : (clues : Clues) (known : Rows) (facts : Masks) (keeps : Bool) (start end : Lines) → AreNone keeps start → LeadsToEnd clues known facts start end
    → Decides clues known facts keeps (Tree end)
tree_decides clues known facts keeps (Kept start) (Kept end) none w =
    let same : end.items ≡ w.0 = w.1.0 ∙ ap (λ (x : List CertLine). x ++ w.0) none.1 in
    (subst (λ (x : List CertLine). Walks clues known x (facts ∷ []) []) (sym same) w.1.1, none.0)
tree_decides clues known facts keeps (Kept start) Dropped none w = absurd w.1.0
tree_decides clues known facts keeps Dropped (Kept end) none w = absurd w.1.0
tree_decides clues known facts keeps Dropped Dropped none w = ((w.0, w.1.1), none)

pub none_fills : OnlyIsClosed → ClosingKeepsFillings → (clues : Clues) (known : Rows) (facts : Masks) (lines : Lines) → SameShape known facts → AreTree clues known facts lines
    → FindsFilling clues facts known None
none_fills own closing clues known facts (Kept lines) e t picture f d = tree_is_whole own closing clues known facts picture lines.items e t d f
none_fills own closing clues known facts Dropped e t picture f d = tree_is_whole own closing clues known facts picture t.0 e t.1 d f

pub ruleset taking = (quiet_settles, forced_settles, dead_settles)

pub all_fit : (clues : Clues) (facts : Masks) → EachFitsAlong clues facts Across → EachFitsAlong clues facts Down → EachFits clues facts
all_fit clues facts rows columns line = by line.axis line.at
  where
    by : (axis : Axis) (at : ℕ) → HasLine facts (record { axis = axis; at = at }) → CanFit (clue_at clues (record { axis = axis; at = at })) (line_of facts (record { axis = axis; at = at }))
    by Across at h = rows at h
    by Down at h = columns at h
