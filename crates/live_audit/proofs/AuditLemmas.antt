-- What the clauses of the calls below mean for an audit.
use Rattle.std.proofs.Common.{◌≡◌, ℕ, ◌<◌, ◌≤◌, List, [], length, inl, inr, Ok, Err, refl, sym, ap, subst, ◌∙◌, arith}
use Rattle.std.proofs.lemmas.Bool.{cases_lt}
use Rattle.std.proofs.lemmas.List.{get_or_past}
use Rattle.line_facts.specs.Masks.{Masks}
use Rattle.picture.specs.declared.line_id.Axis.{Axis}
use Rattle.picture.specs.declared.line_id.Axis.TheVariants.{Across, Down}
use Rattle.picture.specs.declared.document.Document.{Document}
use Rattle.picture.specs.declared.picture.TheConstants.{MAX_SIDE}
use Rattle.picture.specs.Document.{AreInside}
use Rattle.picture.specs.LineSet.{Lines}
use Rattle.picture.specs.Picture.{IsPicture}
use Rattle.picture.specs.Rows.{cell_at, lines_along, row_at, Rows}
use Rattle.clues.specs.Change.{Changes, Moves, IsChangeOf, CanRefresh, lines_after}
use Rattle.clues.specs.ClueBook.{Clues, clues_along, clues_of}
use Rattle.clues.proofs.LawLemmas.{of_lines, standing as untouched_stand}
use Rattle.line_facts.specs.declared.meter.Meter.{Meter}
use Rattle.line_facts.specs.FactSets.{IsBase, IsClosedLine, IsLeast, SameShape}
use Rattle.line_facts.specs.Fits.{CanFit}
use Rattle.line_facts.specs.Outside.{EachOutside}
use Rattle.justify.specs.Book.{Account, account, AreTrimmed, IsAccount, IsDerivation}
use Rattle.retract.specs.Dirty.{AreDirty}
use Rattle.retract.specs.StandingSteps.{AreStanding, HaveBooks}
use Rattle.fixpoint.specs.ClosedFacts.{AreClosable, HasDeadLine, QuietOutside}
use Rattle.fixpoint.specs.declared.fault.CloseFault.{CloseFault}
use Rattle.fixpoint.specs.declared.fault.CloseFault.TheVariants.{Dead, Memory}
use Rattle.propagate.specs.ClosingBooks.{BookWorks, ClosesBook, IsClosedBook}
use Rattle.fixpoint.specs.Fillings.{Fills}
use Rattle.fixpoint.proofs.PictureLemmas.{closing_keeps_fillings}
use Rattle.fixpoint.specs.LineNames.{AllLines}
use Rattle.propagate.specs.Turns.{steps_added}
use Rattle.edits.proofs.DesignLemmas.{all_marked}
use Rattle.edits.specs.Design.{Design, design_of}
use Rattle.live_audit.specs.Audit.{AreGivens, GoesOn, IsAnew, IsAuditOf, IsBaseFor}

-- ---- sizes

same_along : (axis : Axis) (a b : List (List ℕ)) → SameShape a b → lines_along axis a ≡ lines_along axis b
same_along Across a b s = s.rows
same_along Down a b s = s.each 0

-- a book without a step over a base of a picture's shape
pub derives_anew : (picture : Rows) (base : Masks) (clues : Clues) → clues ≡ clues_of picture → SameShape picture base → IsDerivation clues (account base [] base)
derives_anew picture base clues e shape =
    subst (λ (c : Clues). IsDerivation c (account base [] base)) (sym e) (record {
      rows = sym (of_lines.sizes picture Across ∙ same_along Across picture base shape);
      columns = sym (of_lines.sizes picture Down ∙ same_along Down picture base shape);
      forced = λ n l. absurd (omega arith);
    })

pub book_closable : (clues : Clues) (longest : ℕ) (picture : Rows) (book : Account) → IsAccount book → IsDerivation clues book → SameShape picture book.base → IsPicture picture
    → MAX_SIDE ≤ longest → AreClosable clues longest book.facts
book_closable clues longest picture book is d shape valid long =
    let wide = valid.columns_fit in
    let tall = valid.rows_fit in
    let facts = is.behind.same_shape in
    let rows = same_along Across book.base book.facts facts in
    let columns = same_along Down book.base book.facts facts in
    let high = same_along Across picture book.base shape in
    let broad = same_along Down picture book.base shape in
    record { rows = omega arith; columns = omega arith; wide = omega arith; tall = omega arith }

module _ (change : Changes) (old new : List (List ℕ)) (is : IsChangeOf change old new) where
  pub can_refresh : (clues : Clues) → clues ≡ clues_of old → CanRefresh clues new change
  can_refresh clues e = let P : Clues → Type 0 = λ c. CanRefresh c new change in subst P (sym e) (untouched_stand.can_refresh change old new is.follows)

  pub have_books : (before after : Clues) → before ≡ clues_of old → after ≡ clues_of new → HaveBooks change.moves before after
  have_books before after e f = record {
    before = λ axis. ap (λ (c : Clues). length (clues_along axis c)) e ∙ (of_lines.sizes old axis ∙ is.sizes.before axis);
    after = λ axis. ap (λ (c : Clues). length (clues_along axis c)) f ∙ (of_lines.sizes new axis ∙ is.sizes.after axis);
  }

  pub base_after : (base : Masks) → SameShape new base → (axis : Axis) → lines_along axis base ≡ lines_after axis change.moves
  base_after base shape axis = sym (same_along axis new base shape) ∙ is.sizes.after axis

-- ---- closing

pub quiet_outside : (clues : Clues) (facts : Masks) (dirty : Lines) → EachOutside IsClosedLine clues facts dirty → EachOutside CanFit clues facts dirty → QuietOutside clues facts dirty
quiet_outside clues facts dirty closed fits line has not = record { closed = closed line has not; fits = fits line has not }

pub audit_of : (d : Design) (base : Masks) (clues : Clues) (kept book : Account) → clues ≡ clues_of d.rows → IsBaseFor d base → kept.base ≡ base → IsClosedBook clues kept book → IsAccount book
    → AreTrimmed clues book → IsAuditOf d clues book
audit_of d base clues kept book e of_base over closed is trimmed =
    let same : base ≡ book.base = sym (closed.grows.base ∙ over) in
    record {
      clues_are = e;
      givens = subst (AreGivens d) same of_base.givens;
      map = subst (λ b. IsLeast clues b book.facts) (sym closed.grows.base) closed.least;
      fits = closed.fits;
      account = is;
      derivation = closed.grows.derivation;
      trimmed = trimmed;
    }

-- the only error is out of memory, since a picture's own clues never lead to a dead line
pub no_fault_but_memory : (d : Design) (base : Masks) (clues : Clues) (kept : Account) (fault : CloseFault) → IsPicture d.rows → clues ≡ clues_of d.rows → IsBaseFor d base → kept.base ≡ base
    → ClosesBook clues kept (Err fault) → fault ≡ Memory
no_fault_but_memory d base clues kept Dead is e of_base over dead =
    let fills : Fills clues base d.rows = record { is_picture = is; same_shape = of_base.givens.same_shape; has_clues = sym e; leaves = of_base.leaves } in
    absurd (closing_keeps_fillings.none_where_dead clues base d.rows (subst (HasDeadLine clues) over dead) fills)
no_fault_but_memory d base clues kept Memory is e of_base over closes = refl

-- a book without a step is trimmed
pub starts_trimmed : (clues : Clues) (base : Masks) (book : Account) → book ≡ account base [] base → AreTrimmed clues book
starts_trimmed clues base book e = let P : Account → Type 0 = λ b. AreTrimmed clues b in subst P (sym e) (λ n l. absurd (omega arith))

-- ---- the work

-- over a book without a step each step is added
pub is_anew : (clues : Clues) (base : Masks) (lines : Lines) (kept book : Account) (start end : Meter) (before after : ℕ)
    → kept ≡ account base [] base → AllLines base lines → IsClosedBook clues kept book → BookWorks lines kept (Ok book) start end before after → IsAnew book.base book start end before after
is_anew clues base lines kept book start end before after e all closed works =
    let w : BookWorks lines (account base [] base) (Ok book) start end before after = subst (λ k. BookWorks lines k (Ok book) start end before after) e works in
    let over : base ≡ book.base = sym (closed.grows.base ∙ ap (λ (b : Account). b.base) e) in
    record { lines = lines; all_lines = subst (λ b. AllLines b lines) over all; work = record { evaluations = w.0; counts = w.1; suffice = w.2 } }

pub goes_on : (moves : Moves) (old new : Clues) (base : Masks) (from kept to : Account) (dirty : Lines) (start end : Meter) (before after : ℕ)
    → IsAccount kept → kept.base ≡ base → AreStanding moves old new base from.steps kept.steps → AreDirty moves old new from.facts kept.facts dirty
    → IsClosedBook new kept to → BookWorks dirty kept (Ok to) start end before after → GoesOn moves old new from to start end before after
goes_on moves old new base from kept to dirty start end before after is over standing are closed w =
    let e : base ≡ to.base = sym over ∙ sym closed.grows.base in
    record {
      kept = kept;
      is_account = is;
      over = sym closed.grows.base;
      standing = subst (λ (b : List (List ℕ)). AreStanding moves old new b from.steps kept.steps) e standing;
      added = steps_added kept to;
      steps = closed.grows.steps;
      dirty = dirty;
      are_dirty = are;
      work = record { evaluations = w.0; counts = w.1; suffice = w.2 };
    }

-- ---- bases

row_or_past : (rows : Rows) (row col : ℕ) → col < length (row_at rows row) → row < length rows
row_or_past rows row col l = elim (cases_lt row (length rows)) [
  | inl m ↦ m
  | inr past ↦
      let none = ap length (get_or_past rows row [] past) in
      absurd (omega arith)
]

-- the base of a document's givens
pub base_for : (d : Document) (base : Masks) → AreInside d.givens d.picture → IsPicture d.picture → IsBase d.givens d.picture base → IsBaseFor (design_of d) base
base_for d base inside is b = record {
  givens = record {
    same_shape = b.same_shape;
    left = λ row col k r c.
        let m = all_marked d.picture d.givens inside row col in
        let l = b.left row col k r c in
        (λ h. let o = l.0 h in (o.0, λ g. o.1 (m.1 g)), λ h. l.1 (h.0, λ g. h.1 (m.0 g)));
  };
  leaves = λ row col l.
      let r = row_or_past d.picture row col l in
      let wide = is.rectangular row r in
      (b.left row col (cell_at d.picture row col) r (omega arith)).1 (is.colours row col, λ given. refl);
}
