-- A tree that is told step by step, in lines of the form with lemmas.
use Rattle.std.specs.Prelude.{◌≡◌, ℕ, ◌-◌, ◌^◌, List, [], ◌∷◌, ◌++◌, bit_or}
use Rattle.std.specs.List.{AllByRecursion}
use Rattle.line_facts.specs.Masks.{Masks}
use Rattle.line_facts.specs.Branches.{colours_of}
use Rattle.picture.specs.declared.line_id.Axis.TheVariants.{Across}
use Rattle.picture.specs.Picture.{IsPicture}
use Rattle.picture.specs.Rows.{cell_at, with_cell, Rows}
use Rattle.cert_text.specs.declared.cert_line.CellNumber.{CellNumber}
use Rattle.cert_text.specs.declared.cert_line.LineNumber.{LineNumber}
use Rattle.cert_text.specs.declared.cert_line.Literal.{Literal}
use Rattle.cert_text.specs.declared.cert_line.CertLine.{CertLine}
use Rattle.cert_text.specs.declared.cert_line.CertLine.TheVariants.{Line, Dead, Done, Part}
use Rattle.cert_text.specs.declared.form.Form.{Form}
use Rattle.cert_text.specs.declared.form.Form.TheVariants.{Lemmas, LemmaRuns}
use Rattle.cert_text.specs.Cert.{Certificate, HasRuns, IsCert}
use Rattle.cert_check.specs.Puzzle.{IsForced, base_of, line_id}
use Rattle.cert_check.specs.Tree.{Tree, Trees, done, dead, forced, split, none, more, IsProof}
use Rattle.cert_check.specs.LemmaProof.{IsLemmaProof}

-- ---- a split

-- the mask of some colours
abbrev pub mask_of : List ℕ → ℕ
mask_of [] = 0
mask_of (colour ∷ colours) = bit_or (2 ^ colour) (mask_of colours)

-- the literal that names these colours of a cell
abbrev pub some_of : CellNumber → List ℕ → Literal
some_of cell colours = record { cell = cell; colours = mask_of colours }

-- the row of a cell
abbrev pub row_of : CellNumber → LineNumber
row_of cell = record { axis = Across; number = cell.row }

-- the facts of the branch of one colour
abbrev pub branch_of : Masks → CellNumber → ℕ → Masks
branch_of facts cell colour = with_cell facts (cell.row - 1) (cell.col - 1) (2 ^ colour)

-- the colours that are left in a cell, in ascending order
abbrev pub left_in : Masks → CellNumber → List ℕ
left_in facts cell = colours_of (cell_at facts (cell.row - 1) (cell.col - 1))

-- ---- a tree

-- These lines tell a tree from facts. What is no split is told as it is.
abbrev mutual
  pub Tells : Rows → Masks → Tree → List CertLine → Type 0
  Tells picture facts done lines = lines ≡ Done ∷ []
  Tells picture facts (dead number) lines = lines ≡ Dead number ∷ []
  Tells picture facts (forced number tree) lines =
      (gained : Masks) × ((rest : List CertLine) × (IsForced picture facts (line_id number) gained
      × Tells picture gained tree rest × (lines ≡ Line number ∷ rest)))
  Tells picture facts (split cell trees) lines = TellsEach picture facts cell (left_in facts cell) trees lines

  -- These tell the branches of a cell's colours. Of none: the cell's row is dead. Of one: nothing is parted. Of more:
  -- the others are parted from the first one, whose branch is told, and then theirs.
  pub TellsEach : Rows → Masks → CellNumber → List ℕ → Trees → List CertLine → Type 0
  TellsEach picture facts cell [] none lines = lines ≡ Dead (row_of cell) ∷ []
  TellsEach picture facts cell (colour ∷ []) (more tree none) lines =
      Tells picture (branch_of facts cell colour) tree lines
  TellsEach picture facts cell (colour ∷ next ∷ others) (more tree trees) lines =
      (first : List CertLine) × ((rest : List CertLine) × (Tells picture (branch_of facts cell colour) tree first
      × TellsEach picture facts cell (next ∷ others) trees rest
      × (lines ≡ Part (some_of cell (next ∷ others)) ∷ (first ++ rest))))
  TellsEach picture facts cell _ _ lines = ⊥

-- the line speaks of no lemma
abbrev pub IsPlain : CertLine → Type 0
IsPlain (Line number) = Unit {0}
IsPlain (Dead number) = Unit {0}
IsPlain Done = Unit {0}
IsPlain (Part literal) = Unit {0}
IsPlain _ = ⊥

-- ---- a certificate

-- a form with lemmas
abbrev pub HasLemmas : Form → Type 0
HasLemmas Lemmas = Unit {0}
HasLemmas LemmaRuns = Unit {0}
HasLemmas _ = ⊥

-- a certificate of a form with lemmas that has another one's givens and tells its tree
pub record IsToldBy (picture : Rows) (cert : Certificate) (tree : Tree) (told : Certificate) : Type 0 where
  pub form : HasLemmas told.form
  pub givens : told.givens ≡ cert.givens
  pub lines : Tells picture (base_of picture cert.givens) tree told.lines
  pub runs : HasRuns told.form told.runs told.lines

-- each proof that is a tree can be told step by step, in each form with lemmas
abbrev pub TreesCanBeTold : Type 0
TreesCanBeTold = (picture : Rows) (cert : Certificate) (proof : IsProof picture cert) (form : Form) → HasLemmas form
    → (told : Certificate) × (told.form ≡ form) × IsToldBy picture cert proof.tree told

-- what tells one that can be written is a proof with lemmas, in which none stands, and can be written
abbrev pub ToldTreesAreProofs : Type 0
ToldTreesAreProofs = (picture : Rows) (cert : Certificate) → IsPicture picture → IsCert cert
    → (proof : IsProof picture cert) (told : Certificate) → IsToldBy picture cert proof.tree told
    → IsLemmaProof picture told × IsCert told × AllByRecursion IsPlain told.lines
