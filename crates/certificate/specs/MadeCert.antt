-- The certificates that the makers make.
use Rattle.std.specs.Prelude.{◌≡◌, ℕ, List, [], ◌∷◌, ◌++◌, Option, None, Some}
use Rattle.line_facts.specs.Masks.{Masks}
use Rattle.picture.specs.Rows.{Rows}
use Rattle.picture.specs.CellSet.{HasCell}
use Rattle.picture.specs.Picture.{IsPicture}
use Rattle.clues.specs.ClueBook.{clues_of}
use Rattle.clues.specs.Solution.{IsOther}
use Rattle.line_facts.specs.FactSets.{IsBase}
use Rattle.fixpoint.specs.Fillings.{Fills}
use Rattle.cert_text.specs.declared.cert_line.CellNumber.{CellNumber}
use Rattle.cert_text.specs.declared.cert_line.CertLine.{CertLine}
use Rattle.cert_text.specs.declared.cert_line.CertLine.TheVariants.{Line, Split, Dead}
use Rattle.second_search.specs.Trees.{IsUnsettledAt}
use Rattle.cert_text.specs.declared.form.Form.{Form}
use Rattle.cert_text.specs.declared.form.Form.TheVariants.{Tree, GivenTree}
use Rattle.cert_text.specs.Cert.{AreOfForm, Certificate, IsCert}
use Rattle.cert_check.specs.FirstFault.{CertFirstFault}
use Rattle.cert_check.specs.TreeFault.{TreeFault, TreeLeads}
use Rattle.cert_check.specs.Puzzle.{IsForced, IsUnique, base_of, line_id}
use Rattle.cert_check.specs.Tree.{IsProof}
use Rattle.lemma_proof.specs.Naming.{NamesGivens}

-- ---- the lines

-- A `line` excludes something: what it forces changes the facts. A
-- `split` is of a cell that does not have exactly one colour left.
abbrev pub ExcludesSome : Rows → Masks → CertLine → Type 0
ExcludesSome picture facts (Line number) = (gained : Masks) → IsForced picture facts (line_id number) gained
    → gained ≡ facts → ⊥
ExcludesSome picture facts (Split cell) = IsUnsettledAt facts cell
ExcludesSome picture facts (Dead number) = Unit {0}
ExcludesSome picture facts _ = Unit {0}

-- the lines have no error where branches with these facts wait
abbrev pub HasNoFault : Rows → List Masks → List CertLine → Type 0
HasNoFault picture waits lines = (n : ℕ) → TreeFault picture waits n lines None

-- each `line` excludes something and no `split` is of a settled cell, where branches with these facts wait
abbrev pub EachExcludes : Rows → List Masks → List CertLine → Type 0
EachExcludes picture [] [] = Unit {0}
EachExcludes picture (facts ∷ others) [] = Unit {0}
EachExcludes picture [] (line ∷ lines) = Unit {0}
EachExcludes picture (facts ∷ others) (line ∷ lines) =
    ExcludesSome picture facts line × ((next : List Masks)
    × (TreeLeads picture facts line next × EachExcludes picture (next ++ others) lines))

-- the lines of a tree that proves the picture from facts; or another picture fills these
abbrev pub WritesTree : Rows → Masks → Option (List CertLine) → Type 0
WritesTree picture start None = (other : Rows) × (Fills (clues_of picture) start other × (other ≡ picture → ⊥))
WritesTree picture start (Some lines) =
    AreOfForm Tree lines × HasNoFault picture (start ∷ []) lines × EachExcludes picture (start ∷ []) lines

-- ---- the certificate

-- the facts at the root of a certificate whose givens are exactly a set's are the base of that set
abbrev pub BasesAreOne : Type 0
BasesAreOne = (picture : Rows) (givens : List ℕ) (cells : List CellNumber) → IsPicture picture
    → NamesGivens picture givens cells → IsBase givens picture (base_of picture cells)

-- the form of a tree with these givens
abbrev pub IsTreeForm : Form → List CellNumber → Type 0
IsTreeForm Tree givens = givens ≡ []
IsTreeForm GivenTree givens = givens ≡ [] → ⊥
IsTreeForm _ givens = ⊥

-- A certificate with exactly these givens that has no error: so it proves the picture, and there is no other with its
-- givens or, which is the same, those of the set. It can be written and is read as the same certificate. It has
-- the form of a tree without givens exactly where there are none. Each `line` excludes something, and no `split` is of
-- a settled cell.
pub record IsMade (picture : Rows) (givens : List ℕ) (cert : Certificate) : Type 0 where
  pub is_cert : IsCert cert
  pub accepted : CertFirstFault picture cert None
  pub proof : IsProof picture cert
  pub unique : IsUnique picture cert.givens
  pub no_other : (other : Rows) → IsOther (clues_of picture) (HasCell givens) picture other → ⊥
  pub names : NamesGivens picture givens cert.givens
  pub form : IsTreeForm cert.form cert.givens
  pub excludes : EachExcludes picture (base_of picture cert.givens ∷ []) cert.lines

-- there is another picture
abbrev pub HasOther : Rows → List ℕ → Type 0
HasOther picture givens = (other : Rows) × IsOther (clues_of picture) (HasCell givens) picture other

-- a certificate, or there is another picture
abbrev pub Makes : Rows → List ℕ → Option Certificate → Type 0
Makes picture givens None = HasOther picture givens
Makes picture givens (Some cert) = IsMade picture givens cert
