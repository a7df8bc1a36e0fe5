-- Each tree can be told step by step.
use Rattle.std.proofs.Common.{ℕ, ◌-◌, List, [], ◌∷◌, ◌++◌, map, refl, arith}
use Rattle.line_facts.specs.Masks.{Masks}
use Rattle.line_facts.specs.Branches.{held}
use Rattle.picture.specs.Rows.{Rows}
use Rattle.cert_text.specs.declared.cert_line.CellNumber.{CellNumber}
use Rattle.cert_text.specs.declared.cert_line.CertLine.{CertLine}
use Rattle.cert_text.specs.declared.cert_line.CertLine.TheVariants.{Line, Dead, Done, Part}
use Rattle.cert_text.specs.declared.form.Form.{Form}
use Rattle.cert_text.specs.declared.form.Form.TheVariants.{Tree as OfTree, GivenTree, Lemmas, LemmaRuns}
use Rattle.cert_text.specs.Cert.{AreRuns, HasRuns, certificate}
use Rattle.cert_check.specs.Puzzle.{base_of}
use Rattle.cert_check.specs.Tree.{Tree, Trees, done, dead, forced, split, none, more, Proves, EachProves}
use Rattle.claims.specs.Told.{HasLemmas, Tells, TellsEach, TreesCanBeTold, left_in, row_of, some_of}

mutual
  tells : (picture : Rows) (tree : Tree) (facts : Masks) → Proves picture facts tree → (lines : List CertLine) × Tells picture facts tree lines
  tells picture done facts p = (Done ∷ [], refl)
  tells picture (dead number) facts p = (Dead number ∷ [], refl)
  tells picture (forced number tree) facts p =
      let rest = tells picture tree p.1.0 p.1.1.1 in
      (Line number ∷ rest.0, (p.1.0, (rest.0, (p.1.1.0, rest.1, refl))))
  tells picture (split cell trees) facts p = tells_each picture trees facts cell (left_in facts cell) p.1

  tells_each : (picture : Rows) (trees : Trees) (facts : Masks) (cell : CellNumber) (colours : List ℕ) → EachProves picture (held facts (cell.row - 1) (cell.col - 1) colours) trees
      → (lines : List CertLine) × TellsEach picture facts cell colours trees lines
  tells_each picture none facts cell [] p = (Dead (row_of cell) ∷ [], refl)
  tells_each picture none facts cell (colour ∷ colours) p = absurd p
  tells_each picture (more tree trees) facts cell [] p = absurd p
  tells_each picture (more tree none) facts cell (colour ∷ []) p = tells picture tree _ p.0
  tells_each picture (more tree (more other trees)) facts cell (colour ∷ []) p = absurd p.1
  tells_each picture (more tree trees) facts cell (colour ∷ next ∷ others) p =
      let first = tells picture tree _ p.0 in
      let rest = tells_each picture trees facts cell (next ∷ others) p.1 in
      (Part (some_of cell (next ∷ others)) ∷ (first.0 ++ rest.0), (first.0, (rest.0, (first.1, rest.1, refl))))

-- each step on a line of its own
abbrev runs_in : Form → List CertLine → List ℕ
runs_in LemmaRuns lines = map (λ (line : CertLine). 1) lines
runs_in _ lines = []

one_each : (lines : List CertLine) → AreRuns (map (λ (line : CertLine). 1) lines) lines
one_each [] = refl
one_each (line ∷ lines) = ((omega arith), ((omega arith), tt), one_each lines)

have_runs : (form : Form) (lines : List CertLine) → HasLemmas form → HasRuns form (runs_in form lines) lines
have_runs OfTree lines h = absurd h
have_runs GivenTree lines h = absurd h
have_runs Lemmas lines h = refl
have_runs LemmaRuns lines h = one_each lines

pub trees_can_be_told : TreesCanBeTold
trees_can_be_told picture cert proof form h =
    let told = tells picture proof.tree (base_of picture cert.givens) proof.proves in
    (certificate form cert.givens told.0 (runs_in form told.0), refl, record { form = h; givens = refl; lines = told.1; runs = have_runs form told.0 h })
