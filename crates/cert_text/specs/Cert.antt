-- A certificate: its form, its givens and its steps as they are written.
use Rattle.std.specs.Prelude.{◌≡◌, ℕ, ◌+◌, ◌-◌, ◌*◌, ◌^◌, ◌<◌, ◌≤◌, List, [], ◌∷◌, length, take, drop, nat_lt}
use Rattle.std.specs.Prelude.{if◌then◌else◌}
use Rattle.std.specs.List.{AllByRecursion}
use Rattle.cert_text.specs.declared.cert_line.CellNumber.{CellNumber}
use Rattle.cert_text.specs.declared.cert_line.CertLine.{CertLine}
use Rattle.cert_text.specs.declared.cert_line.CertLine.TheVariants.{Line, Use, Split, Dead, Broken, Done, Part, Lemma}
use Rattle.cert_text.specs.declared.cert_line.CertLine.TheVariants.{Deny, Forget}
use Rattle.cert_text.specs.declared.cert_line.Literal.{Literal}
use Rattle.cert_text.specs.declared.form.Form.{Form}
use Rattle.cert_text.specs.declared.form.Form.TheVariants.{Tree, GivenTree, Lemmas, LemmaRuns}

-- The steps are `lines`. In the form `LemmaRuns` a line of the text has one step or more: `runs` says how many, line by
-- line. In the others each has one, and `runs` is empty.
pub record Certificate : Type 0 where
  pub form : Form
  pub givens : List CellNumber
  pub lines : List CertLine
  pub runs : List ℕ

abbrev pub certificate : Form → List CellNumber → List CertLine → List ℕ → Certificate
certificate form givens lines runs = record { form = form; givens = givens; lines = lines; runs = runs }

-- ---- the steps of a form, with numbers and literals as a text can have them

-- a cell by numbers of at most three digits, and at least one of the sixteen colours
abbrev pub IsWritable : Literal → Type 0
IsWritable literal =
    (literal.cell.row < 1000) × (literal.cell.col < 1000) × (0 < literal.colours) × (literal.colours < 2 ^ 16)

abbrev pub IsOfTree : CertLine → Type 0
IsOfTree (Line line) = line.number < 1000
IsOfTree (Split cell) = (cell.row < 1000) × (cell.col < 1000)
IsOfTree (Dead line) = line.number < 1000
IsOfTree Done = Unit {0}
IsOfTree _ = ⊥

abbrev pub IsOfLemmas : CertLine → Type 0
IsOfLemmas (Line line) = line.number < 1000
IsOfLemmas (Use lemma) = lemma < 2 ^ 16
IsOfLemmas (Split cell) = ⊥
IsOfLemmas (Dead line) = line.number < 1000
IsOfLemmas (Broken lemma) = lemma < 2 ^ 16
IsOfLemmas Done = Unit {0}
IsOfLemmas (Part literal) = IsWritable literal
IsOfLemmas Lemma = Unit {0}
IsOfLemmas (Deny literal) = IsWritable literal
IsOfLemmas (Forget lemma) = lemma < 2 ^ 16

abbrev pub IsOfForm : Form → CertLine → Type 0
IsOfForm Tree step = IsOfTree step
IsOfForm GivenTree step = IsOfTree step
IsOfForm Lemmas step = IsOfLemmas step
IsOfForm LemmaRuns step = IsOfLemmas step

abbrev pub AreOfForm : Form → List CertLine → Type 0
AreOfForm form steps = AllByRecursion (IsOfForm form) steps

-- ---- runs: the steps of a line of the text

-- steps that a line can have together, since they begin with the same word
abbrev pub ShareWord : CertLine → CertLine → Type 0
ShareWord (Line line) (Line other) = Unit {0}
ShareWord (Use lemma) (Use other) = Unit {0}
ShareWord (Forget lemma) (Forget other) = Unit {0}
ShareWord _ _ = ⊥

-- the steps of one line: one, or up to 1000 that share their word
abbrev pub IsRun : List CertLine → Type 0
IsRun [] = ⊥
IsRun (step ∷ steps) = (length steps < 1000) × AllByRecursion (ShareWord step) steps

-- the steps cut into as many as each line has
abbrev pub cut_into : List ℕ → List CertLine → List (List CertLine)
cut_into [] steps = []
cut_into (run ∷ runs) steps = take run steps ∷ cut_into runs (drop run steps)

-- the steps are these runs, one after another
abbrev pub AreRuns : List ℕ → List CertLine → Type 0
AreRuns [] steps = steps ≡ []
AreRuns (run ∷ runs) steps = (run ≤ length steps) × IsRun (take run steps) × AreRuns runs (drop run steps)

-- the run that steps begin with cannot take the step behind it
abbrev pub IsLongest : ℕ → List CertLine → Type 0
IsLongest run steps = run < length steps → IsRun (take (run + 1) steps) → ⊥

-- each run is as long as a line can have it
abbrev pub AreLongest : List ℕ → List CertLine → Type 0
AreLongest [] steps = Unit {0}
AreLongest (run ∷ runs) steps = IsLongest run steps × AreLongest runs (drop run steps)

abbrev pub HasRuns : Form → List ℕ → List CertLine → Type 0
HasRuns LemmaRuns runs steps = AreRuns runs steps
HasRuns _ runs steps = runs ≡ []

-- the number of the line with a step, by its index, where the first step is on line n
abbrev pub place_of : List ℕ → ℕ → ℕ → ℕ
place_of [] n step = n + step
place_of (run ∷ runs) n step = if nat_lt step run then n else place_of runs (n + 1) (step - run)

-- ---- certificates that can be written

-- a cell's place in the order of rows
abbrev pub rank : CellNumber → ℕ
rank cell = cell.row * 1000 + cell.col

-- cells with numbers of at most three digits, in the order of rows, none twice, and all from a rank on
abbrev pub AreOrdered : ℕ → List CellNumber → Type 0
AreOrdered least [] = Unit {0}
AreOrdered least (cell ∷ cells) =
    (cell.row < 1000) × (cell.col < 1000) × (least < rank cell + 1) × AreOrdered (rank cell + 1) cells

abbrev pub CanHaveGivens : Form → List CellNumber → Type 0
CanHaveGivens Tree givens = givens ≡ []
CanHaveGivens _ givens = AreOrdered 0 givens

-- what the text of a certificate can say
pub record IsCert (cert : Certificate) : Type 0 where
  pub givens : CanHaveGivens cert.form cert.givens
  pub lines : AreOfForm cert.form cert.lines
  pub runs : HasRuns cert.form cert.runs cert.lines
