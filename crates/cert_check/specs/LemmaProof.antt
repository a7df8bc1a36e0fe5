-- What a proof with lemmas is: branches, and a trunk on which lemmas are proved.
use Rattle.std.specs.Prelude.{◌≡◌, ℕ, List, [], ◌∷◌, ◌++◌, map, set, Some, None}
use Rattle.std.specs.List.{AllByRecursion}
use Rattle.line_facts.specs.Masks.{Masks}
use Rattle.picture.specs.Rows.{Rows}
use Rattle.cert_text.specs.declared.cert_line.CertLine.{CertLine}
use Rattle.cert_text.specs.declared.cert_line.CertLine.TheVariants.{Lemma, Deny, Forget}
use Rattle.cert_text.specs.declared.cert_line.Literal.{Literal}
use Rattle.cert_text.specs.Cert.{Certificate}
use Rattle.cert_check.specs.Puzzle.{HasCellNumber, base_of}
use Rattle.cert_check.specs.Lemmas.{Fits, HasLiteral, IsKept, Lemmas, denied_all, no_lemmas}
use Rattle.cert_check.specs.Steps.{Leads}

mutual
  -- a line, and a branch for each of the facts that it leads to
  pub data Branch : Type 0 where
    leads : CertLine → Branches → Branch

  pub data Branches : Type 0 where
    none : Branches
    more : Branch → Branches → Branches

-- The branch on which nothing waits: it ends with a line; or a line leads to branches, and the last of them is the
-- trunk again; or a lemma with some literals is proved by a branch that denies them; or a lemma is dropped.
pub data Trunk : Type 0 where
  ends : CertLine → Trunk
  goes : CertLine → Branches → Trunk → Trunk
  proved : List Literal → Branch → Trunk → Trunk
  dropped : ℕ → Trunk → Trunk

-- ---- the lines, each branch complete before the next

abbrev mutual
  pub branch_lines : Branch → List CertLine
  branch_lines (leads line branches) = line ∷ branches_lines branches

  pub branches_lines : Branches → List CertLine
  branches_lines none = []
  branches_lines (more branch branches) = branch_lines branch ++ branches_lines branches

abbrev pub trunk_lines : Trunk → List CertLine
trunk_lines (ends line) = line ∷ []
trunk_lines (goes line branches trunk) = line ∷ (branches_lines branches ++ trunk_lines trunk)
trunk_lines (proved literals branch trunk) =
    Lemma ∷ (map Deny literals ++ (branch_lines branch ++ trunk_lines trunk))
trunk_lines (dropped n trunk) = Forget n ∷ trunk_lines trunk

-- ---- what is proved

-- A branch proves a picture from facts and lemmas: its line leads to some facts, and a branch each proves it from them.
abbrev mutual
  pub BranchProves : Rows → Lemmas → Masks → Branch → Type 0
  BranchProves picture lemmas facts (leads line branches) =
      (next : List Masks) × (Leads picture lemmas facts line next × EachBranchProves picture lemmas next branches)

  pub EachBranchProves : Rows → Lemmas → List (List (List ℕ)) → Branches → Type 0
  EachBranchProves picture lemmas [] none = Unit {0}
  EachBranchProves picture lemmas (facts ∷ others) (more branch branches) =
      BranchProves picture lemmas facts branch × EachBranchProves picture lemmas others branches
  EachBranchProves picture lemmas _ _ = ⊥

-- A lemma is proved where a branch proves the picture from the facts in which its literals are denied. It is kept then.
abbrev pub TrunkProves : Rows → Lemmas → Masks → Trunk → Type 0
TrunkProves picture lemmas facts (ends line) = Leads picture lemmas facts line []
TrunkProves picture lemmas facts (goes line branches trunk) =
    (front : List Masks) × ((last : Masks) × (Leads picture lemmas facts line (front ++ last ∷ [])
    × EachBranchProves picture lemmas front branches × TrunkProves picture lemmas last trunk))
TrunkProves picture lemmas facts (proved literals branch trunk) =
    AllByRecursion (HasLiteral picture) literals
    × Fits lemmas literals
    × BranchProves picture lemmas (denied_all facts literals) branch
    × TrunkProves picture (lemmas ++ Some literals ∷ []) facts trunk
TrunkProves picture lemmas facts (dropped n trunk) =
    IsKept lemmas n × TrunkProves picture (set lemmas n None) facts trunk

-- The givens lie in the picture, and the lines are a trunk that proves it from the facts of the givens.
pub record IsLemmaProof (picture : Rows) (cert : Certificate) : Type 0 where
  pub inside : AllByRecursion (HasCellNumber picture) cert.givens
  pub trunk : Trunk
  pub lines : cert.lines ≡ trunk_lines trunk
  pub proves : TrunkProves picture no_lemmas (base_of picture cert.givens) trunk
