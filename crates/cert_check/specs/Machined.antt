-- The machine: a walk, and the numbers that it keeps.
use Rattle.std.specs.Prelude.{◌≡◌, ℕ, ◌+◌, ◌≤◌, List, [], length, Bool, true, false, Option, Some, None, Result, Ok, Err}
use Rattle.std.specs.List.{sum_by}
use Rattle.picture.specs.LineSet.{Lines}
use Rattle.picture.specs.Rows.{Rows, width_of}
use Rattle.cert_text.specs.declared.fault.CertFault.{CertFault}
use Rattle.cert_text.specs.declared.cert_line.CertLine.{CertLine}
use Rattle.cert_text.specs.declared.cert_line.CertLine.TheVariants.{Deny, Lemma, Part}
use Rattle.cert_check.specs.declared.stage.Stage.{Stage}
use Rattle.cert_check.specs.declared.stage.Stage.TheVariants.{Free}
use Rattle.cert_check.specs.Boards.{IsTallied, boarded}
use Rattle.cert_check.specs.FirstFault.{HasFault, Moves}
use Rattle.cert_check.specs.Walk.{Walk}

-- a walk; for the facts at hand and those that wait, how many cells have another colour; lines that are settled; for
-- how many more parts, literals and lemmas there is room; and the size of the picture
pub record Machined : Type 0 where
  pub walk : Walk
  pub strays : ℕ
  pub waits : List ℕ
  pub settled : Lines
  pub parts : ℕ
  pub literals : ℕ
  pub spare : ℕ
  pub height : ℕ
  pub width : ℕ

abbrev pub machined : Walk → ℕ → List ℕ → Lines → ℕ → ℕ → ℕ → ℕ → ℕ → Machined
machined walk strays waits settled parts literals spare height width =
    record {
      walk = walk;
      strays = strays;
      waits = waits;
      settled = settled;
      parts = parts;
      literals = literals;
      spare = spare;
      height = height;
      width = width;
    }

-- the numbers are right, and a lemma is being proved only where facts wait
pub record IsRight (picture : Rows) (machine : Machined) : Type 0 where
  pub tallied : IsTallied picture
      (boarded machine.walk.at_hand machine.walk.behind machine.strays machine.waits machine.settled machine.parts)
  pub free : machine.walk.behind ≡ [] → machine.walk.stage ≡ Free
  pub none_denied : machine.walk.stage ≡ Free → machine.walk.denied ≡ []
  pub height : machine.height ≡ length picture
  pub width : machine.width ≡ width_of picture

-- the walk if it goes on, and None if it is over
abbrev pub reached : Bool → Walk → Option Walk
reached true walk = Some walk
reached false walk = None

-- A line taken: Ok, and the new walk is where the line leads; or the line's error is answered.
abbrev pub Takes : Rows → Walk → Machined → CertLine → ℕ → Result Bool CertFault → Type 0
Takes picture old new line n (Ok going) =
    (going ≡ true → IsRight picture new) × Moves picture old line (reached going new.walk)
Takes picture old new line n (Err e) = HasFault picture old line n e

-- ---- room

-- what a line takes of the room for parts, for literals and for lemmas
abbrev pub parts_of : CertLine → ℕ
parts_of (Part literal) = 1
parts_of line = 0

abbrev pub denials_of : CertLine → ℕ
denials_of (Deny literal) = 1
denials_of line = 0

abbrev pub lemmas_of : CertLine → ℕ
lemmas_of Lemma = 1
lemmas_of line = 0

-- the lemma that is being proved takes its room once it is kept
abbrev pub owed : Stage → ℕ
owed Free = 0
owed stage = 1

-- there is room for a line
pub record Affords (machine : Machined) (line : CertLine) : Type 0 where
  pub parts : parts_of line ≤ machine.parts
  pub literals : denials_of line ≤ machine.literals
  pub lemmas : lemmas_of line + owed machine.walk.stage ≤ machine.spare

-- a line takes no more room than that
pub record Spent (old new : Machined) (line : CertLine) : Type 0 where
  pub parts : old.parts ≤ new.parts + parts_of line
  pub literals : old.literals ≤ new.literals + denials_of line
  pub lemmas : old.spare + owed new.walk.stage ≤ new.spare + owed old.walk.stage + lemmas_of line

-- there is room for all these lines
pub record AffordsAll (machine : Machined) (lines : List CertLine) : Type 0 where
  pub parts : sum_by parts_of lines ≤ machine.parts
  pub literals : sum_by denials_of lines ≤ machine.literals
  pub lemmas : sum_by lemmas_of lines + owed machine.walk.stage ≤ machine.spare

-- a checker of a picture: for how many parts, literals and lemmas it has room
pub record Ready : Type 0 where
  pub picture : Rows
  pub parts : ℕ
  pub literals : ℕ
  pub lemmas : ℕ

abbrev pub ready : Rows → ℕ → ℕ → ℕ → Ready
ready picture parts literals lemmas =
    record { picture = picture; parts = parts; literals = literals; lemmas = lemmas }

-- it has room for all that checking these lines can need
pub record IsReady (checker : Ready) (lines : List CertLine) : Type 0 where
  pub parts : sum_by parts_of lines ≤ checker.parts
  pub literals : sum_by denials_of lines ≤ checker.literals
  pub lemmas : sum_by lemmas_of lines ≤ checker.lemmas
