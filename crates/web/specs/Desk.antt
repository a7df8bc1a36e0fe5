-- The benches that are open, and what each call does to them.
use Rattle.std.specs.Prelude.{◌≡◌, ◌⊎◌, ℕ, ◌+◌, ◌==◌, Bool, List, [], ◌∷◌, ◌++◌, Option, None, Some}
use Rattle.std.specs.Prelude.{Result, Ok, Err, position, remove, slice_index_or, slice_set}
use Rattle.picture.specs.declared.rgb.Rgb.{Rgb}
use Rattle.live_audit.specs.Bench.{Seen}
use Rattle.command_text.specs.declared.session_fault.SessionFault.{SessionFault}
use Rattle.session.specs.Session.{Runs}
use Rattle.report_text.specs.Report.{palette_text}
use Rattle.program_options.specs.declared.fault.ProgramFault.{ProgramFault}
use Rattle.program_options.specs.declared.assessing.AssessOptions.{AssessOptions}
use Rattle.program_options.specs.declared.options.Options.{Options}
use Rattle.answers.specs.declared.assessing.Block.{Block}
use Rattle.answers.specs.Assess.{Assesses}
use Rattle.program_options.specs.declared.options.ProveOptions.{ProveOptions}
use Rattle.text_check.specs.Check.{AreGivensOf, IsOnlyPicture}
use Rattle.answers.specs.Check.{IsCheckOf}
use Rattle.program_options.specs.Faults.{fault_text, status_of}
use Rattle.answers.specs.Open.{OpensFile}
use Rattle.answers.specs.Prove.{IsProveOf}
use Rattle.answers.specs.Start.{IsStarted}
use Rattle.web.specs.declared.desk.Desk.{Desk}
use Rattle.web.specs.declared.desk.Seat.{Seat}

-- the place of the bench with a handle, if one is open
abbrev pub place_of : List Seat → ℕ → Option ℕ
place_of seats handle = position (λ seat. seat.handle == handle) seats

-- the same benches are open, and no new handle was given
abbrev pub IsKept : Desk → Desk → Type 0
IsKept old new = (new.seats.items ≡ old.seats.items) × (new.given ≡ old.given)

-- the options were refused: nothing was done, and there is no text
abbrev pub IsUnasked : Desk → Desk → ℕ → Type 0
IsUnasked old new status = (status ≡ 6) × ((new.text.items ≡ []) × IsKept old new)

-- no bench has the handle, and there is no text
abbrev pub IsClosed : Desk → Desk → ℕ → Type 0
IsClosed old new status = (status ≡ 5) × ((new.text.items ≡ []) × IsKept old new)

-- ---- lines

-- The status of a session: 0 if it ended with its input, and 4 if it ended
-- early, because memory for its text was refused or it reads no further.
abbrev pub status_after : Result (Unit {0}) SessionFault → ℕ
status_after (Ok done) = 0
status_after (Err fault) = 4

-- A session on a bench with these bytes as its whole input. It writes after the text that was there, and has the status
-- of how it ended.
abbrev pub RunsOver : List ℕ → List ℕ → List ℕ → Seen → Seen → ℕ → Type 0
RunsOver lines had has old new status =
    (ended : Result (Unit {0}) SessionFault) × ((status ≡ status_after ended)
    × ((left : Option (List ℕ)) × Runs (Some lines) left (Some had) (Some has) old new ended))

-- Lines for the bench at a place: that session runs, and the other benches are as before; or no bench has the handle.
abbrev pub SaysAt : Option ℕ → List ℕ → Desk → Desk → ℕ → Type 0
SaysAt None lines old new status = IsClosed old new status
SaysAt (Some at) lines old new status =
    (seat : Seat) × ((new.seats.items ≡ slice_set old.seats.items at seat) × ((new.given ≡ old.given)
    × ((d : Seat) → (seat.handle ≡ (slice_index_or old.seats.items at d).handle)
    × RunsOver lines [] new.text.items (slice_index_or old.seats.items at d).bench seat.bench status)))

-- lines for the bench of a handle
abbrev pub Says : ℕ → List ℕ → Desk → Desk → ℕ → Type 0
Says handle lines old new status = SaysAt (place_of old.seats.items handle) lines old new status

-- ---- errors

-- the text and the status are those of an error
abbrev pub Tells : ProgramFault → List ℕ → ℕ → Type 0
Tells fault text status = (text ≡ fault_text fault) × (status ≡ status_of fault)

-- memory was refused, and there is no text
abbrev pub IsShort : List ℕ → ℕ → Type 0
IsShort text status = (status ≡ 4) × (text ≡ [])

-- Memory was refused; or there is an error for which `Is` holds, and the text and the status are that error's.
abbrev pub IsRefused : (ProgramFault → Type 0) → List ℕ → ℕ → Type 0
IsRefused Is text status = IsShort text status ⊎ ((fault : ProgramFault) × (Is fault × Tells fault text status))

-- ---- benches

abbrev pub seat : ℕ → Seen → Seat
seat handle bench = record { handle = handle; bench = bench }

-- A bench that was started with the file follows the others, under the handle after the last one that was given. The
-- text says which colour each letter is.
abbrev pub IsOpened : List ℕ → Options → Desk → Desk → ℕ → Type 0
IsOpened file options old new handle =
    (handle ≡ old.given + 1) × ((new.given ≡ handle) × ((bench : Seen)
    × (IsStarted file options bench × ((new.seats.items ≡ old.seats.items ++ seat handle bench ∷ [])
    × (new.text.items ≡ palette_text bench.history.document.colours)))))

-- What happens where a bench is to be opened on a file. If none is opened, the handle is 0, which is never given.
abbrev pub Opens : List ℕ → Options → Desk → Desk → ℕ → ℕ → Type 0
Opens file options old new status handle =
    ((status ≡ 0) × IsOpened file options old new handle)
    ⊎ ((handle ≡ 0) × (IsKept old new × IsRefused (λ fault. OpensFile file options (Err fault)) new.text.items status))

-- the bench at a place is gone, or no bench has the handle
abbrev pub ClosesAt : Option ℕ → Desk → Desk → ℕ → Type 0
ClosesAt None old new status = IsClosed old new status
ClosesAt (Some at) old new status =
    (status ≡ 0) × ((new.text.items ≡ []) × ((new.seats.items ≡ remove old.seats.items at) × (new.given ≡ old.given)))

abbrev pub Closes : ℕ → Desk → Desk → ℕ → Type 0
Closes handle old new status = ClosesAt (place_of old.seats.items handle) old new status

-- ---- certificates

-- A certificate is accepted: the text is the line for it, and then a line for each of its givens. No other picture has
-- the clues and the colours in the cells that are published or, without a text of these, in the certificate's givens.
pub record IsAccepted (file : List ℕ) (background : Option Rgb) (givens : Option (List ℕ)) (cert text : List ℕ)
    : Type 0 where
  pub only : IsOnlyPicture file background givens cert
  pub line : List ℕ
  pub shows : IsCheckOf file background givens cert (Ok line)
  pub named : List ℕ
  pub are_named : AreGivensOf cert named
  pub is : text ≡ line ++ named

-- the check of a certificate of a picture, by the givens that are published, if their text is passed
abbrev pub Checks : List ℕ → Option Rgb → Option (List ℕ) → List ℕ → List ℕ → ℕ → Type 0
Checks file background givens cert text status =
    ((status ≡ 0) × IsAccepted file background givens cert text)
    ⊎ IsRefused (λ fault. IsCheckOf file background givens cert (Err fault)) text status

-- What is made of a picture and of a text of givens, as the program makes it: a certificate with exactly these givens,
-- or the word that there is another picture, or that neither was found.
abbrev pub Proves : List ℕ → List ℕ → ProveOptions → List ℕ → ℕ → Type 0
Proves file givens options text status =
    ((status ≡ 0) × ((proves : Bool) × IsProveOf file (Some givens) options (Ok (text, proves))))
    ⊎ IsRefused (λ fault. IsProveOf file (Some givens) options (Err fault)) text status

-- ---- assessments

-- the block of a puzzle, fit or unfit, and then which colour each letter is
pub record IsTold (file : List ℕ) (givens cert : Option (List ℕ)) (options : AssessOptions) (text : List ℕ)
    : Type 0 where
  pub block : Block
  pub assesses : Assesses file givens cert options (Ok block)
  pub is : text ≡ block.text.items ++ block.palette.items

-- the assessment of a puzzle, by the texts of its file, of its givens and of its certificate
abbrev pub AssessesBy : List ℕ → Option (List ℕ) → Option (List ℕ) → AssessOptions → List ℕ → ℕ → Type 0
AssessesBy file givens cert options text status =
    ((status ≡ 0) × IsTold file givens cert options text)
    ⊎ IsRefused (λ fault. Assesses file givens cert options (Err fault)) text status
