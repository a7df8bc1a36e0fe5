-- The answer to each line of a session, in terms of the history and the
-- allowance alone, without how it is found or what is kept and counted.
use Rattle.std.specs.Prelude.{◌≡◌, ◌<◌, ◌⊎◌, ℕ, true, false, List, [], ◌∷◌, ◌++◌, length, take, codes, Option}
use Rattle.std.specs.Prelude.{None, Result, Ok, Err, unwrap_or}
use Rattle.std.specs.List.{concat}
use Rattle.std.specs.Io.KnownBytes.{Appends, Consumes, IsAtEnd}
use Rattle.line_facts.specs.Masks.{IsOnly, Masks}
use Rattle.picture.specs.Rows.{cell_at, line_of, width_of, Rows}
use Rattle.picture.specs.declared.line_id.LineId.{LineId}
use Rattle.clues.specs.ClueBook.{clue_at, clues_of}
use Rattle.ppm_text.specs.Text.{ppm_text}
use Rattle.non_text.specs.WrittenNon.{is_two_colour}
use Rattle.non_text.specs.Written.{non_text_of}
use Rattle.line_facts.specs.FactSets.{Excludes, IsLeast, Leaves, SameShape, col_on, row_on}
use Rattle.justify.specs.declared.premise.Premise.{Premise}
use Rattle.justify.specs.Exclusions.{CanHaveWithout}
use Rattle.justify.specs.Premises.{ArePremises, Says, SaysBut}
use Rattle.live_audit.specs.Audit.{AreGivens}
use Rattle.edits.specs.declared.fault.EditFault.{EditFault}
use Rattle.edits.specs.declared.fault.EditFault.TheVariants.{Memory, Place}
use Rattle.edits.specs.Design.{Design}
use Rattle.edits.specs.Fault.{edit_fault, has_cell}
use Rattle.edits.specs.History.{History, after_edit, redo_fault, redone, undo_fault, undone}
use Rattle.second_search.specs.Parts.{IsChained, IsOpenCell}
use Rattle.second_search.specs.FixedOrder.{SplitsPast}
use Rattle.cert_text.specs.Cert.{AreOfForm, Certificate}
use Rattle.certificate.specs.MadeCert.{IsTreeForm}
use Rattle.cert_text.specs.WrittenCert.{cert_text}
use Rattle.cert_check.specs.Tree.{IsProof}
use Rattle.live_audit.specs.declared.verdict.Verdict.{Verdict}
use Rattle.live_audit.specs.declared.verdict.Verdict.TheVariants.{Undecided}
use Rattle.grade.specs.declared.pathing.Path.{Path}
use Rattle.assess.specs.declared.assessment.Assessment.{Assessment}
use Rattle.report_text.specs.AssessmentText.{assessment_text}
use Rattle.live_audit.specs.Assessing.{IsAssessmentOf, IsPathOf}
use Rattle.live_audit.specs.Calls.{Machine, machine}
use Rattle.live_audit.specs.Certify.{NamesMarks, ordered}
use Rattle.live_audit.specs.Verdict.{IsOtherFor, IsVerdictOn}
use Rattle.command_text.specs.declared.command.Command.{Command}
use Rattle.command_text.specs.declared.command.Command.TheVariants as command
use Rattle.command_text.specs.declared.request.Request.{Request}
use Rattle.command_text.specs.declared.request.Request.TheVariants as request
use Rattle.command_text.specs.declared.session_fault.SessionFault.{SessionFault}
use Rattle.command_text.specs.declared.session_fault.SessionFault.TheVariants as fault
use Rattle.command_text.specs.Lines.{ended_lines_of, lines_of, request_of}
use Rattle.report_text.specs.ClueText.{clues_text}
use Rattle.session.specs.Allowing.{assess_allowance}
use Rattle.report_text.specs.ReasonText.{reason_text}
use Rattle.report_text.specs.Report.{report_text}
use Rattle.report_text.specs.Shown.{map_text}
use Rattle.command_text.specs.Faults.{name_of}
use Rattle.command_text.specs.Words.{Texts}
use Rattle.session.specs.Refusal.{edit_line, memory_line, refused}
use Rattle.session.specs.Texts.{content, done_text, path_shown, verdict_text, verdict_word}

-- ---- what is true of a document

-- what the givens of a document alone exclude, and the map: the least closed exclusions that include this
pub record MapOf (d : Design) : Type 0 where
  pub base : Masks
  pub map : Masks
  pub givens : AreGivens d base
  pub least : IsLeast (clues_of d.rows) base map

-- A part of the map costs more than this number of splits: its search in the fixed order makes that many, and needs one
-- more. The part is the open cells that are chained to the one at `row`, `col`. The facts that are searched are those
-- of the map on the part, and leave only the picture's colours elsewhere.
pub record IsPastSplits (d : Design) (map : Masks) (splits : ℕ) : Type 0 where
  pub row : ℕ
  pub col : ℕ
  pub is_open : IsOpenCell map row col
  pub facts : Masks
  pub same_shape : SameShape d.rows facts
  pub on_part : (r c : ℕ) → IsChained map row col r c → cell_at facts r c ≡ cell_at map r c
  pub elsewhere : (r c : ℕ) → r < length d.rows → c < width_of d.rows → (IsChained map row col r c → ⊥)
      → IsOnly (cell_at facts r c) (cell_at d.rows r c)
  pub goes_on : SplitsPast (clues_of d.rows) d.rows (facts ∷ []) splits

-- the verdict is true of the document, and undecided only where a part of the map costs more than is allowed
pub record IsTrueVerdict (d : Design) (map : Masks) (allowance : Option ℕ) (verdict : Verdict) : Type 0 where
  pub is_true : IsVerdictOn d allowance verdict
  pub undecided : (splits : ℕ) → verdict ≡ Undecided splits → IsPastSplits d map splits

-- A line excludes colour k from a cell, by premises that hold in the map. Without what they say of any one cell, it
-- does not.
pub record IsReason (d : Design) (map : Masks) (row col k : ℕ) (line : LineId)
    (premises : List Premise) : Type 0 where
  pub place : ℕ
  pub in_row : row ≡ row_on line.axis line.at place
  pub in_column : col ≡ col_on line.axis line.at place
  pub are : ArePremises premises
  pub known : (i j : ℕ) → Says premises i j → Excludes map (row_on line.axis line.at i) (col_on line.axis line.at i) j
  pub forced : CanHaveWithout
      (clue_at (clues_of d.rows) line) (length (line_of d.rows line)) (Says premises) place k → ⊥
  pub trimmed : (i j : ℕ) → Says premises i j → CanHaveWithout
      (clue_at (clues_of d.rows) line) (length (line_of d.rows line)) (SaysBut premises i) place k
  pub apart : Says premises place k → ⊥

-- The colour is left; or the givens alone exclude it; or they do not, and the text gives a reason.
abbrev pub TellsWhy : (d : Design) → MapOf d → ℕ → ℕ → ℕ → List ℕ → Type 0
TellsWhy d m row col k text =
    ((text ≡ codes "possible\n") × Leaves m.map row col k)
    ⊎ (((text ≡ codes "given\n") × Excludes m.base row col k)
    ⊎ (Leaves m.base row col k × ((line : LineId) × ((premises : List Premise)
    × (IsReason d m.map row col k line premises × (text ≡ reason_text line premises))))))

-- A certificate that proves the picture of the ordered document from exactly the document's givens; and there is no
-- other picture for the document.
pub record IsCertificateOf (d : Design) (cert : Certificate) : Type 0 where
  pub form : IsTreeForm cert.form cert.givens
  pub givens : NamesMarks (ordered d) cert.givens
  pub writable : AreOfForm cert.form cert.lines
  pub proof : IsProof (ordered d).rows cert
  pub no_other : (other : Rows) → IsOtherFor d other → ⊥

-- the text of such a certificate, or `ambiguous` where there is another picture
abbrev pub TellsProof : Design → List ℕ → Type 0
TellsProof d text =
    ((text ≡ codes "ambiguous\n") × ((other : Rows) × IsOtherFor d other))
    ⊎ ((cert : Certificate) × (IsCertificateOf d cert × (text ≡ cert_text cert)))

-- ---- the answer to a command

-- Where no error refuses it, an edit, an undo or a redo leads to the history after it. Otherwise, or where memory runs
-- out, the text is the error's line and nothing changes.
abbrev pub TellsStroke : Machine → Option EditFault → History → List ℕ → Machine → Type 0
TellsStroke m fault after text next =
    ((fault ≡ None) × ((text ≡ done_text) × (next ≡ machine after m.allowance)))
    ⊎ ((text ≡ edit_line (unwrap_or fault Memory)) × (next ≡ m))

-- the text is right, as `Is` says, or memory ran out
abbrev pub OrMemory : List ℕ → Type 0 → Type 0
OrMemory text Is = Is ⊎ (text ≡ memory_line)

-- The text for a command that only shows or asks is right, by the map.
abbrev pub IsShown : (h : History) → Option ℕ → MapOf h.document → Command → List ℕ → Type 0
IsShown h allowance m command.Clues text = OrMemory text (text ≡ clues_text (clues_of h.document.rows))
IsShown h allowance m command.Map text = OrMemory text (text ≡ map_text m.map)
IsShown h allowance m command.Verdict text = OrMemory text ((verdict : Verdict)
    × (IsTrueVerdict h.document m.map allowance verdict × (text ≡ verdict_text verdict)))
IsShown h allowance m (command.Why row col k) text =
    ((has_cell h.document.rows row col ≡ false) × (text ≡ edit_line Place))
    ⊎ ((has_cell h.document.rows row col ≡ true) × OrMemory text (TellsWhy h.document m row col k text))
IsShown h allowance m command.WritePpm text = OrMemory text (text ≡ ppm_text (content h.document))
IsShown h allowance m command.WriteNon text =
    ((is_two_colour h.document.rows ≡ false) × (text ≡ refused (codes "TwoColoursOnly")))
    ⊎ ((is_two_colour h.document.rows ≡ true) × OrMemory text (text ≡ non_text_of h.document.rows))
IsShown h allowance m command.Report text = OrMemory text ((verdict : Verdict)
    × (IsTrueVerdict h.document m.map allowance verdict × (text ≡ report_text h.document
    (clues_of h.document.rows) m.map (verdict_word verdict) (length h.past) (length h.future))))
IsShown h allowance m command.Certify text = OrMemory text (TellsProof h.document text)
IsShown h allowance m (command.Assess is_off) text = OrMemory text ((found : Assessment)
    × (IsAssessmentOf h.document (assess_allowance is_off allowance) found × (text ≡ assessment_text found)))
IsShown h allowance m command.Path text =
    OrMemory text ((path : Path) × (IsPathOf h.document path × (text ≡ path_shown path)))
IsShown h allowance m c text = ⊥

-- A command's answer, with the history and the allowance after it. A command that only shows or asks changes neither.
abbrev pub IsAnswered : Machine → Command → List ℕ → Machine → Type 0
IsAnswered m (command.Edit e) text next =
    TellsStroke m (edit_fault m.history.document e) (after_edit m.history e) text next
IsAnswered m command.Undo text next = TellsStroke m (undo_fault m.history) (undone m.history) text next
IsAnswered m command.Redo text next = TellsStroke m (redo_fault m.history) (redone m.history) text next
IsAnswered m (command.Allow allowance) text next = (text ≡ done_text) × (next ≡ machine m.history allowance)
IsAnswered m c text next =
    ((map : MapOf m.history.document) × IsShown m.history m.allowance map c text) × (next ≡ m)

-- A line's answer: a blank line has none, and a line that is not a command has the name of its first error.
abbrev pub IsReply : Machine → Request → List ℕ → Machine → Type 0
IsReply m request.Nothing text next = (text ≡ []) × (next ≡ m)
IsReply m (request.Refused fault) text next = (text ≡ refused (name_of fault)) × (next ≡ m)
IsReply m (request.Command c) text next = IsAnswered m c text next

-- ---- a whole session

-- there is one text for each line, one after the other
abbrev pub AreReplies : Machine → Texts → Texts → Machine → Type 0
AreReplies m [] [] last = last ≡ m
AreReplies m (line ∷ lines) (text ∷ texts) last =
    (next : Machine) × (IsReply m (request_of line) text next × AreReplies next lines texts last)
AreReplies m lines texts last = ⊥

-- all lines are answered, and these texts were written
pub record AreTold (lines : Texts) (had has : Option (List ℕ)) (m last : Machine) : Type 0 where
  pub texts : Texts
  pub replies : AreReplies m lines texts last
  pub went_out : Appends had has (concat texts)

-- The first lines, at most `answered` of them, are answered; of the text of the last one a prefix was written.
pub record AreToldInPart (lines : Texts) (had has : Option (List ℕ)) (m last : Machine) : Type 0 where
  pub answered : ℕ
  pub texts : Texts
  pub text : List ℕ
  pub replies : AreReplies m (take answered lines) (texts ++ text ∷ []) last
  pub front : ℕ
  pub went_out : Appends had has (concat texts ++ take front text)

-- A session that ended gave true answers to all lines that it read. After a failed read, the lines whose line feed had
-- been read are answered. A failed write comes at one of these, or at the last line of an input that was read whole.
abbrev pub TellsTruth : Option (List ℕ) → Option (List ℕ) → Option (List ℕ) → Option (List ℕ)
    → Machine → Machine → Result (Unit {0}) SessionFault → Type 0
TellsTruth had have held holds m last (Ok done) =
    (read : List ℕ) × (Consumes had have read × (IsAtEnd have × AreTold (lines_of read) held holds m last))
TellsTruth had have held holds m last (Err fault.Read) =
    (read : List ℕ) × (Consumes had have read × AreTold (ended_lines_of read) held holds m last)
TellsTruth had have held holds m last (Err fault.Write) = (read : List ℕ) × (Consumes had have read
    × (AreToldInPart (ended_lines_of read) held holds m last
    ⊎ (IsAtEnd have × AreToldInPart (lines_of read) held holds m last)))
