-- Runs of the program, of which a later one checks what earlier ones wrote.
use Rattle.std.proofs.Common.{◌≡◌, ◌∙◌, ℕ, List, [], ◌++◌, true, codes, Option, Some, None, Result, Ok, Err, IfErr, OnOk, inl, inr, refl, sym, subst, ap}
use Rattle.std.specs.Prelude.{◌⊎◌}
use Rattle.std.specs.Io.KnownBytes.{Appends}
use Rattle.picture.specs.declared.rgb.Rgb.{Rgb}
use Rattle.edits.specs.Design.{Design}
use Rattle.edits.specs.History.{History}
use Rattle.live_audit.specs.Bench.{Seen}
use Rattle.cert_text.specs.declared.cert_line.CellNumber.{CellNumber}
use Rattle.cert_text.specs.declared.fault.CertFault.{CertFault}
use Rattle.cert_text.specs.Cert.{Certificate}
use Rattle.cert_text.specs.Reading.{cert_of}
use Rattle.picture.specs.Document.{Content}
use Rattle.picture.specs.Rows.{Rows}
use Rattle.text_check.specs.declared.givens_fault.GivensFault.{GivensFault}
use Rattle.ppm_text.specs.declared.fault.PpmFault.{PpmFault}
use Rattle.ppm_text.specs.Ppm.{ppm_of}
use Rattle.live_audit.specs.Certify.{NamesMarks}
use Rattle.session.specs.Refusal.{memory_line}
use Rattle.session.specs.Session.{Runs}
use Rattle.program_options.specs.declared.fault.ProgramFault.{ProgramFault}
use Rattle.program_options.specs.declared.fault.ProgramFault.TheVariants.{Memory, Write}
use Rattle.program_options.specs.Faults.{check_fault_of}
use Rattle.program_options.specs.declared.options.Options.{Options}
use Rattle.program_options.specs.declared.options.ProveOptions.{ProveOptions}
use Rattle.text_check.specs.Check.{IsLemmaProofOf, IsOnlyPicture, IsProofOf, IsShownBy, accepted_text, published_in}
use Rattle.answers.specs.Check.{IsCheck, IsCheckOf, WritesBy}
use Rattle.answers.specs.Prove.{IsProveOf}
use Rattle.answers.specs.Start.{IsStarted}
use Rattle.command_line.specs.declared.words.Task.{Task}
use Rattle.command_line.specs.declared.words.Task.TheVariants.{Assess, Check, Clues, Help, Prove, Work}
use Rattle.command_text.specs.Words.{Texts}
use Rattle.program.specs.Endings.{status_after}
use Rattle.program.specs.Files.{HasFailed, Held, Holds, IsContent, IsUnread, IsUnreadFile}
use Rattle.program.specs.Run.{AnswersAll}
use Rattle.program.specs.Work.{CarriesOut}
use Rattle.program.specs.World.{IsStopped, World}
use Rattle.claims.specs.Laws.{AreAccepted, ArePublished, PairsAreAccepted as Published, background_in}
use Rattle.claims.specs.Printed.{HasWritten, OneFileIsOneDocument, StartedAreAccepted}
use Rattle.claims.specs.Proofs.{AreVerified, ProofsAreVerified}
use Rattle.claims.specs.Solution.{IsOnlyPublished}
use Rattle.claims.proofs.OutcomeLemmas.{fails}
use Rattle.claims.proofs.SolutionLemmas.{only_published}
use Rattle.claims.specs.Line.{HasLine}
use Rattle.claims.specs.Outcome.{Comes, IsDone, Opens}
use Rattle.claims.specs.Runs.{Accepts, AskOnly, Asked, IsCheckOn, IsCheckWith, IsHindered, IsProveOn, IsRun, IsWorkOn}
use Rattle.claims.specs.Runs.{PairsAreAccepted, ProofsAreAccepted, PublishedAreUnique, before_run}

-- ---- the task of a run

pub is_done : (r : Result (Unit {0}) ProgramFault) → status_after r ≡ 0 → r ≡ Ok tt
is_done (Ok it) e = refl
is_done (Err f) e = absurd (fails f e)

-- a run without an error carries out a task
pub done_task : (arguments : Texts) (held : List ℕ → Held) (before after : World) (r : Result (Unit {0}) ProgramFault) (Is : Task → Type 0) → AskOnly arguments Is
    → AnswersAll arguments held before after r → r ≡ Ok tt → (task : Task) × (Is task × CarriesOut held before after task (Ok tt))
done_task arguments held before after r Is only (inl short) ok = absurd (let is = short.is in cc)
done_task arguments held before after r Is only (inr (inl (f, (asks, c)))) ok = absurd (let is = c.is in cc)
done_task arguments held before after r Is only (inr (inr (task, (asks, c)))) ok =
    (task, (only.task task asks, subst (λ (x : Result (Unit {0}) ProgramFault). CarriesOut held before after task x) ok c))

-- ---- what names hold

pub content_is : (held : Held) (bytes file : List ℕ) → held ≡ Holds bytes → IsContent held file → file ≡ bytes
content_is held bytes file is content = subst (λ (h : Held). IsContent h file) is content

-- ---- a session that wrote a text

-- a bench was started with the file, and the session on it wrote the text
pub record IsSession (file : List ℕ) (options : Options) (input text : List ℕ) : Type 0 where
  pub fresh : Seen
  pub started : IsStarted file options fresh
  pub written : HasWritten input fresh text

session_of : (held : List ℕ → Held) (before after : World) (task : Task) (path : List ℕ) (options : Options) (file input text : List ℕ) → IsWorkOn path options task → held path ≡ Holds file
    → before.input ≡ Some input → before.output ≡ Some [] → after.output ≡ Some text → (text ≡ memory_line → ⊥) → CarriesOut held before after task (Ok tt) → IsSession file options input text
session_of held before after Clues path options file input text is holds had held_none wrote made c = absurd is
session_of held before after (Check file' cert givens background) path options file input text is holds had held_none wrote made c = absurd is
session_of held before after (Prove file' background single) path options file input text is holds had held_none wrote made c = absurd is
session_of held before after (Assess files asked with by) path options file input text is holds had held_none wrote made c = absurd is
session_of held before after (Help shown) path options file input text is holds had held_none wrote made c = absurd is
session_of held before after (Work file' chosen) path options file input text is holds had held_none wrote made (inl stopped) = absurd (let e = stopped.is in cc)
session_of held before after (Work file' chosen) path options file input text is holds had held_none wrote made (inr worked) =
    let same : worked.file ≡ file = content_is (held file'.now) file worked.file (ap held is.0 ∙ holds) worked.content in
    let w = worked.works in
    let S : List ℕ → Options → Type 0 = λ f o. IsStarted f o w.fresh in
    let started : IsStarted file options w.fresh = subst (S file) is.1 (subst (λ (f : List ℕ). S f chosen) same w.started) in
    let one : Runs (Some input) after.input before.output after.output w.fresh w.last (Ok tt) = subst (λ (x : Option (List ℕ)). Runs x after.input before.output after.output w.fresh w.last (Ok
    tt)) had w.runs in
    let two : Runs (Some input) after.input (Some []) after.output w.fresh w.last (Ok tt) = subst (λ (x : Option (List ℕ)). Runs (Some input) after.input x after.output w.fresh w.last (Ok tt))
    held_none one in
    let three : Runs (Some input) after.input (Some []) (Some text) w.fresh w.last (Ok tt) = subst (λ (x : Option (List ℕ)). Runs (Some input) after.input (Some []) x w.fresh w.last (Ok tt))
    wrote two in
    record { fresh = w.fresh; started = started; written = record { left = after.input; last = w.last; runs = three; made = made } }

session_run : (a : Asked) (input text : List ℕ) (status : ℕ) (path : List ℕ) (options : Options) (file : List ℕ) → AskOnly a.arguments (IsWorkOn path options) → a.held path ≡ Holds file
    → status ≡ 0 → (text ≡ memory_line → ⊥) → IsRun a input text status → IsSession file options input text
session_run a input text status path options file only holds well made run =
    let ok = is_done run.outcome (sym run.right_status ∙ well) in
    let t = done_task a.arguments a.held (before_run a input) run.after run.outcome (IsWorkOn path options) only run.answers ok in
    session_of a.held (before_run a input) run.after t.0 path options file input text t.1.0 holds refl refl run.output made t.1.1

-- ---- a run that checks

pub unread : (bytes : List ℕ) (held : Held) (fault : ProgramFault) → held ≡ Holds bytes → IsUnreadFile held fault → IsUnread (Some bytes) fault
unread bytes held fault is why = subst (λ (h : Held). IsUnreadFile h fault) is why

pub hindered_first : (picture cert : List ℕ) (before after : World) (fault : ProgramFault) → IsUnread (Some picture) fault → HasFailed before.faults after.faults fault
    → IsHindered picture cert before after fault
hindered_first picture cert before after fault (inl (is, long)) cause = inr (inr (inr (is, inl long)))
hindered_first picture cert before after fault (inr (inl is)) cause = inr (inr (inl (is, subst (HasFailed before.faults after.faults) is cause)))
hindered_first picture cert before after fault (inr (inr is)) cause = inl is

pub hindered_second : (picture cert : List ℕ) (before after : World) (fault : ProgramFault) → IsUnread (Some cert) fault → HasFailed before.faults after.faults fault
    → IsHindered picture cert before after fault
hindered_second picture cert before after fault (inl (is, long)) cause = inr (inr (inr (is, inr long)))
hindered_second picture cert before after fault (inr (inl is)) cause = inr (inr (inl (is, subst (HasFailed before.faults after.faults) is cause)))
hindered_second picture cert before after fault (inr (inr is)) cause = inl is

-- memory ran out, or the line could not be written
short : (picture cert : List ℕ) (before after : World) (r : Result (Unit {0}) ProgramFault) → IfErr r (λ (e : ProgramFault). (e ≡ Memory) ⊎ (e ≡ Write))
    → IfErr r (IsHindered picture cert before after)
short picture cert before after (Ok done) why = tt
short picture cert before after (Err f) (inl memory) = inl memory
short picture cert before after (Err f) (inr write) = inr (inl write)

-- what came of a check by its outcome: the line, or why it was hindered
abbrev Ends : List ℕ → List ℕ → World → World → Type 0 → Result (Unit {0}) ProgramFault → Type 0
Ends picture cert before after Line r = OnOk r Line × IfErr r (IsHindered picture cert before after)

by_fault : (picture cert : List ℕ) (before after : World) (Line : Type 0) (r : Result (Unit {0}) ProgramFault) (fault : ProgramFault) → r ≡ Err fault → IsHindered picture cert before after fault
    → Ends picture cert before after Line r
by_fault picture cert before after Line r fault is why =
    let P : Result (Unit {0}) ProgramFault → Type 0 = λ x. OnOk x Line × IfErr x (IsHindered picture cert before after) in
    subst P (sym is) (tt, why)

stopped_first : (picture cert : List ℕ) (held : Held) (paths : Texts) (before after : World) (Line : Type 0) (r : Result (Unit {0}) ProgramFault) → held ≡ Holds picture
    → IsStopped held paths before after r → Ends picture cert before after Line r
stopped_first picture cert held paths before after Line r holds s =
    by_fault picture cert before after Line r s.fault s.is (hindered_first picture cert before after s.fault (unread picture held s.fault holds s.unread) s.cause)

stopped_second : (picture cert : List ℕ) (held : Held) (paths : Texts) (before after : World) (Line : Type 0) (r : Result (Unit {0}) ProgramFault) → held ≡ Holds cert
    → IsStopped held paths before after r → Ends picture cert before after Line r
stopped_second picture cert held paths before after Line r holds s =
    by_fault picture cert before after Line r s.fault s.is (hindered_second picture cert before after s.fault (unread cert held s.fault holds s.unread) s.cause)

-- a run that is asked for a check ends as the check does, or memory ran out before
ended_as : (arguments : Texts) (held : List ℕ → Held) (before after : World) (r : Result (Unit {0}) ProgramFault) (Is : Task → Type 0) (picture cert : List ℕ) (Line : Type 0) → AskOnly arguments Is
    → ((task : Task) → Is task → CarriesOut held before after task r → Ends picture cert before after Line r)
    → AnswersAll arguments held before after r → Ends picture cert before after Line r
ended_as arguments held before after r Is picture cert Line only by (inl none) = by_fault picture cert before after Line r Memory none.is (inl refl)
ended_as arguments held before after r Is picture cert Line only by (inr (inl (f, (asks, c)))) = by_fault picture cert before after Line r f c.is (inl (only.taken f asks))
ended_as arguments held before after r Is picture cert Line only by (inr (inr (task, (asks, c)))) = by task (only.task task asks) c

accepts : (a : Asked) (picture cert text : List ℕ) (status : ℕ) (Line : Type 0) (after : World) (outcome : Result (Unit {0}) ProgramFault) → status ≡ status_after outcome
    → Ends picture cert (before_run a []) after Line outcome → Accepts a picture cert text status Line
accepts a picture cert text status Line after outcome is ends =
    record { after = after; outcome = outcome; right_status = is; accepts = ends.0; hindered = ends.1 }

-- ---- the line of a check

shown_once : (picture : Rows) (published : Result (Option (List CellNumber)) GivensFault) (cert : Result Certificate CertFault) (x y : List ℕ)
    → IsShownBy check_fault_of picture published cert (Ok x) → IsShownBy check_fault_of picture published cert (Ok y) → x ≡ y
shown_once picture (Err f) cert x y p q = absurd (let e = p in cc)
shown_once picture (Ok published) (Err f) x y p q = absurd (let e = p in cc)
shown_once picture (Ok published) (Ok c) x y p q = p.1 ∙ sym q.1

one_check : (a : Result Content PpmFault) (givens : Option (List ℕ)) (b : Result Certificate CertFault) (x y : List ℕ) → IsCheck a givens b (Ok x) → IsCheck a givens b (Ok y) → x ≡ y
one_check (Err f) givens b x y p q = absurd (let e = p in cc)
one_check (Ok d) givens b x y p q = shown_once d.rows (published_in d.rows givens) b x y p q

pub one_line : (file cert : List ℕ) (background : Option Rgb) (givens : Option (List ℕ)) (x y : List ℕ) → IsCheckOf file background givens cert (Ok x)
    → IsCheckOf file background givens cert (Ok y) → x ≡ y
one_line file cert background givens x y p q = one_check (ppm_of file background) givens (cert_of cert) x y p q

-- the line that was written where a check is Ok
pub has_line : (d : Design) (picture cert : List ℕ) (background : Option Rgb) (had has : Option (List ℕ)) (r : Result (Unit {0}) ProgramFault) (givens : List CellNumber)
    → NamesMarks d givens → IsCheckOf picture background None cert (Ok (accepted_text givens)) → WritesBy had has r (IsCheckOf picture background None cert) → OnOk r (HasLine d had has)
has_line d picture cert background had has (Err f) givens named check writes = tt
has_line d picture cert background had has (Ok done) givens named check (bytes, (is, out)) =
    record { givens = givens; named = named; went_out = subst (Appends had has) (one_line picture cert background None bytes (accepted_text givens) is check) out }

-- the same where the certificate has no givens
pub has_plain : (file cert : List ℕ) (background : Option Rgb) (had has : Option (List ℕ)) (r : Result (Unit {0}) ProgramFault)
    → IsCheckOf file background None cert (Ok (accepted_text [])) → WritesBy had has r (IsCheckOf file background None cert) → OnOk r (Appends had has (accepted_text []))
has_plain file cert background had has (Err f) check writes = tt
has_plain file cert background had has (Ok done) check (bytes, (is, out)) = subst (Appends had has) (one_line file cert background None bytes (accepted_text []) is check) out

-- the line for what a bench printed
pub printed_line : (s : Seen) (picture cert : List ℕ) (background : Rgb) (had has : Option (List ℕ)) (r : Result (Unit {0}) ProgramFault) → Published s → ArePublished s picture cert
    → background ≡ background_in s.history.document → WritesBy had has r (IsCheckOf picture (Some background) None cert) → OnOk r (HasLine s.history.document had has)
printed_line s picture cert background had has r law p same writes =
    let accepted = law picture cert p in
    let there : WritesBy had has r (IsCheckOf picture (Some (background_in s.history.document)) None cert) = subst (λ (b : Rgb). WritesBy had has r (IsCheckOf picture (Some b) None cert)) same writes in
    has_line s.history.document picture cert (Some (background_in s.history.document)) had has r accepted.found.givens accepted.givens accepted.check there

-- what a bench printed is a certificate that proves the picture
pub printed_proof : (s : Seen) (picture cert : List ℕ) (background : Rgb) → Published s → ArePublished s picture cert → background ≡ background_in s.history.document
    → IsProofOf picture (Some background) None cert
printed_proof s picture cert background law p same =
    subst (λ (b : Rgb). IsProofOf picture (Some b) None cert) (sym same) (law picture cert p).proof

-- ---- a pair

pair_ends : (before after : World) (r : Result (Unit {0}) ProgramFault) (picture cert text : List ℕ) (d : Design) (chosen : Option Rgb) (file certificate : List ℕ) → file ≡ picture
    → certificate ≡ cert
    → chosen ≡ Some (background_in d) → before.output ≡ Some [] → after.output ≡ Some text → AreAccepted d picture cert
    → WritesBy before.output after.output r (IsCheckOf file chosen None certificate) → (IsProofOf file chosen None certificate → IfErr r (λ (e : ProgramFault). (e ≡ Memory) ⊎ (e ≡ Write)))
    → Ends picture cert before after (HasLine d (Some []) (Some text)) r
pair_ends before after r picture cert text d chosen file certificate read read_cert same none wrote accepted writes only =
    let b : Option Rgb = Some (background_in d) in
    let W : List ℕ → List ℕ → Option Rgb → Option (List ℕ) → Option (List ℕ) → Type 0 = λ f c k x y. WritesBy x y r (IsCheckOf f k None c) in
    let P : List ℕ → List ℕ → Option Rgb → Type 0 = λ f c k. IsProofOf f k None c → IfErr r (λ (e : ProgramFault). (e ≡ Memory) ⊎ (e ≡ Write)) in
    let w1 : W picture certificate chosen before.output after.output = subst (λ (f : List ℕ). W f certificate chosen before.output after.output) read writes in
    let w2 : W picture cert chosen before.output after.output = subst (λ (c : List ℕ). W picture c chosen before.output after.output) read_cert w1 in
    let w3 : W picture cert b before.output after.output = subst (λ (k : Option Rgb). W picture cert k before.output after.output) same w2 in
    let w4 : W picture cert b (Some []) after.output = subst (λ (x : Option (List ℕ)). W picture cert b x after.output) none w3 in
    let w5 : W picture cert b (Some []) (Some text) = subst (λ (y : Option (List ℕ)). W picture cert b (Some []) y) wrote w4 in
    let p1 : P picture certificate chosen = subst (λ (f : List ℕ). P f certificate chosen) read only in
    let p2 : P picture cert chosen = subst (λ (c : List ℕ). P picture c chosen) read_cert p1 in
    let p3 : P picture cert b = subst (λ (k : Option Rgb). P picture cert k) same p2 in
    (has_line d picture cert b (Some []) (Some text) r accepted.found.givens accepted.givens accepted.check w5, short picture cert before after r (p3 accepted.proof))

checked : (held : List ℕ → Held) (before after : World) (task : Task) (r : Result (Unit {0}) ProgramFault) (path cert_path : List ℕ) (background : Option Rgb) (picture cert text : List ℕ) (d : Design)
    → held path ≡ Holds picture → held cert_path ≡ Holds cert → background ≡ Some (background_in d) → before.output ≡ Some [] → after.output ≡ Some text
    → AreAccepted d picture cert → IsCheckOn path cert_path background task → CarriesOut held before after task r → Ends picture cert before after (HasLine d (Some []) (Some text)) r
checked held before after Clues r path cert_path background picture cert text d first second same none wrote accepted is c = absurd is
checked held before after (Work file options) r path cert_path background picture cert text d first second same none wrote accepted is c = absurd is
checked held before after (Prove file chosen options) r path cert_path background picture cert text d first second same none wrote accepted is c = absurd is
checked held before after (Check file certificate (Some givens) chosen) r path cert_path background picture cert text d first second same none wrote accepted is c = absurd is
checked held before after (Assess files asked with by) r path cert_path background picture cert text d first second same none wrote accepted is c = absurd is
checked held before after (Help shown) r path cert_path background picture cert text d first second same none wrote accepted is c = absurd is
checked held before after (Check file certificate None chosen) r path cert_path background picture cert text d first second same none wrote accepted is (inl stopped) =
    stopped_first picture cert (held file.now) _ before after (HasLine d (Some []) (Some text)) r (ap held is.0 ∙ first) stopped
checked held before after (Check file certificate None chosen) r path cert_path background picture cert text d first second same none wrote accepted is (inr (inl half)) =
    stopped_second picture cert (held certificate.now) _ before after (HasLine d (Some []) (Some text)) r (ap held is.1.0 ∙ second) half.stopped
checked held before after (Check file certificate None chosen) r path cert_path background picture cert text d first second same none wrote accepted is (inr (inr c)) =
    let read : c.file ≡ picture = content_is (held file.now) picture c.file (ap held is.0 ∙ first) c.content in
    let read_cert : c.cert ≡ cert = content_is (held certificate.now) cert c.cert (ap held is.1.0 ∙ second) c.cert_content in
    pair_ends before after r picture cert text d chosen c.file c.cert read read_cert (is.1.1 ∙ same) none wrote accepted c.writes c.only

pub pairs : (writing certifying checking : Asked) (picture cert text : List ℕ) (written certified checked : ℕ) → StartedAreAccepted → OneFileIsOneDocument
    → IsRun writing (codes "write ppm\n") picture written → IsRun certifying (codes "certify\n") cert certified → IsRun checking [] text checked
    → PairsAreAccepted writing certifying checking picture cert text written certified checked
pairs writing certifying checking picture cert text written certified status started one_file write certify check p =
    let one = session_run writing (codes "write ppm\n") picture written p.path p.options p.file p.writes p.to_write p.written_well p.picture_is_made write in
    let other = session_run certifying (codes "certify\n") cert certified p.path p.options p.file p.certifies p.to_certify p.certified_well p.cert_is_made certify in
    let d = one.started.document in
    let there : AreAccepted one.fresh.history.document picture cert = started p.file p.options one.fresh one.started picture cert (record {
      at_picture = one.fresh;
      same_picture = refl;
      writes = one.written;
      at_cert = other.fresh;
      same_cert = one_file p.file p.options other.fresh one.fresh p.ppm other.started one.started;
      certifies = other.written;
      not_ambiguous = p.not_ambiguous;
    }) in
    let accepted : AreAccepted d picture cert = subst (λ (x : Design). AreAccepted x picture cert) (ap (λ (h : History). h.document) one.started.begins.history) there in
    let background : p.background ≡ Some (background_in d) = p.of_document d one.started.opens in
    let Is : Task → Type 0 = IsCheckOn p.picture_path p.cert_path p.background in
    let before = before_run checking [] in
    let ends : Ends picture cert before check.after (HasLine d (Some []) (Some text)) check.outcome =
    ended_as checking.arguments checking.held before check.after check.outcome Is picture cert (HasLine d (Some []) (Some text)) p.checks
    (λ task is c. checked checking.held before check.after task check.outcome p.picture_path p.cert_path p.background picture cert text d p.picture_is_held p.cert_is_held background refl
    check.output accepted is c)
    check.answers in
    (d, (one.started.opens, accepts checking picture cert text status (HasLine d (Some []) (Some text)) check.after check.outcome check.right_status ends))

-- ---- a certificate that is made

-- a certificate that was written for a file, in one of the forms
abbrev IsMade : List ℕ → Option Rgb → List ℕ → Type 0
IsMade file background text = (options : ProveOptions) × ((options.background ≡ background) × IsProveOf file None options (Ok (text, true)))

made_by_run : (held : List ℕ → Held) (before after : World) (task : Task) (path : List ℕ) (background : Option Rgb) (file text : List ℕ) → held path ≡ Holds file
    → before.output ≡ Some [] → after.output ≡ Some text → IsProveOn path background task → CarriesOut held before after task (Ok tt) → IsMade file background text
made_by_run held before after Clues path background file text holds none wrote is c = absurd is
made_by_run held before after (Work file' options) path background file text holds none wrote is c = absurd is
made_by_run held before after (Check file' cert givens chosen) path background file text holds none wrote is c = absurd is
made_by_run held before after (Assess files asked with by) path background file text holds none wrote is c = absurd is
made_by_run held before after (Help shown) path background file text holds none wrote is c = absurd is
made_by_run held before after (Prove file' (Some givens) options) path background file text holds none wrote is c = absurd is
made_by_run held before after (Prove file' None options) path background file text holds none wrote is (inl stopped) = absurd (let e = stopped.is in cc)
made_by_run held before after (Prove file' None options) path background file text holds none wrote is (inr c) =
    let read : c.file ≡ file = content_is (held file'.now) file c.file (ap held is.0 ∙ holds) c.content in
    let bytes = c.writes.0 in
    let shown : IsProveOf file None options (Ok (bytes, true)) = subst (λ (f : List ℕ). IsProveOf f None options (Ok (bytes, true))) read c.writes.1.0 in
    let A : Option (List ℕ) → Option (List ℕ) → Type 0 = λ x y. Appends x y bytes in
    let out : text ≡ [] ++ bytes = subst (λ (y : Option (List ℕ)). A (Some []) y) wrote (subst (λ (x : Option (List ℕ)). A x after.output) none c.writes.1.1) in
    (options, (is.1, subst (λ (t : List ℕ). IsProveOf file None options (Ok (t, true))) (sym out) shown))

plain_ends : (before after : World) (r : Result (Unit {0}) ProgramFault) (file cert text : List ℕ) (background chosen : Option Rgb) (seen cert_seen : List ℕ) → seen ≡ file → cert_seen ≡ cert
    → chosen ≡ background → before.output ≡ Some [] → after.output ≡ Some text → AreVerified file background cert
    → WritesBy before.output after.output r (IsCheckOf seen chosen None cert_seen) → (IsLemmaProofOf seen chosen None cert_seen → IfErr r (λ (e : ProgramFault). (e ≡ Memory) ⊎ (e ≡ Write)))
    → Ends file cert before after (text ≡ codes "certificate accepted\n") r
plain_ends before after r file cert text background chosen seen cert_seen read read_cert same none wrote accepted writes only =
    let W : List ℕ → List ℕ → Option Rgb → Option (List ℕ) → Option (List ℕ) → Type 0 = λ f c k x y. WritesBy x y r (IsCheckOf f k None c) in
    let P : List ℕ → List ℕ → Option Rgb → Type 0 = λ f c k. IsLemmaProofOf f k None c → IfErr r (λ (e : ProgramFault). (e ≡ Memory) ⊎ (e ≡ Write)) in
    let w1 : W file cert_seen chosen before.output after.output = subst (λ (f : List ℕ). W f cert_seen chosen before.output after.output) read writes in
    let w2 : W file cert chosen before.output after.output = subst (λ (c : List ℕ). W file c chosen before.output after.output) read_cert w1 in
    let w3 : W file cert background before.output after.output = subst (λ (k : Option Rgb). W file cert k before.output after.output) same w2 in
    let w4 : W file cert background (Some []) after.output = subst (λ (x : Option (List ℕ)). W file cert background x after.output) none w3 in
    let w5 : W file cert background (Some []) (Some text) = subst (λ (y : Option (List ℕ)). W file cert background (Some []) y) wrote w4 in
    let p1 : P file cert_seen chosen = subst (λ (f : List ℕ). P f cert_seen chosen) read only in
    let p2 : P file cert chosen = subst (λ (c : List ℕ). P file c chosen) read_cert p1 in
    let p3 : P file cert background = subst (λ (k : Option Rgb). P file cert k) same p2 in
    (has_plain file cert background (Some []) (Some text) r accepted.check w5, short file cert before after r (p3 accepted.proof))

plain : (held : List ℕ → Held) (before after : World) (task : Task) (r : Result (Unit {0}) ProgramFault) (path cert_path : List ℕ) (background : Option Rgb) (file cert text : List ℕ)
    → held path ≡ Holds file → held cert_path ≡ Holds cert → before.output ≡ Some [] → after.output ≡ Some text
    → AreVerified file background cert → IsCheckOn path cert_path background task → CarriesOut held before after task r → Ends file cert before after (text ≡ codes "certificate accepted\n") r
plain held before after Clues r path cert_path background file cert text first second none wrote accepted is c = absurd is
plain held before after (Work file' options) r path cert_path background file cert text first second none wrote accepted is c = absurd is
plain held before after (Prove file' chosen options) r path cert_path background file cert text first second none wrote accepted is c = absurd is
plain held before after (Check file' cert' (Some givens) chosen) r path cert_path background file cert text first second none wrote accepted is c = absurd is
plain held before after (Assess files asked with by) r path cert_path background file cert text first second none wrote accepted is c = absurd is
plain held before after (Help shown) r path cert_path background file cert text first second none wrote accepted is c = absurd is
plain held before after (Check file' cert' None chosen) r path cert_path background file cert text first second none wrote accepted is (inl stopped) =
    stopped_first file cert (held file'.now) _ before after (text ≡ codes "certificate accepted\n") r (ap held is.0 ∙ first) stopped
plain held before after (Check file' cert' None chosen) r path cert_path background file cert text first second none wrote accepted is (inr (inl half)) =
    stopped_second file cert (held cert'.now) _ before after (text ≡ codes "certificate accepted\n") r (ap held is.1.0 ∙ second) half.stopped
plain held before after (Check file' cert' None chosen) r path cert_path background file cert text first second none wrote accepted is (inr (inr c)) =
    let read : c.file ≡ file = content_is (held file'.now) file c.file (ap held is.0 ∙ first) c.content in
    let read_cert : c.cert ≡ cert = content_is (held cert'.now) cert c.cert (ap held is.1.0 ∙ second) c.cert_content in
    plain_ends before after r file cert text background chosen c.file c.cert read read_cert is.1.1 none wrote accepted c.writes c.only_lemmas

pub proofs : (proving checking : Asked) (cert text : List ℕ) (proved checked : ℕ) → ProofsAreVerified → IsRun proving [] cert proved → IsRun checking [] text checked
    → ProofsAreAccepted proving checking cert text proved checked
proofs proving checking cert text proved status law prove check p =
    let ok = is_done prove.outcome (sym prove.right_status ∙ p.proved_well) in
    let t = done_task proving.arguments proving.held (before_run proving []) prove.after prove.outcome (IsProveOn p.path p.background) p.proves prove.answers ok in
    let made : IsMade p.file p.background cert = made_by_run proving.held (before_run proving []) prove.after t.0 p.path p.background p.file cert p.to_prove refl prove.output t.1.0 t.1.1 in
    let accepted : AreVerified p.file p.background cert = subst (λ (k : Option Rgb). AreVerified p.file k cert) made.1.0 (law p.file made.0 cert made.1.1) in
    let Is : Task → Type 0 = IsCheckOn p.picture_path p.cert_path p.background in
    let before = before_run checking [] in
    let ends : Ends p.file cert before check.after (text ≡ codes "certificate accepted\n") check.outcome =
    ended_as checking.arguments checking.held before check.after check.outcome Is p.file cert (text ≡ codes "certificate accepted\n") p.checks
    (λ task is c. plain checking.held before check.after task check.outcome p.picture_path p.cert_path p.background p.file cert text p.file_is_held p.cert_is_held refl check.output
    accepted is c)
    check.answers in
    accepts checking p.file cert text status (text ≡ codes "certificate accepted\n") check.after check.outcome check.right_status ends

-- the line of a check with published givens
pub has_published : (file givens cert : List ℕ) (background : Option Rgb) (named : List CellNumber) (had has : Option (List ℕ)) (r : Result (Unit {0}) ProgramFault)
    → IsCheckOf file background (Some givens) cert (Ok (accepted_text named)) → WritesBy had has r (IsCheckOf file background (Some givens) cert)
    → OnOk r ((cells : List CellNumber) × Appends had has (accepted_text cells))
has_published file givens cert background named had has (Err f) check writes = tt
has_published file givens cert background named had has (Ok done) check (bytes, (is, out)) =
    (named, subst (Appends had has) (one_line file cert background (Some givens) bytes (accepted_text named) is check) out)

-- ---- a check with the givens that are published

only_task : (held : List ℕ → Held) (before after : World) (task : Task) (path cert_path givens_path : List ℕ) (background : Option Rgb) (file givens : List ℕ)
    → IsCheckWith path cert_path givens_path background task → held path ≡ Holds file → held givens_path ≡ Holds givens → IsDone held before after task → IsOnlyPublished file background givens
only_task held before after Clues path cert_path givens_path background file givens is first last done = absurd is
only_task held before after (Work file' options) path cert_path givens_path background file givens is first last done = absurd is
only_task held before after (Prove file' chosen options) path cert_path givens_path background file givens is first last done = absurd is
only_task held before after (Check file' cert' None chosen) path cert_path givens_path background file givens is first last done = absurd is
only_task held before after (Assess files asked with by) path cert_path givens_path background file givens is first last done = absurd is
only_task held before after (Help shown) path cert_path givens_path background file givens is first last done = absurd is
only_task held before after (Check file' cert' (Some givens') chosen) path cert_path givens_path background file givens is first last done =
    let read : done.file ≡ file = content_is (held file'.now) file done.file (ap held is.0 ∙ first) done.content in
    let read_givens : done.givens ≡ givens = content_is (held givens'.now) givens done.givens (ap held is.1.1.0 ∙ last) done.givens_content in
    let one : IsOnlyPicture file chosen (Some done.givens) done.cert = subst (λ (f : List ℕ). IsOnlyPicture f chosen (Some done.givens) done.cert) read done.only in
    let two : IsOnlyPicture file chosen (Some givens) done.cert = subst (λ (g : List ℕ). IsOnlyPicture file chosen (Some g) done.cert) read_givens one in
    only_published file background givens done.cert (subst (λ (k : Option Rgb). IsOnlyPicture file k (Some givens) done.cert) is.1.1.1 two)

opened_unique : (arguments : Texts) (held : List ℕ → Held) (before after : World) (status : ℕ) (path cert_path givens_path : List ℕ) (background : Option Rgb) (file givens : List ℕ)
    → AskOnly arguments (IsCheckWith path cert_path givens_path background) → held path ≡ Holds file → held givens_path ≡ Holds givens → status ≡ 0 → Opens arguments held before after status
    → IsOnlyPublished file background givens
opened_unique arguments held before after status path cert_path givens_path background file givens asks first last well (inl none) = absurd (none.1 well)
opened_unique arguments held before after status path cert_path givens_path background file givens asks first last well (inr (task, (asked, (count, (names, done))))) =
    only_task held before after task path cert_path givens_path background file givens (asks.task task asked) first last (done well)

pub published_unique : (arguments : Texts) (held : List ℕ → Held) (before after : World) (status : ℕ) → Comes arguments held before after status → PublishedAreUnique arguments held status
published_unique arguments held before after status comes path cert_path givens_path background file givens asks first last well =
    opened_unique arguments held before after status path cert_path givens_path background file givens asks first last well comes.opens
