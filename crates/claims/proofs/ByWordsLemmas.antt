-- What comes of runs whose arguments are known words.
use Rattle.std.proofs.Common.{◌≡◌, ◌∙◌, ℕ, List, [], ◌∷◌, ◌++◌, codes, Option, None, Some, Result, Ok, Err, IfErr, OnOk, inl, inr, refl, sym, subst, ap, true, false, true≢false}
use Rattle.std.specs.Prelude.{◌⊎◌}
use Rattle.std.specs.Io.KnownBytes.{Appends}
use Rattle.picture.specs.declared.rgb.Rgb.{Rgb}
use Rattle.picture.specs.Document.{Content}
use Rattle.picture.specs.Rows.{Rows}
use Rattle.ppm_text.specs.declared.fault.PpmFault.{PpmFault}
use Rattle.ppm_text.specs.Ppm.{ppm_of}
use Rattle.program_options.specs.declared.assessing.AssessOptions.{AssessOptions}
use Rattle.program_options.specs.declared.fault.ProgramFault.{ProgramFault}
use Rattle.program_options.specs.declared.fault.ProgramFault.TheVariants.{Memory, NoCertificate, Write}
use Rattle.program_options.specs.declared.options.Options.{Options}
use Rattle.program_options.specs.declared.options.ProveOptions.{ProveOptions}
use Rattle.text_check.specs.Check.{IsLemmaProofOf, IsOnlyPicture}
use Rattle.answers.specs.Check.{IsCheckOf, WritesBy}
use Rattle.answers.specs.Prove.{IsProve, IsProveOf, WritesProof}
use Rattle.command_line.specs.declared.words.Task.{Task}
use Rattle.command_line.specs.declared.words.Task.TheVariants.{Assess, Check, Clues, Help, Prove, Work}
use Rattle.command_line.specs.Laws.{AskFor, IsAssessBy, IsCheckBy, IsPlain, IsProveBy, IsWorkBy, WordsAreKnown, complete_search, default_assessment, default_options, default_search}
use Rattle.command_text.specs.Words.{Texts}
use Rattle.program.specs.Files.{HasFailed, Held, Holds, IsUnread}
use Rattle.program.specs.Run.{AnswersAll}
use Rattle.program.specs.Work.{CarriesOut}
use Rattle.program.specs.World.{World}
use Rattle.claims.specs.Proofs.{AreVerifiedWith, ProofsAreVerified, PublishedProofsAreVerified}
use Rattle.claims.specs.Solution.{HasOneSolution}
use Rattle.claims.specs.ByWords.{AssessedByWords, CheckedAreUnique, CompleteRunsDecide, IsDenied, IsKept, GivenProofsByWords, IsAccepting, IsHinderedWith, PairsByWords, ProofsByWords, PublishedByWords}
use Rattle.claims.specs.Outcome.{Comes, IsDone, Opens}
use Rattle.claims.specs.Runs.{AskOnly, Asked, AssessedAreFit, IsAssessOn, IsCheckOn, IsCheckWith, IsProveOn, IsRun, IsWorkOn, PairsAreAccepted, ProofsAreAccepted}
use Rattle.claims.specs.Runs.{PublishedAreUnique, before_run}
use Rattle.claims.proofs.RunLemmas.{content_is, done_task, has_published, hindered_first, hindered_second, is_done, unread}

-- ---- the words ask for one task

only_by : (word : List ℕ) (words arguments : Texts) (By Is : Task → Type 0) → arguments ≡ word ∷ words → AskFor (word ∷ words) By → ((task : Task) → By task → Is task) → AskOnly arguments Is
only_by word words arguments By Is same law into =
    let there : AskOnly (word ∷ words) Is = record { taken = λ fault asks. law (Err fault) asks; task = λ task asks. into task (law (Ok task) asks) } in
    subst (λ (a : Texts). AskOnly a Is) (sym same) there

work_task : (path : List ℕ) (options : Options) (task : Task) → IsWorkBy path options task → IsWorkOn path options task
work_task path options (Work file chosen) is = is
work_task path options task is = absurd is

check_task : (path cert_path : List ℕ) (background : Option Rgb) (task : Task) → IsCheckBy path cert_path None background task → IsCheckOn path cert_path background task
check_task path cert_path background (Check file cert None chosen) is = (is.0, (is.1.0, is.1.1.1))
check_task path cert_path background (Check file cert (Some givens) chosen) is = absurd (let e = is.1.1.0 in cc)
check_task path cert_path background task is = absurd is

given_path : (a b : List ℕ) → Some a ≡ Some b → a ≡ b
given_path a b e = cc

check_task_with : (path cert_path givens_path : List ℕ) (background : Option Rgb) (task : Task) → IsCheckBy path cert_path (Some givens_path) background task
    → IsCheckWith path cert_path givens_path background task
check_task_with path cert_path givens_path background (Check file cert None chosen) is = absurd (let e = is.1.1.0 in cc)
check_task_with path cert_path givens_path background (Check file cert (Some givens) chosen) is = (is.0, (is.1.0, (given_path givens.now givens_path is.1.1.0, is.1.1.1)))
check_task_with path cert_path givens_path background task is = absurd is

prove_task : (path : List ℕ) (options : ProveOptions) (task : Task) → IsProveBy path None options task → IsProveOn path options.background task
prove_task path options (Prove file None chosen) is = (is.0, ap (λ (o : ProveOptions). o.background) is.1.1)
prove_task path options (Prove file (Some givens) chosen) is = absurd (let e = is.1.0 in cc)
prove_task path options task is = absurd is

assess_task : (paths : Texts) (options : AssessOptions) (task : Task) → IsAssessBy paths options task → IsAssessOn paths None None options task
assess_task paths options (Assess files chosen givens cert) is = is
assess_task paths options task is = absurd is

-- ---- one run

pub published_words : (arguments : Texts) (held : List ℕ → Held) (status : ℕ) → WordsAreKnown → PublishedAreUnique arguments held status → PublishedByWords arguments held status
published_words arguments held status law general path cert_path givens_path file givens p c g same first last well =
    general path cert_path givens_path None file givens
    (only_by _ _ arguments (IsCheckBy path cert_path (Some givens_path) None) (IsCheckWith path cert_path givens_path None) same (law.check_with givens_path path cert_path g p c)
    (check_task_with path cert_path givens_path None))
    first last well

pub assessed_words : (arguments : Texts) (held : List ℕ → Held) (status : ℕ) → WordsAreKnown → AssessedAreFit arguments held status → AssessedByWords arguments held status
assessed_words arguments held status law general path paths few p all same well =
    general (path ∷ paths) None None default_assessment None None
    (only_by _ _ arguments (IsAssessBy (path ∷ paths) default_assessment) (IsAssessOn (path ∷ paths) None None default_assessment) same (law.assess path paths few p all)
    (assess_task (path ∷ paths) default_assessment))
    refl refl well

only_picture : (held : List ℕ → Held) (before after : World) (task : Task) (path cert_path file cert : List ℕ) → IsCheckOn path cert_path None task → held path ≡ Holds file
    → held cert_path ≡ Holds cert → IsDone held before after task → IsOnlyPicture file None None cert
only_picture held before after (Check file' cert' None chosen) path cert_path file cert is first second done =
    let read : done.file ≡ file = content_is (held file'.now) file done.file (ap held is.0 ∙ first) done.content in
    let read_cert : done.cert ≡ cert = content_is (held cert'.now) cert done.cert (ap held is.1.0 ∙ second) done.cert_content in
    let one : IsOnlyPicture file chosen None done.cert = subst (λ (f : List ℕ). IsOnlyPicture f chosen None done.cert) read done.only in
    let two : IsOnlyPicture file chosen None cert = subst (λ (c : List ℕ). IsOnlyPicture file chosen None c) read_cert one in
    subst (λ (k : Option Rgb). IsOnlyPicture file k None cert) is.1.1 two
only_picture held before after (Check file' cert' (Some givens) chosen) path cert_path file cert is first second done = absurd is
only_picture held before after Clues path cert_path file cert is first second done = absurd is
only_picture held before after (Work file' options) path cert_path file cert is first second done = absurd is
only_picture held before after (Prove file' givens options) path cert_path file cert is first second done = absurd is
only_picture held before after (Assess files asked with by) path cert_path file cert is first second done = absurd is
only_picture held before after (Help shown) path cert_path file cert is first second done = absurd is

opened_picture : (arguments : Texts) (held : List ℕ → Held) (before after : World) (status : ℕ) (path cert_path file cert : List ℕ) → AskOnly arguments (IsCheckOn path cert_path None)
    → held path ≡ Holds file → held cert_path ≡ Holds cert → status ≡ 0 → Opens arguments held before after status → IsOnlyPicture file None None cert
opened_picture arguments held before after status path cert_path file cert asks first second well (inl none) = absurd (none.1 well)
opened_picture arguments held before after status path cert_path file cert asks first second well (inr (task, (asked, (count, (names, done))))) =
    only_picture held before after task path cert_path file cert (asks.task task asked) first second (done well)

pub checked_words : (arguments : Texts) (held : List ℕ → Held) (before after : World) (status : ℕ) → WordsAreKnown → Comes arguments held before after status → CheckedAreUnique arguments held status
checked_words arguments held before after status law comes path cert_path file cert p c same first second well =
    opened_picture arguments held before after status path cert_path file cert
    (only_by _ _ arguments (IsCheckBy path cert_path None None) (IsCheckOn path cert_path None) same (law.check path cert_path p c) (check_task path cert_path None))
    first second well comes.opens

-- ---- pairs and certificates

pub pairs_words : (writing certifying checking : Asked) (picture cert text : List ℕ) (written certified checked : ℕ) → WordsAreKnown
    → PairsAreAccepted writing certifying checking picture cert text written certified checked → PairsByWords writing certifying checking picture cert text written certified checked
pairs_words writing certifying checking picture cert text written certified checked law general p = general (record {
  path = p.path;
  options = default_options;
  file = p.file;
  ppm = refl;
  writes = only_by _ _ writing.arguments (IsWorkBy p.path default_options) (IsWorkOn p.path default_options) p.writes (law.work p.path p.plain) (work_task p.path default_options);
  certifies = only_by _ _ certifying.arguments (IsWorkBy p.path default_options) (IsWorkOn p.path default_options) p.certifies (law.work p.path p.plain) (work_task p.path default_options);
  to_write = p.to_write;
  to_certify = p.to_certify;
  picture_path = p.picture_path;
  cert_path = p.cert_path;
  background = Some p.rgb;
  of_document = λ d opens. ap Some (p.of_document d opens);
  checks = only_by _ _ checking.arguments (IsCheckBy p.picture_path p.cert_path None (Some p.rgb)) (IsCheckOn p.picture_path p.cert_path (Some p.rgb)) p.checks
      (law.check_on p.colour p.picture_path p.cert_path p.rgb p.names p.plain_colour p.plain_picture p.plain_cert) (check_task p.picture_path p.cert_path (Some p.rgb));
  picture_is_held = p.picture_is_held;
  cert_is_held = p.cert_is_held;
  written_well = p.written_well;
  certified_well = p.certified_well;
  picture_is_made = p.picture_is_made;
  cert_is_made = p.cert_is_made;
  not_ambiguous = p.not_ambiguous;
})

proves_by : (arguments : Texts) (path : List ℕ) → WordsAreKnown → IsPlain path → (arguments ≡ codes "prove" ∷ path ∷ []) ⊎ (arguments ≡ codes "prove" ∷ codes "--complete" ∷ path ∷ [])
    → AskOnly arguments (IsProveOn path None)
proves_by arguments path law p (inl same) = only_by _ _ arguments (IsProveBy path None default_search) (IsProveOn path None) same (law.prove path p) (prove_task path default_search)
proves_by arguments path law p (inr same) = only_by _ _ arguments (IsProveBy path None complete_search) (IsProveOn path None) same (law.prove_complete path p) (prove_task path complete_search)

pub proofs_words : (proving checking : Asked) (cert text : List ℕ) (proved checked : ℕ) → WordsAreKnown → ProofsAreAccepted proving checking cert text proved checked
    → ProofsByWords proving checking cert text proved checked
proofs_words proving checking cert text proved checked law general p = general (record {
  path = p.path;
  file = p.file;
  background = None;
  proves = proves_by proving.arguments p.path law p.plain p.proves;
  to_prove = p.to_prove;
  picture_path = p.picture_path;
  cert_path = p.cert_path;
  checks = only_by _ _ checking.arguments (IsCheckBy p.picture_path p.cert_path None None) (IsCheckOn p.picture_path p.cert_path None) p.checks
      (law.check p.picture_path p.cert_path p.plain_picture p.plain_cert) (check_task p.picture_path p.cert_path None);
  file_is_held = p.file_is_held;
  cert_is_held = p.cert_is_held;
  proved_well = p.proved_well;
})

-- ---- a complete search

kept_first : (file : List ℕ) (before after : World) (fault : ProgramFault) → IsUnread (Some file) fault → HasFailed before.faults after.faults fault → IsKept file before after fault
kept_first file before after fault (inl (is, long)) cause = inr (inr (inr (is, long)))
kept_first file before after fault (inr (inl is)) cause = inr (inr (inl (is, subst (HasFailed before.faults after.faults) is cause)))
kept_first file before after fault (inr (inr is)) cause = inl is

-- what is said of the outcome
abbrev Decided : List ℕ → List ℕ → Rows → World → World → Result (Unit {0}) ProgramFault → Type 0
Decided file text rows before after r =
    OnOk r (HasOneSolution file None) × IfErr r (λ (fault : ProgramFault). IsDenied rows text fault ⊎ IsKept file before after fault)

by_error : (file text : List ℕ) (rows : Rows) (before after : World) (r : Result (Unit {0}) ProgramFault) (fault : ProgramFault) → r ≡ Err fault → IsKept file before after fault
    → Decided file text rows before after r
by_error file text rows before after r fault is why = subst (Decided file text rows before after) (sym is) (tt, inr why)

-- a word in a certificate's place, where the search was complete
denied : (content : Result Content PpmFault) (document : Content) (options : ProveOptions) (shown text : List ℕ) (fault : ProgramFault) → content ≡ Ok document → options.complete ≡ true → fault ≡ NoCertificate
    → text ≡ shown → IsProve content None options (Ok (shown, false)) → IsDenied document.rows text fault
denied content document options shown text fault reads complete is same proves =
    by (subst (λ (x : Result Content PpmFault). IsProve x None options (Ok (shown, false))) reads proves)
  where
    by : IsProve (Ok document) None options (Ok (shown, false)) → IsDenied document.rows text fault
    by (inl ambiguous) = (is, (same ∙ ambiguous.0, ambiguous.1))
    by (inr undecided) = absurd (true≢false (sym complete ∙ undecided.1))

no_error : (content : Result Content PpmFault) (document : Content) (options : ProveOptions) (fault : ProgramFault) → content ≡ Ok document → IsProve content None options (Err fault) → ⊥
no_error content document options fault reads proves = subst (λ (x : Result Content PpmFault). IsProve x None options (Err fault)) reads proves

module _ (law : ProofsAreVerified) (file text : List ℕ) (document : Content) (reads : ppm_of file None ≡ Ok document) (before after : World) where
  written_by : (options : ProveOptions) (r : Result (Unit {0}) ProgramFault) → options ≡ complete_search → WritesProof (Some []) (Some text) r (IsProveOf file None options)
      → Decided file text document.rows before after r
  written_by options (Ok done) same (bytes, (shown, out)) =
      let there : IsProveOf file None complete_search (Ok (bytes, true)) = subst (λ (o : ProveOptions). IsProveOf file None o (Ok (bytes, true))) same shown in
      ((law file complete_search bytes there).one, tt)
  written_by options (Err fault) same (inl (bytes, (is, (shown, out)))) =
      let there : IsProveOf file None complete_search (Ok (bytes, false)) = subst (λ (o : ProveOptions). IsProveOf file None o (Ok (bytes, false))) same shown in
      (tt, inl (denied (ppm_of file None) document complete_search bytes text fault reads refl is out there))
  written_by options (Err fault) same (inr (inl (bytes, (is, more)))) = (tt, inr (inr (inl is)))
  written_by options (Err fault) same (inr (inr (inl memory, keeps))) = (tt, inr (inl memory))
  written_by options (Err fault) same (inr (inr (inr shown, keeps))) =
      let there : IsProveOf file None complete_search (Err fault) = subst (λ (o : ProveOptions). IsProveOf file None o (Err fault)) same shown in
      absurd (no_error (ppm_of file None) document complete_search fault reads there)

  decided_by : (held : List ℕ → Held) (task : Task) (r : Result (Unit {0}) ProgramFault) (path : List ℕ) → held path ≡ Holds file → before.output ≡ Some [] → after.output ≡ Some text
      → IsProveBy path None complete_search task → CarriesOut held before after task r → Decided file text document.rows before after r
  decided_by held (Prove file' None options) r path first none wrote is (inl stopped) =
      by_error file text document.rows before after r stopped.fault stopped.is (kept_first file before after stopped.fault (unread file (held file'.now) stopped.fault (ap held is.0 ∙ first) stopped.unread) stopped.cause)
  decided_by held (Prove file' None options) r path first none wrote is (inr c) =
      let read : c.file ≡ file = content_is (held file'.now) file c.file (ap held is.0 ∙ first) c.content in
      let W : List ℕ → Option (List ℕ) → Option (List ℕ) → Type 0 = λ f x y. WritesProof x y r (IsProveOf f None options) in
      let w1 : W file before.output after.output = subst (λ (f : List ℕ). W f before.output after.output) read c.writes in
      let w2 : W file (Some []) after.output = subst (λ (x : Option (List ℕ)). W file x after.output) none w1 in
      let w3 : W file (Some []) (Some text) = subst (λ (y : Option (List ℕ)). W file (Some []) y) wrote w2 in
      written_by options r is.1.1 w3
  decided_by held (Prove file' (Some givens) options) r path first none wrote is c = absurd (let e = is.1.0 in cc)
  decided_by held Clues r path first none wrote is c = absurd is
  decided_by held (Work file' options) r path first none wrote is c = absurd is
  decided_by held (Check file' cert' givens chosen) r path first none wrote is c = absurd is
  decided_by held (Assess files asked with by) r path first none wrote is c = absurd is
  decided_by held (Help shown) r path first none wrote is c = absurd is

  decided_as : (arguments : Texts) (held : List ℕ → Held) (r : Result (Unit {0}) ProgramFault) (path : List ℕ) → held path ≡ Holds file → before.output ≡ Some [] → after.output ≡ Some text
      → AskOnly arguments (IsProveBy path None complete_search) → AnswersAll arguments held before after r → Decided file text document.rows before after r
  decided_as arguments held r path first none wrote only (inl short) = by_error file text document.rows before after r Memory short.is (inl refl)
  decided_as arguments held r path first none wrote only (inr (inl (f, (asks, c)))) = by_error file text document.rows before after r f c.is (inl (only.taken f asks))
  decided_as arguments held r path first none wrote only (inr (inr (task, (asks, c)))) = decided_by held task r path first none wrote (only.task task asks) c

pub complete_runs : (a : Asked) (text : List ℕ) (status : ℕ) → WordsAreKnown → ProofsAreVerified → IsRun a [] text status → CompleteRunsDecide a text status
complete_runs a text status law verified run path file document p same first reads =
    let only : AskOnly a.arguments (IsProveBy path None complete_search) = only_by _ _ a.arguments (IsProveBy path None complete_search) (IsProveBy path None complete_search) same (law.prove_complete path p) (λ task is. is) in
    let ends = decided_as verified file text document reads (before_run a []) run.after a.arguments a.held run.outcome path first refl run.output only run.answers in
    record { after = run.after; outcome = run.outcome; right_status = run.right_status; unique = ends.0; other = ends.1 }

-- ---- a certificate with published givens

made_with : (held : List ℕ → Held) (before after : World) (task : Task) (path givens_path file givens text : List ℕ) → held path ≡ Holds file → held givens_path ≡ Holds givens
    → before.output ≡ Some [] → after.output ≡ Some text → IsProveBy path (Some givens_path) default_search task → CarriesOut held before after task (Ok tt)
    → IsProveOf file (Some givens) default_search (Ok (text, true))
made_with held before after (Prove file' (Some givens') options) path givens_path file givens text first last none wrote is (inl stopped) = absurd (let e = stopped.is in cc)
made_with held before after (Prove file' (Some givens') options) path givens_path file givens text first last none wrote is (inr (inl half)) = absurd (let e = half.stopped.is in cc)
made_with held before after (Prove file' (Some givens') options) path givens_path file givens text first last none wrote is (inr (inr c)) =
    let read : c.file ≡ file = content_is (held file'.now) file c.file (ap held is.0 ∙ first) c.content in
    let read_givens : c.givens ≡ givens = content_is (held givens'.now) givens c.givens (ap held (given_path givens'.now givens_path is.1.0) ∙ last) c.givens_content in
    let bytes = c.writes.0 in
    let P : List ℕ → List ℕ → ProveOptions → List ℕ → Type 0 = λ f g o t. IsProveOf f (Some g) o (Ok (t, true)) in
    let p1 : P file c.givens options bytes = subst (λ (f : List ℕ). P f c.givens options bytes) read c.writes.1.0 in
    let p2 : P file givens options bytes = subst (λ (g : List ℕ). P file g options bytes) read_givens p1 in
    let p3 : P file givens default_search bytes = subst (λ (o : ProveOptions). P file givens o bytes) is.1.1 p2 in
    let A : Option (List ℕ) → Option (List ℕ) → Type 0 = λ x y. Appends x y bytes in
    let out : text ≡ [] ++ bytes = subst (λ (y : Option (List ℕ)). A (Some []) y) wrote (subst (λ (x : Option (List ℕ)). A x after.output) none c.writes.1.1) in
    subst (λ (t : List ℕ). P file givens default_search t) (sym out) p3
made_with held before after (Prove file' None options) path givens_path file givens text first last none wrote is c = absurd (let e = is.1.0 in cc)
made_with held before after Clues path givens_path file givens text first last none wrote is c = absurd is
made_with held before after (Work file' options) path givens_path file givens text first last none wrote is c = absurd is
made_with held before after (Check file' cert' givens' chosen) path givens_path file givens text first last none wrote is c = absurd is
made_with held before after (Assess files asked with by) path givens_path file givens text first last none wrote is c = absurd is
made_with held before after (Help shown) path givens_path file givens text first last none wrote is c = absurd is

-- what is said of the outcome of the check
module _ (file cert givens text : List ℕ) (before after : World) where
  abbrev EndsWith : Result (Unit {0}) ProgramFault → Type 0
  EndsWith r = OnOk r (IsAccepting text) × IfErr r (IsHinderedWith file cert givens before after)

  by_fault_with : (r : Result (Unit {0}) ProgramFault) (fault : ProgramFault) → r ≡ Err fault → IsHinderedWith file cert givens before after fault → EndsWith r
  by_fault_with r fault is why = subst EndsWith (sym is) (tt, why)

  hindered_third : (fault : ProgramFault) → IsUnread (Some givens) fault → HasFailed before.faults after.faults fault → IsHinderedWith file cert givens before after fault
  hindered_third fault (inl (is, long)) cause = inr (is, long)
  hindered_third fault (inr (inl is)) cause = inl (inr (inr (inl (is, subst (HasFailed before.faults after.faults) is cause))))
  hindered_third fault (inr (inr is)) cause = inl (inl is)

  short_with : (r : Result (Unit {0}) ProgramFault) → IfErr r (λ (e : ProgramFault). (e ≡ Memory) ⊎ (e ≡ Write)) → IfErr r (IsHinderedWith file cert givens before after)
  short_with (Ok done) why = tt
  short_with (Err f) (inl memory) = inl (inl memory)
  short_with (Err f) (inr write) = inl (inr (inl write))

  given_ends : (r : Result (Unit {0}) ProgramFault) (chosen : Option Rgb) (seen cert_seen givens_seen : List ℕ) → seen ≡ file → cert_seen ≡ cert → givens_seen ≡ givens → chosen ≡ None
      → before.output ≡ Some [] → after.output ≡ Some text → AreVerifiedWith file None givens cert → WritesBy before.output after.output r (IsCheckOf seen chosen (Some givens_seen) cert_seen)
      → (IsLemmaProofOf seen chosen (Some givens_seen) cert_seen → IfErr r (λ (e : ProgramFault). (e ≡ Memory) ⊎ (e ≡ Write))) → EndsWith r
  given_ends r chosen seen cert_seen givens_seen read read_cert read_givens same none wrote accepted writes only =
      let W : List ℕ → List ℕ → List ℕ → Option Rgb → Option (List ℕ) → Option (List ℕ) → Type 0 = λ f c g k x y. WritesBy x y r (IsCheckOf f k (Some g) c) in
      let P : List ℕ → List ℕ → List ℕ → Option Rgb → Type 0 = λ f c g k. IsLemmaProofOf f k (Some g) c → IfErr r (λ (e : ProgramFault). (e ≡ Memory) ⊎ (e ≡ Write)) in
      let w1 : W file cert_seen givens_seen chosen before.output after.output = subst (λ (f : List ℕ). W f cert_seen givens_seen chosen before.output after.output) read writes in
      let w2 : W file cert givens_seen chosen before.output after.output = subst (λ (c : List ℕ). W file c givens_seen chosen before.output after.output) read_cert w1 in
      let w3 : W file cert givens chosen before.output after.output = subst (λ (g : List ℕ). W file cert g chosen before.output after.output) read_givens w2 in
      let w4 : W file cert givens None before.output after.output = subst (λ (k : Option Rgb). W file cert givens k before.output after.output) same w3 in
      let w5 : W file cert givens None (Some []) after.output = subst (λ (x : Option (List ℕ)). W file cert givens None x after.output) none w4 in
      let w6 : W file cert givens None (Some []) (Some text) = subst (λ (y : Option (List ℕ)). W file cert givens None (Some []) y) wrote w5 in
      let p1 : P file cert_seen givens_seen chosen = subst (λ (f : List ℕ). P f cert_seen givens_seen chosen) read only in
      let p2 : P file cert givens_seen chosen = subst (λ (c : List ℕ). P file c givens_seen chosen) read_cert p1 in
      let p3 : P file cert givens chosen = subst (λ (g : List ℕ). P file cert g chosen) read_givens p2 in
      let p4 : P file cert givens None = subst (λ (k : Option Rgb). P file cert givens k) same p3 in
      (has_published file givens cert None accepted.named (Some []) (Some text) r accepted.check w6, short_with r (p4 accepted.proof))

  given_checked : (held : List ℕ → Held) (task : Task) (r : Result (Unit {0}) ProgramFault) (path cert_path givens_path : List ℕ) → held path ≡ Holds file → held cert_path ≡ Holds cert
      → held givens_path ≡ Holds givens → before.output ≡ Some [] → after.output ≡ Some text → AreVerifiedWith file None givens cert → IsCheckWith path cert_path givens_path None task
      → CarriesOut held before after task r → EndsWith r
  given_checked held (Check file' cert' (Some givens') chosen) r path cert_path givens_path first second third none wrote accepted is (inl stopped) =
      by_fault_with r stopped.fault stopped.is (inl (hindered_first file cert before after stopped.fault (unread file (held file'.now) stopped.fault (ap held is.0 ∙ first) stopped.unread) stopped.cause))
  given_checked held (Check file' cert' (Some givens') chosen) r path cert_path givens_path first second third none wrote accepted is (inr (inl half)) =
      let s = half.stopped in
      by_fault_with r s.fault s.is (inl (hindered_second file cert before after s.fault (unread cert (held cert'.now) s.fault (ap held is.1.0 ∙ second) s.unread) s.cause))
  given_checked held (Check file' cert' (Some givens') chosen) r path cert_path givens_path first second third none wrote accepted is (inr (inr (inl without))) =
      let s = without.stopped in
      by_fault_with r s.fault s.is (hindered_third s.fault (unread givens (held givens'.now) s.fault (ap held is.1.1.0 ∙ third) s.unread) s.cause)
  given_checked held (Check file' cert' (Some givens') chosen) r path cert_path givens_path first second third none wrote accepted is (inr (inr (inr c))) =
      let read : c.file ≡ file = content_is (held file'.now) file c.file (ap held is.0 ∙ first) c.content in
      let read_cert : c.cert ≡ cert = content_is (held cert'.now) cert c.cert (ap held is.1.0 ∙ second) c.cert_content in
      let read_givens : c.givens ≡ givens = content_is (held givens'.now) givens c.givens (ap held is.1.1.0 ∙ third) c.givens_content in
      given_ends r chosen c.file c.cert c.givens read read_cert read_givens is.1.1.1 none wrote accepted c.writes c.only_lemmas
  given_checked held (Check file' cert' None chosen) r path cert_path givens_path first second third none wrote accepted is c = absurd is
  given_checked held Clues r path cert_path givens_path first second third none wrote accepted is c = absurd is
  given_checked held (Work file' options) r path cert_path givens_path first second third none wrote accepted is c = absurd is
  given_checked held (Prove file' chosen options) r path cert_path givens_path first second third none wrote accepted is c = absurd is
  given_checked held (Assess files asked with by) r path cert_path givens_path first second third none wrote accepted is c = absurd is
  given_checked held (Help shown) r path cert_path givens_path first second third none wrote accepted is c = absurd is

  ended_with : (arguments : Texts) (held : List ℕ → Held) (r : Result (Unit {0}) ProgramFault) (Is : Task → Type 0) → AskOnly arguments Is
      → ((task : Task) → Is task → CarriesOut held before after task r → EndsWith r) → AnswersAll arguments held before after r → EndsWith r
  ended_with arguments held r Is only by (inl none) = by_fault_with r Memory none.is (inl (inl refl))
  ended_with arguments held r Is only by (inr (inl (f, (asks, c)))) = by_fault_with r f c.is (inl (inl (only.taken f asks)))
  ended_with arguments held r Is only by (inr (inr (task, (asks, c)))) = by task (only.task task asks) c

pub given_proofs : (proving checking : Asked) (cert text : List ℕ) (proved checked : ℕ) → WordsAreKnown → PublishedProofsAreVerified → IsRun proving [] cert proved → IsRun checking [] text checked
    → GivenProofsByWords proving checking cert text proved checked
given_proofs proving checking cert text proved checked law verified prove check p =
    let By : Task → Type 0 = IsProveBy p.path (Some p.givens_path) default_search in
    let asks : AskOnly proving.arguments By = only_by _ _ proving.arguments By By p.proves (law.prove_with p.givens_path p.path p.plain_givens p.plain) (λ task is. is) in
    let ok = is_done prove.outcome (sym prove.right_status ∙ p.proved_well) in
    let t = done_task proving.arguments proving.held (before_run proving []) prove.after prove.outcome By asks prove.answers ok in
    let made = made_with proving.held (before_run proving []) prove.after t.0 p.path p.givens_path p.file p.givens cert p.to_prove p.given_to_prove refl prove.output t.1.0 t.1.1 in
    let accepted : AreVerifiedWith p.file None p.givens cert = verified p.file p.givens default_search cert made in
    let Is : Task → Type 0 = IsCheckWith p.picture_path p.cert_path p.published_path None in
    let only : AskOnly checking.arguments Is = only_by _ _ checking.arguments (IsCheckBy p.picture_path p.cert_path (Some p.published_path) None) Is p.checks
    (law.check_with p.published_path p.picture_path p.cert_path p.plain_published p.plain_picture p.plain_cert) (check_task_with p.picture_path p.cert_path p.published_path None) in
    let ends = ended_with p.file cert p.givens text (before_run checking []) check.after checking.arguments checking.held check.outcome Is only
    (λ task is c. given_checked p.file cert p.givens text (before_run checking []) check.after checking.held task check.outcome p.picture_path p.cert_path p.published_path p.file_is_held
    p.cert_is_held p.givens_are_held refl check.output accepted is c)
    check.answers in
    record { after = check.after; outcome = check.outcome; right_status = check.right_status; accepts = ends.0; hindered = ends.1 }
