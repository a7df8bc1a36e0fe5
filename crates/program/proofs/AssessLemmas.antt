-- Assessments of puzzles, one after the other.
use Rattle.std.proofs.Common.{◌≡◌, ◌==◌, ◌∙◌, ◌+◌, refl, sym, ap, subst, inl, inr, ℕ, Bool, List, [], ◌∷◌, ◌++◌, Option, None, Some, Result, Ok, Err, Vec, Global, codes, drop, length, not}
use Rattle.std.specs.Borrow.{Bor}
use Rattle.std.specs.Io.KnownBytes.{Appends}
use Rattle.picture.specs.Writers.{AppendsFront}
use Rattle.program_options.specs.declared.fault.ProgramFault.{ProgramFault}
use Rattle.program_options.specs.declared.fault.ProgramFault.TheVariants.{Memory, Read, TooLong, Write}
use Rattle.program_options.specs.Faults.{fault_text}
use Rattle.program.specs.declared.assessing.Asked.{Asked}
use Rattle.program.specs.declared.assessing.Standing.{Standing}
use Rattle.program_options.specs.declared.assessing.AssessOptions.{AssessOptions}
use Rattle.command_line.specs.declared.words.Task.{Task}
use Rattle.command_line.specs.declared.words.Task.TheVariants.{Assess}
use Rattle.program.specs.declared.assessing.Standing.TheVariants.{Fit, Unfit}
use Rattle.answers.specs.declared.assessing.Block.{Block}
use Rattle.answers.specs.Assess.{Assesses}
use Rattle.program.specs.Assess.{AssessesAll, AssessesNamed, AssessesOne, Comes, HasText, IsAssessed, ReadsIfNamed, StopsAt, ended, heading_text, named, number_of, refusal_text, text_in, worse}
use Rattle.program.specs.Files.{HasFailed, Held}
use Rattle.program.specs.Work.{CarriesOut}
use Rattle.program.specs.World.{World, world}
use Rattle.std.proofs.lemmas.List.{append_assoc}
use Rattle.program.proofs.FileLemmas.{keeps_same}
use Rattle.command_text.specs.Words.{Texts}

-- ---- the line of a file that is refused

pub refusal_named : (fault : ProgramFault) → (fault ≡ TooLong → ⊥) → (fault ≡ Read → ⊥) → refusal_text fault ≡ codes "refused " ++ (fault_text fault ++ 10 ∷ [])
refusal_named TooLong long unread = absurd (long refl)
refusal_named Read long unread = absurd (unread refl)
refusal_named fault long unread = refl

pub ruleset refusals = (refusal_named)

-- ---- one puzzle

-- a puzzle that is refused once its file was read
pub refused_told : (file : List ℕ) (asked : Asked) (fault : ProgramFault) (text : List ℕ) → Assesses file (text_in asked.givens) (text_in asked.cert) asked.options (Err fault)
    → (fault ≡ Memory → ⊥) → text ≡ refusal_text fault → IsAssessed file asked text Unfit
refused_told file asked fault text assesses lasts is = record {
  outcome = Err fault;
  assesses = assesses;
  lasts = λ e. lasts (let same : fault ≡ Memory = cc in same);
  is = is;
  stands = refl;
}

-- one of the texts beside a puzzle
pub same_texts : (file : List ℕ) (asked : Asked) (givens cert : Option (List ℕ)) (r : Result Block ProgramFault) → givens ≡ text_in asked.givens → cert ≡ text_in asked.cert
    → Assesses file givens cert asked.options r → Assesses file (text_in asked.givens) (text_in asked.cert) asked.options r
same_texts file asked givens cert r same also assesses =
    subst (λ (g : Option (List ℕ)). Assesses file g (text_in asked.cert) asked.options r) same
    (subst (λ (p : Option (List ℕ)). Assesses file givens p asked.options r) also assesses)

module _ (held : Held) (asked : Asked) (path : List ℕ) (number : Option ℕ) (opened later : Texts) (names : later ≡ opened ++ path ∷ []) (faults last : ℕ) (input output : Option (List ℕ)) where
  -- memory ran out
  pub short : (fault : ProgramFault) (r : Result Standing ProgramFault) → r ≡ Err fault → fault ≡ Memory
      → AssessesOne held asked path number (world opened faults input output) (world later last input output) r
  short fault r is memory =
      let here : AssessesOne held asked path number (world opened faults input output) (world later last input output) (Err fault) =
      inl (record { is = memory; names = names; input = keeps_same input; output = keeps_same output }) in
      subst (AssessesOne held asked path number (world opened faults input output) (world later last input output)) (sym is) here

  module _ (text told : List ℕ) (standing : Standing) (comes : Comes held asked faults last text standing) (told_is : told ≡ heading_text number ++ text) (written : Option (List ℕ)) where
    -- what comes of the puzzle was written
    pub done : Appends output written told → AssessesOne held asked path number (world opened faults input output) (world later last input written) (Ok standing)
    done appends = (told, (record { text = text; comes = comes; is = told_is; names = names; input = keeps_same input }, appends))

    -- only a prefix of it was
    pub cut : (fault : ProgramFault) (r : Result Standing ProgramFault) → r ≡ Err fault → fault ≡ Write → AppendsFront output written told
        → AssessesOne held asked path number (world opened faults input output) (world later last input written) r
    cut fault r is write front =
        let here : AssessesOne held asked path number (world opened faults input output) (world later last input written) (Err fault) =
        inr (told, (standing, (record { text = text; comes = comes; is = told_is; names = names; input = keeps_same input }, (write, front)))) in
        subst (AssessesOne held asked path number (world opened faults input output) (world later last input written)) (sym is) here

-- ---- one puzzle after the other

-- names hold the same
pub same_held : (later held : List ℕ → Held) → ((name : List ℕ) → later name ≡ held name) → later ≡ held
same_held later held keeps = λ i name. keeps name i

module _ (held : List ℕ → Held) (asked : Asked) (several : Bool) (paths : List (Bor (List ℕ))) (i : ℕ) (path : Bor (List ℕ)) (next : drop i paths ≡ path ∷ drop (i + 1) paths)
    (number : Option ℕ) (is_number : number ≡ number_of several (i + 1)) (worst : Standing) (before between : World) (now : Held) (same : now ≡ held path.now) where
  one_of : (r : Result Standing ProgramFault) → AssessesOne now asked path.now number before between r
      → AssessesOne (held path.now) asked path.now (number_of several (i + 1)) before between r
  one_of r one = subst (λ (h : Held). AssessesOne h asked path.now (number_of several (i + 1)) before between r) same
      (subst (λ (n : Option ℕ). AssessesOne now asked path.now n before between r) is_number one)

  -- a puzzle, and those after it
  pub stepped : (standing worse_by : Standing) → worse_by ≡ worse worst standing → AssessesOne now asked path.now number before between (Ok standing) → (after : World)
      (r : Result (Unit {0}) ProgramFault) → AssessesAll held asked several (i + 1 + 1) (drop (i + 1) paths) worse_by between after r
      → AssessesAll held asked several (i + 1) (drop i paths) worst before after r
  stepped standing worse_by is one after r rest =
      let later = subst (λ (s : Standing). AssessesAll held asked several (i + 1 + 1) (drop (i + 1) paths) s between after r) is rest in
      subst (λ (xs : List (Bor (List ℕ))). AssessesAll held asked several (i + 1) xs worst before after r) (sym next) (inr (between, (standing, (one_of (Ok standing) one, later))))

  -- a puzzle at which the run breaks off
  pub broken : (fault : ProgramFault) (r : Result (Unit {0}) ProgramFault) → r ≡ Err fault → AssessesOne now asked path.now number before between (Err fault)
      → AssessesAll held asked several (i + 1) (drop i paths) worst before between r
  broken fault r is one =
      subst (λ (xs : List (Bor (List ℕ))). AssessesAll held asked several (i + 1) xs worst before between r) (sym next) (inl (fault, (is, one_of (Err fault) one)))

-- after the last puzzle
pub all_done : (held : List ℕ → Held) (asked : Asked) (several : Bool) (paths : List (Bor (List ℕ))) (i : ℕ) → drop i paths ≡ [] → (worst : Standing) (w : World)
    (r : Result (Unit {0}) ProgramFault) → r ≡ ended worst → AssessesAll held asked several (i + 1) (drop i paths) worst w w r
all_done held asked several paths i none worst w r is =
    subst (λ (xs : List (Bor (List ℕ))). AssessesAll held asked several (i + 1) xs worst w w r) (sym none)
    (is, record { opened = refl; faults = refl; input = keeps_same w.input; output = keeps_same w.output })

-- ---- the files beside a puzzle's

module _ (held : List ℕ → Held) (faults last : ℕ) (input output : Option (List ℕ)) (fault : ProgramFault) (r : Result (Unit {0}) ProgramFault) (is : r ≡ Err fault) where
  -- the file of a name could not be read, behind others that were opened
  pub stops : (path : Option (Bor (List ℕ))) (first opened mid later : Texts) → mid ≡ opened ++ first → later ≡ mid ++ named path
      → ReadsIfNamed held path (Err fault) → HasFailed faults last fault → StopsAt held path first (world opened faults input output) (world later last input output) r
  stops None first opened mid later start names reads cause = absurd (let e = reads in cc)
  stops (Some path) first opened mid later start names reads cause = record {
    fault = fault;
    is = is;
    unread = reads;
    cause = cause;
    only = record {
      names = names ∙ (ap (λ (xs : Texts). xs ++ path.now ∷ []) start ∙ append_assoc opened first (path.now ∷ []));
      input = keeps_same input;
      output = keeps_same output;
    };
  }

-- the text of a file, if one is named
pub has_text : (held : List ℕ → Held) (path : Option (Bor (List ℕ))) (text : Option (Vec ℕ Global)) → ReadsIfNamed held path (Ok text) → HasText held path (text_in text)
has_text held None text reads = (let e : text ≡ None = cc in ap text_in e)
has_text held (Some path) None reads = absurd reads
has_text held (Some path) (Some text) reads = reads

module _ (held one two : List ℕ → Held) (keeps : (name : List ℕ) → one name ≡ held name) (keeps_on : (name : List ℕ) → two name ≡ one name) (opened mid later : Texts)
    (faults middle last : ℕ) (input output : Option (List ℕ)) (paths : List (Bor (List ℕ))) (givens cert : Option (Bor (List ℕ))) (options : AssessOptions) (r : Result (Unit {0}) ProgramFault)
    (first : mid ≡ opened ++ named givens) (second : later ≡ mid ++ named cert) where
  module _ (faultless : middle ≡ faults) where
    -- the file of the certificate could not be read
    pub without_cert : (fault : ProgramFault) → r ≡ Err fault → ReadsIfNamed one cert (Err fault) → HasFailed middle last fault
        → AssessesNamed held paths givens cert options (world opened faults input output) (world later last input output) r
    without_cert fault is reads cause =
        let here = subst (λ (h : List ℕ → Held). ReadsIfNamed h cert (Err fault)) (same_held one held keeps) reads in
        let failed = subst (λ (n : ℕ). HasFailed n last fault) faultless cause in
        inr (inl (stops held faults last input output fault r is cert (named givens) opened mid later first second here failed))

    -- both were read, and the puzzles are assessed
    pub with_both : last ≡ middle → (text proof : Option (Vec ℕ Global)) → ReadsIfNamed held givens (Ok text) → ReadsIfNamed one cert (Ok proof) → (asked : Asked)
        → asked ≡ record { options = options; givens = text; cert = proof } → (after : World)
        → AssessesAll two asked (not (length paths == 1)) 1 paths Fit (world later last input output) after r
        → AssessesNamed held paths givens cert options (world opened faults input output) after r
    with_both same text proof reads reads_on asked is after runs = inr (inr (record {
      asked = asked;
      options_are = ap (λ (a : Asked). a.options) is;
      givens_are = subst (HasText held givens) (sym (ap (λ (a : Asked). text_in a.givens) is)) (has_text held givens text reads);
      cert_is = subst (HasText held cert) (sym (ap (λ (a : Asked). text_in a.cert) is))
          (has_text held cert proof (subst (λ (h : List ℕ → Held). ReadsIfNamed h cert (Ok proof)) (same_held one held keeps) reads_on));
      start = world later last input output;
      names = second ∙ (ap (λ (xs : Texts). xs ++ named cert) first ∙ append_assoc opened (named givens) (named cert));
      faultless = same ∙ faultless;
      input = keeps_same input;
      output = keeps_same output;
      runs = subst (λ (h : List ℕ → Held). AssessesAll h asked (not (length paths == 1)) 1 paths Fit (world later last input output) after r)
          (same_held two one keeps_on ∙ same_held one held keeps) runs;
    }))

-- ---- the task

pub assesses : (held : List ℕ → Held) (before after : World) (task : Task) (files : Vec (Bor (List ℕ)) Global) (paths : List (Bor (List ℕ))) (options : AssessOptions)
    (givens cert : Option (Bor (List ℕ))) (r : Result (Unit {0}) ProgramFault) → task ≡ Assess files options givens cert → paths ≡ files.items
    → AssessesNamed held paths givens cert options before after r → CarriesOut held before after task r
assesses held before after task files paths options givens cert r is same named =
    let here : CarriesOut held before after (Assess files options givens cert) r =
    subst (λ (xs : List (Bor (List ℕ))). AssessesNamed held xs givens cert options before after r) same named in
    subst (λ (t : Task). CarriesOut held before after t r) (sym is) here
