-- A check of two files, or of three: the last names the givens that are published.
use Rattle.std.proofs.Common.{◌≡◌, ◌∙◌, refl, ℕ, List, [], ◌∷◌, ◌++◌, Option, None, Some, Result, Err, IfErr, OnOk, inl, inr, sym, subst}
use Rattle.std.specs.Prelude.{◌⊎◌}
use Rattle.std.specs.Borrow.{Bor}
use Rattle.picture.specs.declared.rgb.Rgb.{Rgb}
use Rattle.program_options.specs.declared.fault.ProgramFault.{ProgramFault}
use Rattle.program_options.specs.declared.fault.ProgramFault.TheVariants.{Memory, Write}
use Rattle.command_line.specs.declared.words.Task.{Task}
use Rattle.command_line.specs.declared.words.Task.TheVariants.{Check}
use Rattle.text_check.specs.Check.{IsLemmaProofOf, IsOnlyPicture, IsProofOf}
use Rattle.answers.specs.Check.{IsCheckOf, WritesBy}
use Rattle.program.specs.Files.{HasFailed, Held, IsContent, IsUnreadFile}
use Rattle.program.specs.Work.{CarriesOut, IsCheckedWith, IsHalfRead, IsWithoutGivens}
use Rattle.program.specs.World.{World, world}
use Rattle.program.proofs.FileLemmas.{keeps_same, names_both, names_three}
use Rattle.command_text.specs.Words.{Texts}

-- two files were opened, the first without a fault, names hold the same before and after it, and these are its bytes
pub record AreBoth (held later : List ℕ → Held) (opened between after : Texts) (faults mid : ℕ) (path cert : List ℕ) (file : List ℕ) : Type 0 where
  pub content : IsContent (held path) file
  pub first : between ≡ opened ++ path ∷ []
  pub faultless : mid ≡ faults
  pub keeps : (name : List ℕ) → later name ≡ held name
  pub next : after ≡ between ++ cert ∷ []

-- the second file was not read
pub half : (held later : List ℕ → Held) (opened between after : Texts) (faults mid last : ℕ) (input output : Option (List ℕ)) (path cert : Bor (List ℕ)) (file : List ℕ) (fault : ProgramFault)
    (r : Result (Unit {0}) ProgramFault)
    → AreBoth held later opened between after faults mid path.now cert.now file → IsUnreadFile (later cert.now) fault → HasFailed mid last fault → r ≡ Err fault
    → IsHalfRead (held path.now) (held cert.now) path.now cert.now (world opened faults input output) (world after last input output) r
half held later opened between after faults mid last input output path cert file fault r both unread cause failed = record {
  file = file;
  content = both.content;
  stopped = record {
    fault = fault;
    is = failed;
    unread = subst (λ (h : Held). IsUnreadFile h fault) (both.keeps cert.now) unread;
    cause = subst (λ (n : ℕ). HasFailed n last fault) both.faultless cause;
    only = record { names = names_both opened between after path.now cert.now both.first both.next; input = keeps_same input; output = keeps_same output };
  };
}

pub half_read : (held later : List ℕ → Held) (opened between after : Texts) (faults mid last : ℕ) (input output : Option (List ℕ)) (task : Task) (path cert : Bor (List ℕ))
    (givens : Option (Bor (List ℕ))) (background : Option Rgb)
    (file : List ℕ) (fault : ProgramFault) (r : Result (Unit {0}) ProgramFault)
    → task ≡ Check path cert givens background → AreBoth held later opened between after faults mid path.now cert.now file → IsUnreadFile (later cert.now) fault → HasFailed mid last fault
    → r ≡ Err fault
    → CarriesOut held (world opened faults input output) (world after last input output) task r
half_read held later opened between after faults mid last input output task path cert givens background file fault r is both unread cause failed =
    let here : CarriesOut held (world opened faults input output) (world after last input output) (Check path cert givens background) r =
    inr (inl (half held later opened between after faults mid last input output path cert file fault r both unread cause failed)) in
    subst (λ (t : Task). CarriesOut held (world opened faults input output) (world after last input output) t r) (sym is) here

pub without_some : {X : Type 0} (found : Option X) → ((x : X) → found ≡ Some x → ⊥) → found ≡ None
without_some None not = refl
without_some (Some x) not = absurd (not x refl)

-- a check for which no file of givens is named
pub none_named : (task : Task) (path cert : Bor (List ℕ)) (givens : Option (Bor (List ℕ))) (background : Option Rgb) → task ≡ Check path cert givens background
    → ((x : Bor (List ℕ)) → givens ≡ Some x → ⊥)
    → task ≡ Check path cert None background
none_named task path cert givens background is not = subst (λ (g : Option (Bor (List ℕ))). task ≡ Check path cert g background) (without_some givens not) is

pub checked : (held later : List ℕ → Held) (opened between after : Texts) (faults mid last : ℕ) (input output written : Option (List ℕ)) (task : Task) (path cert : Bor (List ℕ))
    (background : Option Rgb)
    (file cert_bytes seen cert_seen : List ℕ) (r : Result (Unit {0}) ProgramFault)
    → task ≡ Check path cert None background → AreBoth held later opened between after faults mid path.now cert.now file → IsContent (later cert.now) cert_bytes → last ≡ mid → seen ≡ file
    → cert_seen ≡ cert_bytes
    → WritesBy output written r (IsCheckOf seen background None cert_seen) → (IsProofOf seen background None cert_seen → IfErr r (λ e. (e ≡ Memory) ⊎ (e ≡ Write)))
    → (IsLemmaProofOf seen background None cert_seen → IfErr r (λ e. (e ≡ Memory) ⊎ (e ≡ Write)))
    → OnOk r (IsOnlyPicture seen background None cert_seen)
    → CarriesOut held (world opened faults input output) (world after last input written) task r
checked held later opened between after faults mid last input output written task path cert background file cert_bytes seen cert_seen r is both certificate faultless same cert_same writes only
    only_lemmas unique =
    let before : World = world opened faults input output in
    let behind : World = world after last input written in
    let here : CarriesOut held before behind (Check path cert None background) r = inr (inr (record {
      file = seen;
      cert = cert_seen;
      content = subst (IsContent (held path.now)) (sym same) both.content;
      cert_content = subst (IsContent (held cert.now)) (sym cert_same) (subst (λ (h : Held). IsContent h cert_bytes) (both.keeps cert.now) certificate);
      names = names_both opened between after path.now cert.now both.first both.next;
      faultless = faultless ∙ both.faultless;
      input = keeps_same input;
      writes = writes;
      only = only;
      only_lemmas = only_lemmas;
      unique = unique;
    })) in
    subst (λ (t : Task). CarriesOut held before behind t r) (sym is) here

-- ---- three files

-- a third file was opened, the second without a fault, names hold the same before and after it, and these are its bytes
pub record AreThree (held later latest : List ℕ → Held) (opened one two three : Texts) (faults mid end : ℕ) (path cert givens file cert_bytes : List ℕ) : Type 0 where
  pub both : AreBoth held later opened one two faults mid path cert file
  pub cert_content : IsContent (later cert) cert_bytes
  pub faultless : end ≡ mid
  pub keeps : (name : List ℕ) → latest name ≡ later name
  pub next : three ≡ two ++ givens ∷ []

module _ (held later latest : List ℕ → Held) (opened one two three : Texts) (faults mid end last : ℕ) (input output : Option (List ℕ)) (path cert givens : Bor (List ℕ))
    (file cert_bytes : List ℕ) (are : AreThree held later latest opened one two three faults mid end path.now cert.now givens.now file cert_bytes) where
  still : (name : List ℕ) → latest name ≡ held name
  still name = are.keeps name ∙ are.both.keeps name

  names : three ≡ opened ++ path.now ∷ cert.now ∷ givens.now ∷ []
  names = names_three opened one two three path.now cert.now givens.now are.both.first are.both.next are.next

  none_failed : end ≡ faults
  none_failed = are.faultless ∙ are.both.faultless

  cert_held : IsContent (held cert.now) cert_bytes
  cert_held = subst (λ (h : Held). IsContent h cert_bytes) (are.both.keeps cert.now) are.cert_content

  -- the third file was not read
  without : (fault : ProgramFault) (r : Result (Unit {0}) ProgramFault) → IsUnreadFile (latest givens.now) fault → HasFailed end last fault → r ≡ Err fault
      → IsWithoutGivens (held path.now) (held cert.now) (held givens.now) path.now cert.now givens.now (world opened faults input output) (world three last input output) r
  without fault r unread cause failed = record {
    file = file;
    cert = cert_bytes;
    content = are.both.content;
    cert_content = cert_held;
    stopped = record {
      fault = fault;
      is = failed;
      unread = subst (λ (h : Held). IsUnreadFile h fault) (still givens.now) unread;
      cause = subst (λ (n : ℕ). HasFailed n last fault) none_failed cause;
      only = record { names = names; input = keeps_same input; output = keeps_same output };
    };
  }

  module _ (task : Task) (published : Option (Bor (List ℕ))) (background : Option Rgb) (is : task ≡ Check path cert published background) (some : published ≡ Some givens) where
    task_is : task ≡ Check path cert (Some givens) background
    task_is = subst (λ (p : Option (Bor (List ℕ))). task ≡ Check path cert p background) some is

    pub without_givens : (fault : ProgramFault) (r : Result (Unit {0}) ProgramFault) → IsUnreadFile (latest givens.now) fault → HasFailed end last fault → r ≡ Err fault
        → CarriesOut held (world opened faults input output) (world three last input output) task r
    without_givens fault r unread cause failed =
        let here : CarriesOut held (world opened faults input output) (world three last input output) (Check path cert (Some givens) background) r =
        inr (inr (inl (without fault r unread cause failed))) in
        subst (λ (t : Task). CarriesOut held (world opened faults input output) (world three last input output) t r) (sym task_is) here

    pub checked_with : (written : Option (List ℕ)) (given_bytes seen cert_seen given_seen : List ℕ) (r : Result (Unit {0}) ProgramFault)
        → IsContent (latest givens.now) given_bytes → last ≡ end → seen ≡ file → cert_seen ≡ cert_bytes → given_seen ≡ given_bytes
        → WritesBy output written r (IsCheckOf seen background (Some given_seen) cert_seen)
        → (IsProofOf seen background (Some given_seen) cert_seen → IfErr r (λ e. (e ≡ Memory) ⊎ (e ≡ Write)))
        → (IsLemmaProofOf seen background (Some given_seen) cert_seen → IfErr r (λ e. (e ≡ Memory) ⊎ (e ≡ Write))) → OnOk r (IsOnlyPicture seen background (Some given_seen) cert_seen)
        → CarriesOut held (world opened faults input output) (world three last input written) task r
    checked_with written given_bytes seen cert_seen given_seen r content faultless same cert_same given_same writes only only_lemmas unique =
        let before : World = world opened faults input output in
        let behind : World = world three last input written in
        let here : CarriesOut held before behind (Check path cert (Some givens) background) r = inr (inr (inr (record {
          file = seen;
          cert = cert_seen;
          givens = given_seen;
          content = subst (IsContent (held path.now)) (sym same) are.both.content;
          cert_content = subst (IsContent (held cert.now)) (sym cert_same) cert_held;
          givens_content = subst (IsContent (held givens.now)) (sym given_same) (subst (λ (h : Held). IsContent h given_bytes) (still givens.now) content);
          names = names;
          faultless = faultless ∙ none_failed;
          input = keeps_same input;
          writes = writes;
          only = only;
          only_lemmas = only_lemmas;
          unique = unique;
        }))) in
        subst (λ (t : Task). CarriesOut held before behind t r) (sym task_is) here
