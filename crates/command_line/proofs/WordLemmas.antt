-- The words of the command line, by the contract of the parser.
use Rattle.std.proofs.Common.{◌≡◌, ◌≢◌, ◌⊎◌, ◌↔◌, ℕ, Bool, List, [], ◌∷◌, bytes_eq, codes, Option, None, Some, Result, Ok, Err, IsTrue, option_map, true, false, true≢false, refl, sym, ap}
use Rattle.std.proofs.Common.{subst, unwrap_or, ◌<◌, ◌^◌, ◌∙◌, arith, inl, inr, ⊎_elim}
use Rattle.std.proofs.lemmas.Slice.Eq.{bytes_eq-Decides}
use Rattle.std.specs.Str.Parse.{ParsesUnsigned}
use Rattle.clap.specs.declared.error.Error.{Error}
use Rattle.clap.specs.declared.error.kind.ErrorKind.{ErrorKind}
use Rattle.clap.specs.declared.error.kind.ErrorKind.TheVariants as kind
use Rattle.clap.specs.Words.{App, HasKind, IsAmong, Kinds, ReadsOne, Row, Text, fault_of, kind_of, rows_of, subcommand_name_of, subcommand_of, subcommand_rows_of}
use Rattle.clap.specs.Words.{takes}
use Rattle.clap.specs.declared.parser.matches.ArgMatches.{ArgMatches}
use Rattle.clap.specs.declared.parser.matches.Found.{Found}
use Rattle.clap.proofs.WalkLemmas.{first_value-rows, one_text-rows, raw_values-rows}
use Rattle.program_options.specs.declared.fault.ProgramFault.{ProgramFault}
use Rattle.program_options.specs.declared.fault.ProgramFault.TheVariants as fault
use Rattle.command_line.specs.declared.words.Task.{Task}
use Rattle.command_line.specs.declared.words.Task.TheVariants.{Clues, Work, Check, Prove, Assess, Help}
use Rattle.command_line.specs.Program.{AreFormats, Formats, ParsesAs, program_app}
use Rattle.command_line.specs.Words.{IsAsked, IsAssess, IsCheck, IsNamed, IsProve, IsTaskBy, IsTaskOf, IsUntaken, IsWork, Spells, given_in, given_of, is_shown}
use Rattle.command_line.proofs.EnterLemmas.{names_one, some_kind}

-- ---- values

-- the values of a parse's entries are those of its rows
pub given_same : (f : Found) → given_of f ≡ given_in (rows_of f)
given_same f =
    let first = first_value-rows f in
    let one = one_text-rows f in
    let all = raw_values-rows f (codes "files") in
    λ i. record {
      file = first (codes "file") i;
      cert = first (codes "cert") i;
      givens = first (codes "givens") i;
      format = first (codes "format") i;
      background = first (codes "background") i;
      history = one (codes "history") i;
      complete = one (codes "complete") i;
      files = unwrap_or (all i) [];
      certificate = first (codes "certificate") i;
      allow = first (codes "allow") i;
    }

-- ---- the subcommand

mapped : {X : Type 0} (g : X → Text × List Row) (o : Option X) → option_map (λ x. (g x).0) o ≡ option_map (λ p. p.0) (option_map g o)
mapped g None = refl
mapped g (Some x) = refl

-- the name and the rows of the subcommand that a parse entered are of one subcommand
pub name_is : (m : ArgMatches) → subcommand_name_of m ≡ option_map (λ p. p.0) (subcommand_rows_of m)
name_is m = mapped _ _

abbrev name_in : Option (Text × List Row) → Option Text
name_in = option_map (λ p. p.0)

abbrev rows_in : Option (Text × List Row) → Option (List Row)
rows_in = option_map (λ p. p.1)

some_text : (a b : Text) → Some a ≡ Some b → a ≡ b
some_text a b e = cc

-- one subcommand is entered, and no other
other_name : (entered : Option (Text × List Row)) (name other : Text) → name_in entered ≡ Some name → bytes_eq name other ≡ false → (rows : List Row) → entered ≡ Some (other, rows) → ⊥
other_name entered name other is differ rows e =
    true≢false (sym ((bytes_eq-Decides name other).1 (some_text name other (sym is ∙ ap name_in e))) ∙ differ)

some_rows : (a b : List Row) → Some a ≡ Some b → a ≡ b
some_rows a b e = cc

pub asked_work : (entered : Option (Text × List Row)) (rows : List Row) (r : Result Task ProgramFault) → option_map (λ p. p.0) entered ≡ Some (codes "work")
    → option_map (λ p. p.1) entered ≡ Some rows → IsWork (given_in rows) r → IsAsked entered r
asked_work entered rows r name is asked = record {
  work = λ there e. subst (λ (x : List Row). IsWork (given_in x) r) (some_rows rows there (sym is ∙ ap rows_in e)) asked;
  check = λ there e. absurd (other_name entered (codes "work") (codes "check") name refl there e);
  prove = λ there e. absurd (other_name entered (codes "work") (codes "prove") name refl there e);
  assess = λ there e. absurd (other_name entered (codes "work") (codes "assess") name refl there e);
}

pub asked_check : (entered : Option (Text × List Row)) (rows : List Row) (r : Result Task ProgramFault) → option_map (λ p. p.0) entered ≡ Some (codes "check")
    → option_map (λ p. p.1) entered ≡ Some rows → IsCheck (given_in rows) r → IsAsked entered r
asked_check entered rows r name is asked = record {
  work = λ there e. absurd (other_name entered (codes "check") (codes "work") name refl there e);
  check = λ there e. subst (λ (x : List Row). IsCheck (given_in x) r) (some_rows rows there (sym is ∙ ap rows_in e)) asked;
  prove = λ there e. absurd (other_name entered (codes "check") (codes "prove") name refl there e);
  assess = λ there e. absurd (other_name entered (codes "check") (codes "assess") name refl there e);
}

pub asked_prove : (entered : Option (Text × List Row)) (rows : List Row) (r : Result Task ProgramFault) → option_map (λ p. p.0) entered ≡ Some (codes "prove")
    → option_map (λ p. p.1) entered ≡ Some rows → IsProve (given_in rows) r → IsAsked entered r
asked_prove entered rows r name is asked = record {
  work = λ there e. absurd (other_name entered (codes "prove") (codes "work") name refl there e);
  check = λ there e. absurd (other_name entered (codes "prove") (codes "check") name refl there e);
  prove = λ there e. subst (λ (x : List Row). IsProve (given_in x) r) (some_rows rows there (sym is ∙ ap rows_in e)) asked;
  assess = λ there e. absurd (other_name entered (codes "prove") (codes "assess") name refl there e);
}

pub asked_assess : (entered : Option (Text × List Row)) (rows : List Row) (r : Result Task ProgramFault) → option_map (λ p. p.0) entered ≡ Some (codes "assess")
    → option_map (λ p. p.1) entered ≡ Some rows → IsAssess (given_in rows) r → IsAsked entered r
asked_assess entered rows r name is asked = record {
  work = λ there e. absurd (other_name entered (codes "assess") (codes "work") name refl there e);
  check = λ there e. absurd (other_name entered (codes "assess") (codes "check") name refl there e);
  prove = λ there e. absurd (other_name entered (codes "assess") (codes "prove") name refl there e);
  assess = λ there e. subst (λ (x : List Row). IsAssess (given_in x) r) (some_rows rows there (sym is ∙ ap rows_in e)) asked;
}

-- ---- numbers

-- the number that is read from a text is the one that the text writes
pub number_read : {E : Type 0} (bits n : ℕ) (text : Text) (found : Option ℕ) (gives : List ℕ → Result ℕ E → Type 0) → ((t : List ℕ) (r : Result ℕ E) → gives t r → ParsesUnsigned bits 10 t r)
    → n < 2 ^ bits → Spells text n → ReadsOne gives text found → found ≡ Some n
number_read {E} bits n text (Some m) gives parses few spells reads = ap Some ((parses text (Ok m) reads).1 ∙ spells.value)
number_read {E} bits n text None gives parses few spells reads =
    let value = spells.value in
    absurd (parses text (Err reads.0) reads.1 (spells.numeral, omega (arith, few)))

-- ---- words that are not taken

-- a kind that shows nothing is a mistake in the words
mistake : (k : ErrorKind) → k ≢ kind.DisplayHelp → k ≢ kind.DisplayVersion → is_shown k ≡ false
mistake kind.DisplayHelp h v = absurd (h refl)
mistake kind.DisplayVersion h v = absurd (v refl)
mistake kind.InvalidValue h v = refl
mistake kind.UnknownArgument h v = refl
mistake kind.InvalidSubcommand h v = refl
mistake kind.NoEquals h v = refl
mistake kind.ValueValidation h v = refl
mistake kind.TooManyValues h v = refl
mistake kind.TooFewValues h v = refl
mistake kind.WrongNumberOfValues h v = refl
mistake kind.ArgumentConflict h v = refl
mistake kind.MissingRequiredArgument h v = refl
mistake kind.MissingSubcommand h v = refl
mistake kind.DisplayHelpOnMissingArgumentOrSubcommand h v = refl
mistake kind.Io h v = refl
mistake kind.Format h v = refl
mistake kind.OutOfMemory h v = refl

-- what goes to the standard error is a mistake
pub is_mistake : (k : ErrorKind) (b : Bool) → (IsTrue b ↔ ((k ≢ kind.DisplayHelp) × (k ≢ kind.DisplayVersion))) → b ≡ true → is_shown k ≡ false
is_mistake k b is on = mistake k (is.0 on).0 (is.0 on).1

-- and what does not is shown
pub is_display : (k : ErrorKind) (b : Bool) → (IsTrue b ↔ ((k ≢ kind.DisplayHelp) × (k ≢ kind.DisplayVersion))) → b ≡ false → is_shown k ≡ true
is_display k b is off = go (is_shown k) refl
  where
    go : (x : Bool) → x ≡ is_shown k → is_shown k ≡ true
    go true e = sym e
    go false e = absurd (true≢false (sym (is.1 ((λ h. true≢false (sym (e ∙ ap is_shown h))), (λ h. true≢false (sym (e ∙ ap is_shown h))))) ∙ off))

shown_not_memory : (k : ErrorKind) → is_shown k ≡ true → k ≡ kind.OutOfMemory → ⊥
shown_not_memory k shown memory = true≢false (sym shown ∙ ap is_shown memory)

abbrev failed : ProgramFault → Result Task ProgramFault
failed e = Err e

memory_is : (e : ProgramFault) → e ≡ fault.Memory → failed e ≡ failed fault.Memory
memory_is e is = ap failed is

-- memory ran out, or the kind is another
memory_or : (words : List Text) (k : ErrorKind) (r : Result Task ProgramFault) → IsUntaken words k r → (r ≡ Err fault.Memory) ⊎ (k ≡ kind.OutOfMemory → ⊥)
memory_or words k (Ok Clues) u = absurd u
memory_or words k (Ok (Work file options)) u = absurd u
memory_or words k (Ok (Check file cert givens background)) u = absurd u
memory_or words k (Ok (Prove file givens options)) u = absurd u
memory_or words k (Ok (Assess files options givens cert)) u = absurd u
memory_or words k (Ok (Help text)) u = inr (shown_not_memory k u.0)
memory_or words k (Err fault.HelpBeside) u = inr (shown_not_memory k u.0)
memory_or words k (Err (fault.Words text)) u = inr u.1
memory_or words k (Err (fault.Ppm x)) u = inl (memory_is (fault.Ppm x) u)
memory_or words k (Err (fault.Non x)) u = inl (memory_is (fault.Non x) u)
memory_or words k (Err (fault.Edit x)) u = inl (memory_is (fault.Edit x) u)
memory_or words k (Err fault.NoPicture) u = inl (memory_is fault.NoPicture u)
memory_or words k (Err fault.NoGoal) u = inl (memory_is fault.NoGoal u)
memory_or words k (Err (fault.Cert x)) u = inl (memory_is (fault.Cert x) u)
memory_or words k (Err fault.NoCertificate) u = inl (memory_is fault.NoCertificate u)
memory_or words k (Err (fault.Givens x)) u = inl (memory_is (fault.Givens x) u)
memory_or words k (Err fault.Memory) u = inl refl
memory_or words k (Err fault.TooLong) u = inl (memory_is fault.TooLong u)
memory_or words k (Err fault.NotText) u = inl (memory_is fault.NotText u)
memory_or words k (Err fault.Background) u = inl (memory_is fault.Background u)
memory_or words k (Err fault.BackgroundOfNon) u = inl (memory_is fault.BackgroundOfNon u)
memory_or words k (Err fault.Allowance) u = inl (memory_is fault.Allowance u)
memory_or words k (Err fault.OneFile) u = inl (memory_is fault.OneFile u)
memory_or words k (Err fault.Unfit) u = inl (memory_is fault.Unfit u)
memory_or words k (Err fault.Read) u = inl (memory_is fault.Read u)
memory_or words k (Err fault.Write) u = inl (memory_is fault.Write u)

-- ---- the task

untaken_by : (kinds : Kinds) (app : App) (words : List Text) (k : ErrorKind) (r : Result Task ProgramFault) → (takes app words ≡ true → ⊥) → IsAmong k kinds → IsUntaken words k r
    → IsTaskBy kinds app words r
untaken_by [] app words k r refused among u = absurd among
untaken_by (first ∷ more) app words k r refused among u = (refused, (k, (among, u)))

untaken_as : (kinds : Kinds) (app : App) (words : List Text) (e : Error) (r : Result Task ProgramFault) → HasKind kinds e → (takes app words ≡ true → kind_of e ≡ kind.OutOfMemory)
    → IsUntaken words (kind_of e) r
    → (r ≡ Err fault.Memory) ⊎ IsTaskBy kinds app words r
untaken_as kinds app words e r has passes u =
    let among : (kind_of e ≡ kind.OutOfMemory → ⊥) → IsAmong (kind_of e) kinds = λ other. ⊎_elim (λ memory. absurd (other memory)) (λ one. one) has in
    ⊎_elim (λ memory. inl memory) (λ other. inr (untaken_by kinds app words (kind_of e) r (λ t. other (passes t)) (among other) u)) (memory_or words (kind_of e) r u)

pub not_taken : (words : List Text) (e : Error) (r : Result Task ProgramFault) → (formats : Formats) × (AreFormats formats × ParsesAs (program_app formats) words (Err e)) → IsUntaken words (kind_of e) r
    → IsTaskOf words r
not_taken words e r p u = ⊎_elim (λ memory. inl memory) (λ told. inr (p.0, (p.1.0, told))) (untaken_as (fault_of (program_app p.0) words) (program_app p.0) words e r p.1.1.0 p.1.1.1 u)

taken_by : (kinds : Kinds) (app : App) (words : List Text) (r : Result Task ProgramFault) → kinds ≡ [] → IsNamed (subcommand_of app words) → IsAsked (subcommand_of app words) r
    → IsTaskBy kinds app words r
taken_by [] app words r none named asked = (named, asked)
taken_by (first ∷ more) app words r none named asked = absurd (some_kind first more none)

pub taken : (words : List Text) (m : ArgMatches) (r : Result Task ProgramFault) → (formats : Formats) × (AreFormats formats × ParsesAs (program_app formats) words (Ok m))
    → IsAsked (subcommand_rows_of m) r → IsTaskOf words r
taken words m r p asked =
    let fine = p.1.1.0 in
    let there = subst (λ (x : Option (Text × List Row)). IsAsked x r) p.1.1.1 asked in
    inr (p.0, (p.1.0, taken_by (fault_of (program_app p.0) words) (program_app p.0) words r fine (names_one p.0 words fine) there))
