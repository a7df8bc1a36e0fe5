-- The command line as it is made, and what a parse by it gives.
use Rattle.std.proofs.Common.{◌≡◌, ◌++◌, codes, true, false, List, [], ◌∷◌, Result, Ok, Err, ap, subst, ◌∙◌, IfErr, IfOk}
use Rattle.clap.specs.Words.{AddsArg, AddsSubcommand, App, FailsBy, HasMatchesOf, Rule, Shape, Text, app_of, fault_of, is_simple, is_simple_and_free, kind_of, rule_of, shape_of}
use Rattle.clap.specs.Words.{takes, with_subcommand}
use Rattle.clap.specs.declared.builder.arg.Arg.{Arg}
use Rattle.clap.specs.declared.builder.command.Command.{Command}
use Rattle.clap.specs.declared.builder.value_parser.ValueParser.{ValueParser}
use Rattle.clap.specs.declared.error.Error.{Error}
use Rattle.clap.specs.declared.error.kind.ErrorKind.TheVariants.{OutOfMemory}
use Rattle.clap.specs.declared.parser.matches.ArgMatches.{ArgMatches}
use Rattle.command_line.specs.Program.{AreFormats, AreOfCerts, AreOfFiles, Formats, IsLocal, ParsesAs, assess_shape, check_shape, program_app, prove_shape, top_shape, work_shape}

-- a command with a further argument, whose values are those of some formats
pub formatted : {E : Type 0} {s : Shape} {rule : ValueParser → Rule} {Are : ValueParser → Type 0} (base : Command) (a : Arg) (r : Result Command E) → IfOk r (AddsArg base a)
    → a.global ≡ false → shape_of base ≡ s → (formats : ValueParser) × (Are formats × (rule_of a ≡ rule formats))
    → IfOk r (λ c. (formats : ValueParser) × (Are formats × (shape_of c ≡ record s { rules = s.rules ++ rule formats ∷ [] })))
formatted base a (Err e) h g same f = h
formatted {s = s} base a (Ok c) h g same f = (
  f.0,
  (
    f.1.0,
    ap (λ (x : App). x.top) (h.shape g) ∙ ap (λ (x : Shape). let y : Shape = record x { rules = x.rules ++ rule_of a ∷ [] } in y) same
        ∙ ap (λ (x : Rule). let y : Shape = record s { rules = s.rules ++ x ∷ [] } in y) f.1.1,
  ),
)

abbrev pub bare : App
bare = record { top = top_shape; subs = [] }

-- a command with a further subcommand
pub added : (base sub new : Command) (app : App) (s : Shape) → AddsSubcommand base sub new → IsLocal sub → app_of base ≡ app → shape_of sub ≡ s → app_of new ≡ with_subcommand app s
added base sub new app s adds local was is = adds.shape local ∙ ap (λ (x : App). with_subcommand x (shape_of sub)) was ∙ ap (λ (x : Shape). with_subcommand app x) is

-- the program's command with its subcommands
pub command_made : {E : Type 0} (top work first check second prove third assess : Command) (r : Result Command E) → app_of top ≡ bare → AddsSubcommand top work first
    → AddsSubcommand first check second
    → AddsSubcommand second prove third → IfOk r (AddsSubcommand third assess) → IsLocal work → IsLocal check → IsLocal prove → IsLocal assess
    → shape_of check ≡ check_shape (codes "check") → (forms : ValueParser) × (AreOfCerts forms × (shape_of prove ≡ prove_shape forms))
    → (kinds : ValueParser) × (AreOfFiles kinds × (shape_of assess ≡ assess_shape kinds))
    → (formats : ValueParser) × (AreOfFiles formats × (shape_of work ≡ work_shape formats)) → IfOk r (λ c. (formats : Formats) × (AreFormats formats × (app_of c ≡ program_app formats)))
command_made top work first check second prove third assess (Err e) t a b d u l m o q s p k f = u
command_made top work first check second prove third assess (Ok c) t a b d u l m o q s p k f =
    let two = with_subcommand (with_subcommand bare (work_shape f.0)) (check_shape (codes "check")) in
    let one = added top work first bare (work_shape f.0) a l t f.1.1 in
    let both = added first check second (with_subcommand bare (work_shape f.0)) (check_shape (codes "check")) b m one s in
    let more = added second prove third two (prove_shape p.0) d o both p.1.1 in
    ((f.0, p.0, k.0), ((f.1.0, p.1.0, k.1.0), added third assess c (with_subcommand two (prove_shape p.0)) (assess_shape k.0) u q more k.1.1))

-- the errors by which a parse of the words fails
abbrev Fails : List Text → Result ArgMatches Error → App → Type 0
Fails words r x = is_simple_and_free x ≡ true → FailsBy (fault_of x words) r

-- what a parse by a definition gives
pub parse_made : (a : App) (c : Command) (words : List Text) (r : Result ArgMatches Error) → is_simple_and_free a ≡ true → is_simple a ≡ true → app_of c ≡ a
    → IfOk r (HasMatchesOf (app_of c) words) → IfErr r (λ e. takes (app_of c) words ≡ true → kind_of e ≡ OutOfMemory)
    → (is_simple_and_free (app_of c) ≡ true → FailsBy (fault_of (app_of c) words) r) → ParsesAs a words r
parse_made a c words (Ok m) free simple f ok err kinds =
    let given : HasMatchesOf a words m = subst (λ (x : App). HasMatchesOf x words m) f ok in
    let fails : Fails words (Ok m) a = subst (Fails words (Ok m)) f kinds in
    (fails free, (given simple).1)
parse_made a c words (Err e) free simple f ok err kinds =
    let passes : takes a words ≡ true → kind_of e ≡ OutOfMemory = subst (λ (x : App). takes x words ≡ true → kind_of e ≡ OutOfMemory) f err in
    let fails : Fails words (Err e) a = subst (Fails words (Err e)) f kinds in
    (fails free, passes)
