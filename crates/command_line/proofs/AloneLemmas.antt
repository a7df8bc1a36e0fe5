-- Words that begin with `check` have by the command `check` alone what they have by the whole program.
use Rattle.std.proofs.Common.{◌≡◌, ◌&&◌, ◌++◌, ◌≤◌, true, false, List, [], ◌∷◌, Some, Result, Ok, Err, arith, codes, fold, is_some, length, map, refl, slice_index_or, subst, sym}
use Rattle.std.specs.Borrow.{Bor}
use Rattle.std.specs.List.{list_all}
use Rattle.clap.specs.Walk.{Walk, finished, nothing_held, settled, texts, walk_from, walked}
use Rattle.clap.specs.Simple.{entered, names_of}
use Rattle.clap.specs.Takes.{default_passes, entered_passes, is_valid, settle_passes, walk_passes}
use Rattle.clap.specs.Kinds.{or_else}
use Rattle.clap.specs.Faults.{check_fault, defaults_fault, entered_fault, settle_fault, walk_fault}
use Rattle.clap.specs.Words.{App, HasKind, Text, built, kind_of, subcommand_rows_of}
use Rattle.clap.specs.declared.builder.value_parser.ValueParser.{ValueParser}
use Rattle.clap.specs.declared.builder.value_parser.ValueParser.TheVariants.{Names}
use Rattle.clap.specs.declared.error.Error.{Error}
use Rattle.clap.specs.declared.error.kind.ErrorKind.TheVariants.{OutOfMemory}
use Rattle.clap.specs.declared.parser.matches.ArgMatches.{ArgMatches}
use Rattle.command_line.specs.Program.{AreFormats, Formats, ParsesAs, check_shape, program_app, top_shape}

-- what a parse gives at the rest of the words, where its walk stands in `check`, with these words of it
abbrev Goes : App → List Text → List Text → Result ArgMatches Error → Type 0
Goes a seen rest r =
    let start : Walk = record (walk_from nothing_held) { stopped = Some (codes "check", seen) } in
    let end = fold (walked a.top.rules (names_of a)) start rest in
    let has = is_some (entered a end.stopped) in
    let again = a.top.args_override_self in
    let rows = finished a.top.rules end.held in
    let fault = or_else (walk_fault a.top (names_of a) start rest) (or_else (entered_fault a end.stopped) (or_else (settle_fault a.top.rules again end.held)
    (or_else (defaults_fault (settled a.top.rules end.held).rows a.top.rules) (check_fault a.top rows has)))) in
    let fine = entered_passes a end.stopped && (walk_passes a.top (names_of a) start rest && (settle_passes a.top.rules again end.held
    && (list_all default_passes a.top.rules && is_valid a.top rows has))) in
    elim r as (λ (r : Result ArgMatches Error). Type 0) [
      | Ok m ↦ (fault ≡ []) × (subcommand_rows_of m ≡ entered a end.stopped)
      | Err e ↦ HasKind fault e × (fine ≡ true → kind_of e ≡ OutOfMemory)
    ]

-- the program with the command `check` alone
abbrev pub checking_app : App
checking_app = record { top = record top_shape { is_leaf = false }; subs = check_shape (codes "check") ∷ [] }

-- the whole program, by some formats
abbrev some_names : List Text → ValueParser
some_names names = Names (record { ref_ptr = (0, 0); now = map (λ (name : Text). let x : Bor Text = record { ref_ptr = (0, 0); now = name } in x) names })

abbrev some_formats : Formats
some_formats = (some_names (codes "ppm" ∷ codes "non" ∷ []), some_names (codes "1" ∷ codes "2" ∷ []), some_names (codes "ppm" ∷ codes "non" ∷ []))

goes_alike : (seen rest : List Text) (r : Result ArgMatches Error) → Goes (built checking_app) seen rest r → Goes (built (program_app some_formats)) seen rest r
unfolding walked walk_fault walk_passes
goes_alike seen [] r p = p
goes_alike seen (word ∷ rest) r p = goes_alike (seen ++ word ∷ []) rest r p

beginning : (word : Text) (rest : List Text) (r : Result ArgMatches Error) → word ≡ codes "check" → ParsesAs checking_app (word ∷ rest) r → ParsesAs (program_app some_formats) (word ∷ rest) r
unfolding walked walk_fault walk_passes
beginning word rest r is p =
    subst (λ (w : Text). ParsesAs (program_app some_formats) (w ∷ rest) r) (sym is) (goes_alike [] rest r (subst (λ (w : Text). ParsesAs checking_app (w ∷ rest) r) is p))

-- a parse of words that begin with `check`
pub parsed_alone : (words : List (Bor Text)) (none : Bor Text) (r : Result ArgMatches Error) → 1 ≤ length words → (slice_index_or words 0 none).now ≡ codes "check"
    → ParsesAs checking_app (texts words) r → (formats : Formats) × (AreFormats formats × ParsesAs (program_app formats) (texts words) r)
parsed_alone [] none r some is p = absurd (omega (arith, some))
parsed_alone (word ∷ rest) none r some is p = (some_formats, ((refl, refl, refl), beginning word.now (texts rest) r is p))
