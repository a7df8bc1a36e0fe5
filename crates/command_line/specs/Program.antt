-- The program's command line, as the parser of words sees it.
use Rattle.std.specs.Prelude.{◌≡◌, true, false, pos, List, [], ◌∷◌, codes, map, Some, Result, Ok, Err}
use Rattle.clap.specs.Lexer.{usize_max}
use Rattle.clap.specs.Words.{App, HasKind, Rule, Shape, Text, fault_of, kind_of, new_rule, subcommand_of}
use Rattle.clap.specs.Words.{subcommand_rows_of, takes}
use Rattle.clap.specs.Simple.{new_shape}
use Rattle.clap.specs.declared.builder.command.Command.{Command}
use Rattle.clap.specs.declared.builder.command.Command.TheViews.{out-Command}
use Rattle.clap.specs.declared.builder.action.ArgAction.TheVariants.{SetTrue}
use Rattle.clap.specs.declared.builder.value_parser.ValueParser.{ValueParser}
use Rattle.clap.specs.declared.error.Error.{Error}
use Rattle.clap.specs.declared.error.kind.ErrorKind.TheVariants.{OutOfMemory}
use Rattle.clap.specs.declared.parser.matches.ArgMatches.{ArgMatches}
use Rattle.clap.specs.declared.builder.value_parser.ValueParser.TheVariants as parser

-- ---- the values

-- a required argument without a flag
abbrev pub word_rule : Text → Rule
word_rule name = record (new_rule name) { value_names = 1; required = true }

abbrev pub file_rule : Rule
file_rule = word_rule (codes "file")

abbrev pub cert_rule : Rule
cert_rule = word_rule (codes "cert")

-- one of some formats, and the one that is taken where none is named
abbrev pub format_rule : Text → ValueParser → Rule
format_rule usual formats = record (new_rule (codes "format")) {
  long = Some (codes "format");
  value_names = 1;
  defaults = usual ∷ [];
  parser = Some formats;
}

abbrev pub background_rule : Rule
background_rule = record (new_rule (codes "background")) { long = Some (codes "background"); value_names = 1 }

abbrev pub givens_rule : Rule
givens_rule = record (new_rule (codes "givens")) { long = Some (codes "givens"); value_names = 1 }

abbrev pub complete_rule : Rule
complete_rule = record (new_rule (codes "complete")) { long = Some (codes "complete"); action = Some SetTrue }

abbrev pub history_rule : Rule
history_rule = record (new_rule (codes "history")) {
  long = Some (codes "history");
  value_names = 1;
  defaults = codes "100" ∷ [];
  parser = Some (parser.Signed (pos 1) (pos 1000));
}

-- one file or more
abbrev pub files_rule : Rule
files_rule = record (word_rule (codes "files")) {
  range = Some (record {
    start_inclusive = 1;
    end_inclusive = usize_max;
  });
}

abbrev pub allow_rule : Rule
allow_rule = record (new_rule (codes "allow")) { long = Some (codes "allow"); value_names = 1 }

abbrev pub certificate_rule : Rule
certificate_rule = record (new_rule (codes "certificate")) { long = Some (codes "certificate"); value_names = 1 }

-- ---- the subcommands

abbrev pub file_shape : Shape
file_shape = record (new_shape (codes "work")) { rules = file_rule ∷ [] }

abbrev pub opening_shape : ValueParser → Shape
opening_shape formats = record (new_shape (codes "work")) { rules = file_rule ∷ format_rule (codes "ppm") formats ∷ [] }

abbrev pub work_shape : ValueParser → Shape
work_shape formats = record (new_shape (codes "work")) {
  rules = file_rule ∷ format_rule (codes "ppm") formats ∷ background_rule ∷ history_rule ∷ [];
}

-- the check of a certificate, under a name
abbrev pub pair_shape : Text → Shape
pair_shape name = record (new_shape name) { rules = file_rule ∷ cert_rule ∷ [] }

abbrev pub check_shape : Text → Shape
check_shape name = record (new_shape name) { rules = file_rule ∷ cert_rule ∷ givens_rule ∷ background_rule ∷ [] }

abbrev pub proving_shape : Shape
proving_shape = record (new_shape (codes "prove")) { rules = file_rule ∷ background_rule ∷ [] }

abbrev pub searching_shape : Shape
searching_shape = record (new_shape (codes "prove")) {
  rules = file_rule ∷ background_rule ∷ givens_rule ∷ complete_rule ∷ [];
}

abbrev pub prove_shape : ValueParser → Shape
prove_shape forms = record (new_shape (codes "prove")) {
  rules = file_rule ∷ background_rule ∷ givens_rule ∷ complete_rule ∷ format_rule (codes "2") forms ∷ [];
}

abbrev pub puzzles_shape : Shape
puzzles_shape = record (new_shape (codes "assess")) { rules = files_rule ∷ [] }

abbrev pub assessing_shape : ValueParser → Shape
assessing_shape formats =
    record (new_shape (codes "assess")) { rules = files_rule ∷ format_rule (codes "ppm") formats ∷ [] }

abbrev pub bounding_shape : ValueParser → Shape
bounding_shape formats = record (new_shape (codes "assess")) {
  rules = files_rule ∷ format_rule (codes "ppm") formats ∷ background_rule ∷ allow_rule ∷ [];
}

abbrev pub assess_shape : ValueParser → Shape
assess_shape formats = record (new_shape (codes "assess")) {
  rules = files_rule ∷ format_rule (codes "ppm") formats ∷ background_rule ∷ allow_rule ∷ givens_rule
      ∷ certificate_rule ∷ [];
}

-- ---- the program

abbrev pub top_shape : Shape
top_shape = record (new_shape (codes "nonobench")) {
  has_version = true;
  no_binary_name = true;
  subcommand_required = true;
}

-- the parsers of the formats of a session's file, of those of a certificate, and of those of a puzzle's file
abbrev pub Formats : Type 0
Formats = ValueParser × ValueParser × ValueParser

abbrev pub program_app : Formats → App
program_app formats = record {
  top = record top_shape { is_leaf = false };
  subs = work_shape formats.0 ∷ check_shape (codes "check") ∷ prove_shape formats.1 ∷ assess_shape formats.2 ∷ [];
}

-- one of these names is taken
abbrev pub Takes : List Text → ValueParser → Type 0
Takes texts (parser.Names names) = map (λ s. s.now) names.now ≡ texts
Takes texts _ = ⊥

-- the formats that the file of a session or of a puzzle can have
abbrev pub AreOfFiles : ValueParser → Type 0
AreOfFiles formats = Takes (codes "ppm" ∷ codes "non" ∷ []) formats

-- the formats that a certificate can be made in, by their numbers
abbrev pub AreOfCerts : ValueParser → Type 0
AreOfCerts formats = Takes (codes "1" ∷ codes "2" ∷ []) formats

abbrev pub AreFormats : Formats → Type 0
AreFormats formats = AreOfFiles formats.0 × AreOfCerts formats.1 × AreOfFiles formats.2

-- a command with no global argument
abbrev pub IsLocal : Command → Type 0
IsLocal c = (out-Command c).has_globals ≡ false

-- What a parse of words by a definition gives. Where they have no error, it has the name and the rows of the
-- subcommand that they name. Else its error is of a kind of their error, or memory ran out; where the definition
-- takes the words, only memory can have run out.
abbrev pub ParsesAs : App → List Text → Result ArgMatches Error → Type 0
ParsesAs app words (Ok m) = (fault_of app words ≡ []) × (subcommand_rows_of m ≡ subcommand_of app words)
ParsesAs app words (Err e) = HasKind (fault_of app words) e × (takes app words ≡ true → kind_of e ≡ OutOfMemory)
