-- What the words of each command ask for, where the words that name files do not begin with a hyphen.
use Rattle.std.proofs.Common.{◌≡◌, ◌==◌, ◌||◌, ◌<◌, ◌≤◌, ◌++◌, append_assoc, append-nil, is_some, length, nat_lt, ℕ, Bool, cond, true, false, List, [], ◌∷◌, codes, map, fold, Option, None, Some, Result, Ok, Err, refl, ap, subst, sym, ◌∙◌, arith, inl, inr, eqb-true, rules, true≢false}
use Rattle.std.specs.Borrow.{Bor}
use Rattle.std.specs.List.{AllByRecursion, list_any}
use Rattle.std.proofs.lemmas.Bool.{le-ltb}
use Rattle.clap.specs.Lexer.{usize_max}
use Rattle.clap.specs.Values.{refused_kind, same_text}
use Rattle.clap.specs.ValueTests.{accepts}
use Rattle.clap.specs.Walk.{Held, Names, Row, Rule, Step, Text, Waiting, Walk, idle, option, positional}
use Rattle.clap.specs.Walk.{after_step, finished, nothing_held, plain_word, settled, walk_from, walked, word_met}
use Rattle.clap.specs.Simple.{App, Shape, built, built_leaf, entered, inherited, marked_built, names_of, rows_at, with_leaf_noted}
use Rattle.clap.specs.Kinds.{Kinds, or_else, range_kinds, values_kinds}
use Rattle.clap.specs.declared.error.kind.ErrorKind.TheVariants.{InvalidValue, TooFewValues, TooManyValues}
use Rattle.clap.specs.Faults.{check_fault, defaults_fault, entered_fault, fault_of, level_fault, settle_fault, step_fault, turn_fault, walk_fault, word_fault}
use Rattle.clap.specs.Words.{subcommand_of}
use Rattle.clap.specs.declared.builder.value_parser.Reading.TheVariants.{AsWritten}
use Rattle.clap.specs.declared.parser.matches.ValueSource.TheVariants.{CommandLine}
use Rattle.clap.specs.declared.builder.value_parser.ValueParser.{ValueParser}
use Rattle.clap.specs.declared.builder.value_parser.ValueParser.TheVariants as vp
use Rattle.clap.proofs.OnLiterals.{clap_on_literals}
use Rattle.picture.specs.declared.rgb.Rgb.{Rgb}
use Rattle.command_text.specs.declared.command.TheConstants.{ASSESS_SPLITS}
use Rattle.program_options.specs.Background.{background_of}
use Rattle.program_options.specs.declared.assessing.AssessOptions.{AssessOptions}
use Rattle.program_options.specs.declared.fault.ProgramFault.{ProgramFault}
use Rattle.program_options.specs.declared.fault.ProgramFault.TheVariants as fault
use Rattle.program_options.specs.declared.options.Options.{Options}
use Rattle.program_options.specs.declared.options.ProveOptions.{ProveOptions}
use Rattle.command_line.specs.declared.words.Task.{Task}
use Rattle.command_line.specs.declared.words.Task.TheVariants.{Assess, Check, Prove, Work}
use Rattle.command_line.specs.Laws.{AskFor, IsAssessBy, IsCheckBy, IsOnly, IsPlain, IsProveBy, IsWorkBy, WordsAreKnown, complete_search, default_assessment, default_options, default_search}
use Rattle.command_line.specs.Program.{AreFormats, Formats, Takes, assess_shape, check_shape, program_app, prove_shape, top_shape, work_shape}
use Rattle.command_line.specs.Words.{AreAssessOptions, AreOptions, AreProveOptions, Given, IsAsked, IsAssess, IsCheck, IsProve, IsTaskBy, IsWork, Spells, allowance_asked, background_asked, background_named}

no_hyphen : (first : ℕ) → (first ≡ 45 → ⊥) → (first == 45) ≡ false
no_hyphen first n = by (first == 45) refl
  where
    by : (b : Bool) → (first == 45) ≡ b → (first == 45) ≡ false
    by true e = absurd (n (eqb-true first 45 e))
    by false e = e

not_zero : (n : ℕ) → 1 ≤ n → (n == 0) ≡ false
not_zero n some = by (n == 0) refl
  where
    by : (b : Bool) → (n == 0) ≡ b → (n == 0) ≡ false
    by true e = absurd (omega (arith, some, eqb-true n 0 e))
    by false e = e

-- ---- a word that does not begin with a hyphen

-- it is no flag
met_plain : (c : List Rule) (waiting : Waiting) (position : ℕ) (word : Text) (h : Held) → IsPlain word → word_met c [] false waiting position word h ≡ plain_word c waiting word h
met_plain c idle position [] h n = refl
met_plain c (option id) position [] h n = refl
met_plain c positional position [] h n = refl
met_plain c idle position (first ∷ rest) h n = let e = no_hyphen first n in rw e (rw e refl)
met_plain c (option id) position (first ∷ rest) h n = let e = no_hyphen first n in rw e (rw e refl)
met_plain c positional position (first ∷ rest) h n = let e = no_hyphen first n in rw e (rw e refl)

-- and has no error as one
flag_plain : (s : Shape) (waiting : Waiting) (word : Text) (h : Held) → IsPlain word → word_fault s [] false waiting word h ≡ []
flag_plain s idle [] h n = refl
flag_plain s (option id) [] h n = refl
flag_plain s positional [] h n = refl
flag_plain s idle (first ∷ rest) h n = let e = no_hyphen first n in rw e (rw e refl)
flag_plain s (option id) (first ∷ rest) h n = let e = no_hyphen first n in rw e (rw e refl)
flag_plain s positional (first ∷ rest) h n = let e = no_hyphen first n in rw e (rw e refl)

abbrev at : Held → Waiting → ℕ → Walk
at h waiting position = record { held = h; waiting = waiting; position = position; is_trailing = false; stopped = None }

walked_plain : (c : List Rule) (h : Held) (waiting : Waiting) (position : ℕ) (word : Text) → IsPlain word
    → walked c [] (at h waiting position) word ≡ after_step c word (at h waiting position) (plain_word c waiting word h).0 (plain_word c waiting word h).1
unfolding walked
walked_plain c h waiting position word n = ap (λ (m : Held × Step). after_step c word (at h waiting position) m.0 m.1) (met_plain c waiting position word h n)

turn_plain : (s : Shape) (h : Held) (waiting : Waiting) (position : ℕ) (word : Text) → IsPlain word
    → turn_fault s [] (at h waiting position) word ≡ step_fault s position (plain_word s.rules waiting word h).0 (plain_word s.rules waiting word h).1
turn_plain s h waiting position word n = λ i. or_else (flag_plain s waiting word h n i) (step_fault s position (met_plain s.rules waiting position word h n i).0 (met_plain s.rules waiting position word h n i).1)

-- ---- a walk that has no error

-- a walk over these words, by which this is held
record Walks (s : Shape) (w : Walk) (words : List Text) (end : Held) : Type 0 where
  held : (fold (walked s.rules []) w words).held ≡ end
  fault : walk_fault s [] w words ≡ []

walks_end : (s : Shape) (w : Walk) → Walks s w [] w.held
unfolding walk_fault
walks_end s w = record { held = refl; fault = refl }

walks_flag : (s : Shape) (w next : Walk) (word : Text) (rest : List Text) (end : Held) → walked s.rules [] w word ≡ next → turn_fault s [] w word ≡ [] → Walks s next rest end → Walks s w (word ∷ rest) end
unfolding walk_fault
walks_flag s w next word rest end goes fine later = record {
  held = ap (λ (x : Walk). (fold (walked s.rules []) x rest).held) goes ∙ later.held;
  fault = (λ i. or_else (fine i) (walk_fault s [] (goes i) rest)) ∙ later.fault;
}

walks_plain : (s : Shape) (h : Held) (waiting : Waiting) (position : ℕ) (next : Walk) (word : Text) (rest : List Text) (end : Held) → IsPlain word
    → after_step s.rules word (at h waiting position) (plain_word s.rules waiting word h).0 (plain_word s.rules waiting word h).1 ≡ next
    → step_fault s position (plain_word s.rules waiting word h).0 (plain_word s.rules waiting word h).1 ≡ []
    → Walks s next rest end → Walks s (at h waiting position) (word ∷ rest) end
walks_plain s h waiting position next word rest end n goes fine later =
    walks_flag s (at h waiting position) next word rest end (walked_plain s.rules h waiting position word n ∙ goes) (turn_plain s h waiting position word n ∙ fine) later

-- the errors after a walk
abbrev ends : Shape → Held → Kinds
ends s end = or_else (settle_fault s.rules s.args_override_self end)
    (or_else (defaults_fault (settled s.rules end).rows s.rules) (check_fault s (finished s.rules end) false))

level_fine : (s : Shape) (words : List Text) (end : Held) → Walks s (walk_from nothing_held) words end → ends s end ≡ [] → level_fault s [] nothing_held words false [] ≡ []
level_fine s words end w fine = (λ i. or_else (w.fault i) (ends s (w.held i))) ∙ fine

rows_held : (s : Shape) (words : List Text) (end : Held) → Walks s (walk_from nothing_held) words end → rows_at s words ≡ (s.name, finished s.rules end)
rows_held s words end w = ap (λ (h : Held). let found : Text × List Row = (s.name, finished s.rules h) in found) w.held

-- ---- the format that is taken where none is named

accepts_names : (names : List (Bor Text)) (text : Text) → list_any (λ (name : Bor Text). same_text false name.now text) names ≡ list_any (λ (name : Text). same_text false name text) (map (λ s. s.now) names)
accepts_names [] text = refl
accepts_names (name ∷ names) text = ap (λ (b : Bool). same_text false name.now text || b) (accepts_names names text)

accepts_one : (names : List Text) (formats : ValueParser) (text : Text) → Takes names formats → list_any (λ (name : Text). same_text false name text) names ≡ true → accepts false formats text ≡ true
accepts_one names (vp.Names held) text are is = accepts_names held.now text ∙ ap (λ (ns : List Text). list_any (λ (name : Text). same_text false name text) ns) are ∙ is
accepts_one names formats text are is = absurd are

-- ---- the commands as the parser builds them

abbrev leaf : Shape → Shape
leaf s = built_leaf (inherited (with_leaf_noted (marked_built (record top_shape { is_leaf = false }))) s)

abbrev holding : Text → List Text → List Row → Held
holding id values rows = record { rows = rows; pending = Some (id, values); skip = 0 }

abbrev check_leaf : Shape
check_leaf = leaf (check_shape (codes "check"))

abbrev prove_leaf : Formats → Shape
prove_leaf formats = leaf (prove_shape formats.1)

abbrev work_leaf : Formats → Shape
work_leaf formats = leaf (work_shape formats.0)

abbrev assess_leaf : Formats → Shape
assess_leaf formats = leaf (assess_shape formats.2)

-- a value of an option or a flag on the words
abbrev given_row : Text → List Text → Row
given_row id values = record { id = id; values = values; count = None; source = Some CommandLine; reading = AsWritten }

abbrev start : Walk
start = at nothing_held idle 1

abbrev mid : Text → List Text → List Row → ℕ → Walk
mid id values rows position = at (holding id values rows) idle position

-- ---- check

check_walks : (file cert : Text) → IsPlain file → IsPlain cert → Walks check_leaf start (file ∷ cert ∷ []) (holding (codes "cert") (cert ∷ []) (given_row (codes "file") (file ∷ []) ∷ []))
check_walks file cert f c =
    let rows : List Row = given_row (codes "file") (file ∷ []) ∷ [] in
    let second : Walk = mid (codes "cert") (cert ∷ []) rows 3 in
    walks_plain check_leaf nothing_held idle 1 (mid (codes "file") (file ∷ []) [] 2) file (cert ∷ []) second.held f refl refl
    (walks_plain check_leaf (holding (codes "file") (file ∷ []) []) idle 2 second cert [] second.held c refl refl (walks_end check_leaf second))

-- ---- the walk of each command

check_on_walks : (colour file cert : Text) → IsPlain colour → IsPlain file → IsPlain cert
    → Walks check_leaf start (codes "--background" ∷ colour ∷ file ∷ cert ∷ [])
    (holding (codes "cert") (cert ∷ []) (given_row (codes "background") (colour ∷ []) ∷ given_row (codes "file") (file ∷ []) ∷ []))
unfolding clap_on_literals
check_on_walks colour file cert g f c =
    let with : List Row = given_row (codes "background") (colour ∷ []) ∷ [] in
    let rows : List Row = given_row (codes "background") (colour ∷ []) ∷ given_row (codes "file") (file ∷ []) ∷ [] in
    let last : Walk = mid (codes "cert") (cert ∷ []) rows 3 in
    walks_flag check_leaf start (at (holding (codes "background") [] []) (option (codes "background")) 1) (codes "--background") (colour ∷ file ∷ cert ∷ []) last.held refl refl
    (walks_plain check_leaf (holding (codes "background") [] []) (option (codes "background")) 1 (mid (codes "background") (colour ∷ []) [] 1) colour (file ∷ cert ∷ []) last.held g refl refl
    (walks_plain check_leaf (holding (codes "background") (colour ∷ []) []) idle 1 (mid (codes "file") (file ∷ []) with 2) file (cert ∷ []) last.held f refl refl
    (walks_plain check_leaf (holding (codes "file") (file ∷ []) with) idle 2 last cert [] last.held c refl refl (walks_end check_leaf last))))

check_with_walks : (givens file cert : Text) → IsPlain givens → IsPlain file → IsPlain cert
    → Walks check_leaf start (codes "--givens" ∷ givens ∷ file ∷ cert ∷ [])
    (holding (codes "cert") (cert ∷ []) (given_row (codes "givens") (givens ∷ []) ∷ given_row (codes "file") (file ∷ []) ∷ []))
unfolding clap_on_literals
check_with_walks givens file cert g f c =
    let with : List Row = given_row (codes "givens") (givens ∷ []) ∷ [] in
    let rows : List Row = given_row (codes "givens") (givens ∷ []) ∷ given_row (codes "file") (file ∷ []) ∷ [] in
    let last : Walk = mid (codes "cert") (cert ∷ []) rows 3 in
    walks_flag check_leaf start (at (holding (codes "givens") [] []) (option (codes "givens")) 1) (codes "--givens") (givens ∷ file ∷ cert ∷ []) last.held refl refl
    (walks_plain check_leaf (holding (codes "givens") [] []) (option (codes "givens")) 1 (mid (codes "givens") (givens ∷ []) [] 1) givens (file ∷ cert ∷ []) last.held g refl refl
    (walks_plain check_leaf (holding (codes "givens") (givens ∷ []) []) idle 1 (mid (codes "file") (file ∷ []) with 2) file (cert ∷ []) last.held f refl refl
    (walks_plain check_leaf (holding (codes "file") (file ∷ []) with) idle 2 last cert [] last.held c refl refl (walks_end check_leaf last))))

work_walks : (formats : Formats) (file : Text) → IsPlain file → Walks (work_leaf formats) start (file ∷ []) (holding (codes "file") (file ∷ []) [])
work_walks formats file f =
    let last : Walk = mid (codes "file") (file ∷ []) [] 2 in
    walks_plain (work_leaf formats) nothing_held idle 1 last file [] last.held f refl refl (walks_end (work_leaf formats) last)

prove_walks : (formats : Formats) (file : Text) → IsPlain file → Walks (prove_leaf formats) start (file ∷ []) (holding (codes "file") (file ∷ []) [])
prove_walks formats file f =
    let last : Walk = mid (codes "file") (file ∷ []) [] 2 in
    walks_plain (prove_leaf formats) nothing_held idle 1 last file [] last.held f refl refl (walks_end (prove_leaf formats) last)

prove_complete_walks : (formats : Formats) (file : Text) → IsPlain file
    → Walks (prove_leaf formats) start (codes "--complete" ∷ file ∷ []) (holding (codes "file") (file ∷ []) (given_row (codes "complete") (codes "true" ∷ []) ∷ []))
unfolding clap_on_literals
prove_complete_walks formats file f =
    let rows : List Row = given_row (codes "complete") (codes "true" ∷ []) ∷ [] in
    let first : Held = record { rows = rows; pending = None; skip = 0 } in
    let last : Walk = mid (codes "file") (file ∷ []) rows 2 in
    walks_flag (prove_leaf formats) start (at first idle 1) (codes "--complete") (file ∷ []) last.held refl refl
    (walks_plain (prove_leaf formats) first idle 1 last file [] last.held f refl refl (walks_end (prove_leaf formats) last))

prove_with_walks : (formats : Formats) (givens file : Text) → IsPlain givens → IsPlain file
    → Walks (prove_leaf formats) start (codes "--givens" ∷ givens ∷ file ∷ []) (holding (codes "file") (file ∷ []) (given_row (codes "givens") (givens ∷ []) ∷ []))
unfolding clap_on_literals
prove_with_walks formats givens file g f =
    let with : List Row = given_row (codes "givens") (givens ∷ []) ∷ [] in
    let last : Walk = mid (codes "file") (file ∷ []) with 2 in
    walks_flag (prove_leaf formats) start (at (holding (codes "givens") [] []) (option (codes "givens")) 1) (codes "--givens") (givens ∷ file ∷ []) last.held refl refl
    (walks_plain (prove_leaf formats) (holding (codes "givens") [] []) (option (codes "givens")) 1 (mid (codes "givens") (givens ∷ []) [] 1) givens (file ∷ []) last.held g refl refl
    (walks_plain (prove_leaf formats) (holding (codes "givens") (givens ∷ []) []) idle 1 last file [] last.held f refl refl (walks_end (prove_leaf formats) last)))

-- a positional that takes all words
assess_on : (formats : Formats) (seen files : List Text) (end : Held) → AllByRecursion IsPlain files → holding (codes "files") (seen ++ files) [] ≡ end
    → Walks (assess_leaf formats) (at (holding (codes "files") seen []) positional 1) files end
assess_on formats seen [] end all is =
    subst (Walks (assess_leaf formats) (at (holding (codes "files") seen []) positional 1) [])
    (ap (λ (t : List Text). holding (codes "files") t []) (sym (append-nil seen)) ∙ is) (walks_end (assess_leaf formats) (at (holding (codes "files") seen []) positional 1))
assess_on formats seen (file ∷ files) end (plain, all) is =
    let later : List Text = seen ++ file ∷ [] in
    walks_plain (assess_leaf formats) (holding (codes "files") seen []) positional 1 (at (holding (codes "files") later []) positional 1) file files end plain refl refl
    (assess_on formats later files end all (ap (λ (t : List Text). holding (codes "files") t []) (append_assoc seen (file ∷ []) files) ∙ is))

assess_walks : (formats : Formats) (file : Text) (files : List Text) → IsPlain file → AllByRecursion IsPlain files
    → Walks (assess_leaf formats) start (file ∷ files) (holding (codes "files") (file ∷ files) [])
assess_walks formats file files f all =
    let end : Held = holding (codes "files") (file ∷ files) [] in
    walks_plain (assess_leaf formats) nothing_held idle 1 (at (holding (codes "files") (file ∷ []) []) positional 1) file files end f refl refl (assess_on formats (file ∷ []) files end all refl)

-- ---- no error after it

-- the only error that is left is that of a default format which is not taken
taken_format : (formats : ValueParser) (text : Text) → accepts false formats text ≡ true → or_else (or_else (or_else (cond (accepts false formats text) [] (refused_kind formats ∷ [])) []) []) [] ≡ []
taken_format formats text is = ap (λ (b : Bool). or_else (or_else (or_else (cond b [] (refused_kind formats ∷ [])) []) []) []) is

check_ends : (file cert : Text) → ends check_leaf (holding (codes "cert") (cert ∷ []) (given_row (codes "file") (file ∷ []) ∷ [])) ≡ []
unfolding clap_on_literals
check_ends file cert = refl

check_on_ends : (colour file cert : Text)
    → ends check_leaf (holding (codes "cert") (cert ∷ []) (given_row (codes "background") (colour ∷ []) ∷ given_row (codes "file") (file ∷ []) ∷ [])) ≡ []
unfolding clap_on_literals
check_on_ends colour file cert = refl

check_with_ends : (givens file cert : Text)
    → ends check_leaf (holding (codes "cert") (cert ∷ []) (given_row (codes "givens") (givens ∷ []) ∷ given_row (codes "file") (file ∷ []) ∷ [])) ≡ []
unfolding clap_on_literals
check_with_ends givens file cert = refl

work_ends : (formats : Formats) (file : Text) → accepts false formats.0 (codes "ppm") ≡ true → ends (work_leaf formats) (holding (codes "file") (file ∷ []) []) ≡ []
unfolding clap_on_literals
work_ends formats file is = taken_format formats.0 (codes "ppm") is

prove_ends : (formats : Formats) (file : Text) → accepts false formats.1 (codes "2") ≡ true → ends (prove_leaf formats) (holding (codes "file") (file ∷ []) []) ≡ []
unfolding clap_on_literals
prove_ends formats file is = taken_format formats.1 (codes "2") is

prove_complete_ends : (formats : Formats) (file : Text) → accepts false formats.1 (codes "2") ≡ true
    → ends (prove_leaf formats) (holding (codes "file") (file ∷ []) (given_row (codes "complete") (codes "true" ∷ []) ∷ [])) ≡ []
unfolding clap_on_literals
prove_complete_ends formats file is = taken_format formats.1 (codes "2") is

prove_with_ends : (formats : Formats) (givens file : Text) → accepts false formats.1 (codes "2") ≡ true
    → ends (prove_leaf formats) (holding (codes "file") (file ∷ []) (given_row (codes "givens") (givens ∷ []) ∷ [])) ≡ []
unfolding clap_on_literals
prove_with_ends formats givens file is = taken_format formats.1 (codes "2") is

-- so many values
in_range : (n : ℕ) → 1 ≤ n → n ≤ usize_max → range_kinds 1 usize_max n ≡ []
in_range n some few =
    let none : (n == 0) ≡ false = not_zero n some in
    let low : nat_lt n 1 ≡ false = le-ltb n 1 some in
    let high : nat_lt usize_max n ≡ false = le-ltb usize_max n few in
    λ i. cond (none i) (InvalidValue ∷ []) (cond (low i) (TooFewValues ∷ []) (cond (high i) (TooManyValues ∷ []) []))

any_text : (values : List Text) → values_kinds false vp.String values ≡ []
any_text [] = refl
any_text (value ∷ values) = any_text values

assess_ends : (formats : Formats) (file : Text) (files : List Text) → length files < usize_max → accepts false formats.2 (codes "ppm") ≡ true
    → ends (assess_leaf formats) (holding (codes "files") (file ∷ files) []) ≡ []
unfolding clap_on_literals
assess_ends formats file files few is =
    let range : range_kinds 1 usize_max (length (file ∷ files)) ≡ [] = in_range (length (file ∷ files)) (omega arith) (omega (arith, few)) in
    (λ i. or_else (or_else (range i) (any_text (file ∷ files) i)) (or_else (or_else (or_else (cond (accepts false formats.2 (codes "ppm")) [] (refused_kind formats.2 ∷ [])) []) []) []))
    ∙ taken_format formats.2 (codes "ppm") is

-- ---- the whole program

-- these words have no error, and enter this subcommand with these words after it
record Enters (formats : Formats) (words : List Text) (s : Shape) (rest : List Text) : Type 0 where
  fault : level_fault s [] nothing_held rest false [] ≡ [] → fault_of (program_app formats) words ≡ []
  rows : subcommand_of (program_app formats) words ≡ Some (rows_at s rest)

enters_check : (formats : Formats) (a b : Text) → Enters formats (codes "check" ∷ a ∷ b ∷ []) check_leaf (a ∷ b ∷ [])
unfolding clap_on_literals
enters_check formats a b = record { fault = λ e. ap (λ (k : Kinds). or_else k []) e; rows = refl }

enters_check_with : (formats : Formats) (a b c d : Text) → Enters formats (codes "check" ∷ a ∷ b ∷ c ∷ d ∷ []) check_leaf (a ∷ b ∷ c ∷ d ∷ [])
unfolding clap_on_literals
enters_check_with formats a b c d = record { fault = λ e. ap (λ (k : Kinds). or_else k []) e; rows = refl }

enters_work : (formats : Formats) (a : Text) → Enters formats (codes "work" ∷ a ∷ []) (work_leaf formats) (a ∷ [])
unfolding clap_on_literals
enters_work formats a = record { fault = λ e. ap (λ (k : Kinds). or_else k []) e; rows = refl }

enters_prove : (formats : Formats) (a : Text) → Enters formats (codes "prove" ∷ a ∷ []) (prove_leaf formats) (a ∷ [])
unfolding clap_on_literals
enters_prove formats a = record { fault = λ e. ap (λ (k : Kinds). or_else k []) e; rows = refl }

enters_prove_complete : (formats : Formats) (a b : Text) → Enters formats (codes "prove" ∷ a ∷ b ∷ []) (prove_leaf formats) (a ∷ b ∷ [])
unfolding clap_on_literals
enters_prove_complete formats a b = record { fault = λ e. ap (λ (k : Kinds). or_else k []) e; rows = refl }

enters_prove_with : (formats : Formats) (a b c : Text) → Enters formats (codes "prove" ∷ a ∷ b ∷ c ∷ []) (prove_leaf formats) (a ∷ b ∷ c ∷ [])
unfolding clap_on_literals
enters_prove_with formats a b c = record { fault = λ e. ap (λ (k : Kinds). or_else k []) e; rows = refl }

-- where a walk has met a subcommand, all later words are its
abbrev inside : Walk → Text → List Text → Walk
inside w name seen = record w { stopped = Some (name, seen) }

stays : (s : Shape) (names : Names) (w : Walk) (name : Text) (seen rest : List Text) → fold (walked s.rules names) (inside w name seen) rest ≡ inside w name (seen ++ rest)
unfolding walked
stays s names w name seen [] = ap (inside w name) (sym (append-nil seen))
stays s names w name seen (word ∷ rest) = stays s names w name (seen ++ word ∷ []) rest ∙ ap (inside w name) (append_assoc seen (word ∷ []) rest)

stays_fine : (s : Shape) (names : Names) (w : Walk) (name : Text) (seen rest : List Text) → walk_fault s names (inside w name seen) rest ≡ []
unfolding walked walk_fault
stays_fine s names w name seen [] = refl
stays_fine s names w name seen (word ∷ rest) = stays_fine s names w name (seen ++ word ∷ []) rest

-- what a level says by the walk at its end, and by the errors of the words
abbrev told : App → Walk → Kinds → Kinds
told app end words_fault =
    let has = is_some (entered app end.stopped) in
    or_else words_fault (or_else (entered_fault app end.stopped) (or_else (settle_fault app.top.rules app.top.args_override_self end.held)
    (or_else (defaults_fault (settled app.top.rules end.held).rows app.top.rules) (check_fault app.top (finished app.top.rules end.held) has))))

enters_assess : (formats : Formats) (words : List Text) → Enters formats (codes "assess" ∷ words) (assess_leaf formats) words
unfolding clap_on_literals
enters_assess formats words =
    let app : App = built (program_app formats) in
    let goes = stays app.top (names_of app) start (codes "assess") [] words in
    let fine = stays_fine app.top (names_of app) start (codes "assess") [] words in
    record {
      fault = λ e. (λ i. told app (goes i) (fine i)) ∙ ap (λ (k : Kinds). or_else k []) e;
      rows = ap (λ (w : Walk). entered app w.stopped) goes;
    }

-- what is asked for by such words
module _ (formats : Formats) (words : List Text) (s : Shape) (rest : List Text) (end : Held) (enters : Enters formats words s rest) (w : Walks s (walk_from nothing_held) rest end)
    (fine : ends s end ≡ []) where
  asked : (r : Result Task ProgramFault) → IsTaskBy (fault_of (program_app formats) words) (program_app formats) words r → IsAsked (Some (s.name, finished s.rules end)) r
  asked r h =
      let none : fault_of (program_app formats) words ≡ [] = enters.fault (level_fine s rest end w fine) in
      let by : IsTaskBy [] (program_app formats) words r = subst (λ (k : Kinds). IsTaskBy k (program_app formats) words r) none h in
      subst (λ (e : Option (Text × List Row)). IsAsked e r) (enters.rows ∙ ap Some (rows_held s rest end w)) by.1

memory_only : (Is : Task → Type 0) (r : Result Task ProgramFault) → r ≡ Err fault.Memory → IsOnly Is r
memory_only Is r e = subst (IsOnly Is) (sym e) refl

ask_for : (words : List Text) (Is : Task → Type 0)
    → ((formats : Formats) → AreFormats formats → (r : Result Task ProgramFault) → IsTaskBy (fault_of (program_app formats) words) (program_app formats) words r → IsOnly Is r) → AskFor words Is
ask_for words Is by r (inl e) = memory_only Is r e
ask_for words Is by r (inr (formats, (are, h))) = by formats are r h

-- ---- what is given

abbrev given_file : Text → Given
given_file file = record {
  file = Some file;
  cert = None;
  givens = None;
  format = None;
  background = None;
  history = None;
  complete = None;
  files = [];
  certificate = None;
  allow = None;
}

abbrev given_check : Text → Text → Option Text → Given
given_check file cert givens = record (given_file file) { cert = Some cert; givens = givens }

abbrev given_work : Text → Given
given_work file = record (given_file file) { format = Some (codes "ppm"); history = Some (codes "100") }

abbrev given_prove : Text → Option Text → Text → Given
given_prove file givens complete = record (given_file file) { givens = givens; format = Some (codes "2"); complete = Some complete }

abbrev given_assess : List Text → Given
given_assess files = record (given_file []) { file = None; format = Some (codes "ppm"); files = files }

-- ---- the options

a_hundred : Spells (codes "100") 100
a_hundred = record { numeral = search rules; value = refl }

abbrev text_in : Option Text → Text
text_in None = []
text_in (Some text) = text

abbrev starts_with : Text → ℕ
starts_with [] = 0
starts_with (x ∷ xs) = x

ppm_is_not_non : Some (codes "ppm") ≡ Some (codes "non") → ⊥
ppm_is_not_non e = let same : 112 ≡ 110 = ap (λ (t : Option Text). starts_with (text_in t)) e in absurd (omega (arith, same))

two_is_not_one : Some (codes "2") ≡ Some (codes "1") → ⊥
two_is_not_one e = let same : 50 ≡ 49 = ap (λ (t : Option Text). starts_with (text_in t)) e in absurd (omega (arith, same))

not_true : (b : Bool) → (b ≡ true → ⊥) → b ≡ false
not_true true n = absurd (n refl)
not_true false n = refl

no_colour : (background : Option Rgb) → background_asked None ≡ Ok background → background ≡ None
no_colour background e = cc

no_refusal : (e : ProgramFault) → background_asked None ≡ Err e → ⊥
no_refusal e is = absurd cc

no_allowance : (e : ProgramFault) → allowance_asked None ≡ Err e → ⊥
no_allowance e is = absurd cc

the_allowance : (allowance : Option ℕ) → allowance_asked None ≡ Ok allowance → allowance ≡ Some ASSESS_SPLITS
the_allowance allowance e = cc

options_are : (file : Text) (options : Options) → AreOptions (given_work file) options → options ≡ default_options
options_are file options are =
    let format : options.non ≡ false = not_true options.non (λ t. ppm_is_not_non (are.format.0 t)) in
    let background : options.background ≡ None = no_colour options.background are.background in
    let history : options.history ≡ 100 = are.history (codes "100") 100 (omega arith) (omega arith) a_hundred refl in
    λ i. record { non = format i; background = background i; history = history i }

search_is : (file : Text) (givens : Option Text) (options : ProveOptions) → AreProveOptions (given_prove file givens (codes "false")) options → options ≡ default_search
search_is file givens options are =
    let background : options.background ≡ None = no_colour options.background are.background in
    let single : options.single ≡ false = not_true options.single (λ t. two_is_not_one (are.single.0 t)) in
    let complete : options.complete ≡ false = are.bounded refl in
    λ i. record { background = background i; single = single i; complete = complete i }

complete_is : (file : Text) (givens : Option Text) (options : ProveOptions) → AreProveOptions (given_prove file givens (codes "true")) options → options ≡ complete_search
complete_is file givens options are =
    let background : options.background ≡ None = no_colour options.background are.background in
    let single : options.single ≡ false = not_true options.single (λ t. two_is_not_one (are.single.0 t)) in
    let complete : options.complete ≡ true = are.complete refl in
    λ i. record { background = background i; single = single i; complete = complete i }

assessment_is : (files : List Text) (options : AssessOptions) → AreAssessOptions (given_assess files) options → options ≡ default_assessment
assessment_is files options are =
    let format : options.non ≡ false = not_true options.non (λ t. ppm_is_not_non (are.format.0 t)) in
    let background : options.background ≡ None = no_colour options.background are.background in
    let allowance : options.allowance ≡ Some ASSESS_SPLITS = the_allowance options.allowance are.allowance in
    λ i. record { non = format i; background = background i; allowance = allowance i }

-- ---- the tasks

work_only : (file : Text) (r : Result Task ProgramFault) → IsWork (given_work file) r → IsOnly (IsWorkBy file default_options) r
work_only file (Ok (Work path options)) is = (is.0, options_are file options is.1)
work_only file (Ok task) is = absurd is
work_only file (Err e) (inl is) = absurd (no_refusal e is)
work_only file (Err e) (inr is) = absurd (ppm_is_not_non is.1.0)

check_only : (file cert : Text) (givens : Option Text) (r : Result Task ProgramFault) → IsCheck (given_check file cert givens) r → IsOnly (IsCheckBy file cert givens None) r
check_only file cert givens (Ok (Check path cert_path with background)) is = (is.0, (is.1.0, (is.1.1.0, no_colour background is.1.1.1)))
check_only file cert givens (Ok task) is = absurd is
check_only file cert givens (Err e) is = absurd (no_refusal e is)

colour_is : (colour : Text) (rgb : Rgb) (background : Option Rgb) → background_of colour ≡ Some rgb → background_asked (Some colour) ≡ Ok background → background ≡ Some rgb
colour_is colour rgb background named is = let there : background_asked (Some colour) ≡ Ok (Some rgb) = ap background_named named in cc

no_mistake : (colour : Text) (rgb : Rgb) (e : ProgramFault) → background_of colour ≡ Some rgb → background_asked (Some colour) ≡ Err e → ⊥
no_mistake colour rgb e named is = absurd (let there : background_asked (Some colour) ≡ Ok (Some rgb) = ap background_named named in cc)

check_on_only : (colour file cert : Text) (rgb : Rgb) (r : Result Task ProgramFault) → background_of colour ≡ Some rgb
    → IsCheck (record (given_check file cert None) { background = Some colour }) r → IsOnly (IsCheckBy file cert None (Some rgb)) r
check_on_only colour file cert rgb (Ok (Check path cert_path with background)) named is = (is.0, (is.1.0, (is.1.1.0, colour_is colour rgb background named is.1.1.1)))
check_on_only colour file cert rgb (Ok task) named is = absurd is
check_on_only colour file cert rgb (Err e) named is = absurd (no_mistake colour rgb e named is)

prove_only : (file : Text) (givens : Option Text) (r : Result Task ProgramFault) → IsProve (given_prove file givens (codes "false")) r → IsOnly (IsProveBy file givens default_search) r
prove_only file givens (Ok (Prove path with options)) is = (is.0, (is.1.0, search_is file givens options is.1.1))
prove_only file givens (Ok task) is = absurd is
prove_only file givens (Err e) is = absurd (no_refusal e is)

complete_only : (file : Text) (r : Result Task ProgramFault) → IsProve (given_prove file None (codes "true")) r → IsOnly (IsProveBy file None complete_search) r
complete_only file (Ok (Prove path with options)) is = (is.0, (is.1.0, complete_is file None options is.1.1))
complete_only file (Ok task) is = absurd is
complete_only file (Err e) is = absurd (no_refusal e is)

assess_only : (files : List Text) (r : Result Task ProgramFault) → IsAssess (given_assess files) r → IsOnly (IsAssessBy files default_assessment) r
assess_only files (Ok (Assess paths options givens cert)) is = (is.0, (is.1.1.0, (is.1.1.1.0, assessment_is files options is.1.0)))
assess_only files (Ok task) is = absurd is
assess_only files (Err e) (inl memory) = memory
assess_only files (Err e) (inr (inl (inl is))) = absurd (no_refusal e is)
assess_only files (Err e) (inr (inl (inr is))) = absurd (ppm_is_not_non is.1.0)
assess_only files (Err e) (inr (inr (inl is))) = absurd (no_allowance e is)
assess_only files (Err e) (inr (inr (inr is))) = absurd (true≢false (sym is.1.0))

-- ---- the laws

known_work : (file : Text) → IsPlain file → AskFor (codes "work" ∷ file ∷ []) (IsWorkBy file default_options)
known_work file f = ask_for (codes "work" ∷ file ∷ []) (IsWorkBy file default_options) (λ formats are r h.
    let is = accepts_one (codes "ppm" ∷ codes "non" ∷ []) formats.0 (codes "ppm") are.0 refl in
    work_only file r ((asked formats (codes "work" ∷ file ∷ []) (work_leaf formats) (file ∷ []) _ (enters_work formats file) (work_walks formats file f) (work_ends formats file is) r h).work _ refl))

known_check : (file cert : Text) → IsPlain file → IsPlain cert → AskFor (codes "check" ∷ file ∷ cert ∷ []) (IsCheckBy file cert None None)
known_check file cert f c = ask_for (codes "check" ∷ file ∷ cert ∷ []) (IsCheckBy file cert None None) (λ formats are r h.
    check_only file cert None r
    ((asked formats (codes "check" ∷ file ∷ cert ∷ []) check_leaf (file ∷ cert ∷ []) _ (enters_check formats file cert) (check_walks file cert f c) (check_ends file cert) r h).check _ refl))

known_check_with : (givens file cert : Text) → IsPlain givens → IsPlain file → IsPlain cert
    → AskFor (codes "check" ∷ codes "--givens" ∷ givens ∷ file ∷ cert ∷ []) (IsCheckBy file cert (Some givens) None)
known_check_with givens file cert g f c = ask_for (codes "check" ∷ codes "--givens" ∷ givens ∷ file ∷ cert ∷ []) (IsCheckBy file cert (Some givens) None) (λ formats are r h.
    check_only file cert (Some givens) r
    ((asked formats (codes "check" ∷ codes "--givens" ∷ givens ∷ file ∷ cert ∷ []) check_leaf (codes "--givens" ∷ givens ∷ file ∷ cert ∷ []) _
    (enters_check_with formats (codes "--givens") givens file cert) (check_with_walks givens file cert g f c) (check_with_ends givens file cert) r h).check _ refl))

known_check_on : (colour file cert : Text) (rgb : Rgb) → background_of colour ≡ Some rgb → IsPlain colour → IsPlain file → IsPlain cert
    → AskFor (codes "check" ∷ codes "--background" ∷ colour ∷ file ∷ cert ∷ []) (IsCheckBy file cert None (Some rgb))
known_check_on colour file cert rgb named k f c = ask_for (codes "check" ∷ codes "--background" ∷ colour ∷ file ∷ cert ∷ []) (IsCheckBy file cert None (Some rgb)) (λ formats are r h.
    check_on_only colour file cert rgb r named
    ((asked formats (codes "check" ∷ codes "--background" ∷ colour ∷ file ∷ cert ∷ []) check_leaf (codes "--background" ∷ colour ∷ file ∷ cert ∷ []) _
    (enters_check_with formats (codes "--background") colour file cert) (check_on_walks colour file cert k f c) (check_on_ends colour file cert) r h).check _ refl))

known_prove : (file : Text) → IsPlain file → AskFor (codes "prove" ∷ file ∷ []) (IsProveBy file None default_search)
known_prove file f = ask_for (codes "prove" ∷ file ∷ []) (IsProveBy file None default_search) (λ formats are r h.
    let is = accepts_one (codes "1" ∷ codes "2" ∷ []) formats.1 (codes "2") are.1 refl in
    prove_only file None r
    ((asked formats (codes "prove" ∷ file ∷ []) (prove_leaf formats) (file ∷ []) _ (enters_prove formats file) (prove_walks formats file f) (prove_ends formats file is) r h).prove _ refl))

known_prove_complete : (file : Text) → IsPlain file → AskFor (codes "prove" ∷ codes "--complete" ∷ file ∷ []) (IsProveBy file None complete_search)
known_prove_complete file f = ask_for (codes "prove" ∷ codes "--complete" ∷ file ∷ []) (IsProveBy file None complete_search) (λ formats are r h.
    let is = accepts_one (codes "1" ∷ codes "2" ∷ []) formats.1 (codes "2") are.1 refl in
    complete_only file r
    ((asked formats (codes "prove" ∷ codes "--complete" ∷ file ∷ []) (prove_leaf formats) (codes "--complete" ∷ file ∷ []) _ (enters_prove_complete formats (codes "--complete") file)
    (prove_complete_walks formats file f) (prove_complete_ends formats file is) r h).prove _ refl))

known_prove_with : (givens file : Text) → IsPlain givens → IsPlain file → AskFor (codes "prove" ∷ codes "--givens" ∷ givens ∷ file ∷ []) (IsProveBy file (Some givens) default_search)
known_prove_with givens file g f = ask_for (codes "prove" ∷ codes "--givens" ∷ givens ∷ file ∷ []) (IsProveBy file (Some givens) default_search) (λ formats are r h.
    let is = accepts_one (codes "1" ∷ codes "2" ∷ []) formats.1 (codes "2") are.1 refl in
    prove_only file (Some givens) r
    ((asked formats (codes "prove" ∷ codes "--givens" ∷ givens ∷ file ∷ []) (prove_leaf formats) (codes "--givens" ∷ givens ∷ file ∷ []) _
    (enters_prove_with formats (codes "--givens") givens file) (prove_with_walks formats givens file g f) (prove_with_ends formats givens file is) r h).prove _ refl))

known_assess : (file : Text) (files : List Text) → length files < usize_max → IsPlain file → AllByRecursion IsPlain files
    → AskFor (codes "assess" ∷ file ∷ files) (IsAssessBy (file ∷ files) default_assessment)
known_assess file files few f all = ask_for (codes "assess" ∷ file ∷ files) (IsAssessBy (file ∷ files) default_assessment) (λ formats are r h.
    let is = accepts_one (codes "ppm" ∷ codes "non" ∷ []) formats.2 (codes "ppm") are.2 refl in
    assess_only (file ∷ files) r
    ((asked formats (codes "assess" ∷ file ∷ files) (assess_leaf formats) (file ∷ files) _ (enters_assess formats (file ∷ files)) (assess_walks formats file files f all)
    (assess_ends formats file files few is) r h).assess _ refl))

pub known_words : WordsAreKnown
known_words = record {
  work = known_work;
  check = known_check;
  check_on = known_check_on;
  check_with = known_check_with;
  prove = known_prove;
  prove_complete = known_prove_complete;
  prove_with = known_prove_with;
  assess = known_assess;
}

pub ruleset known = (known_words)
