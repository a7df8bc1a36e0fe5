-- Words that have no error name one of the program's subcommands.
use Rattle.std.proofs.Common.{◌≡◌, ◌&&◌, ◌||◌, ℕ, Bool, cond, true, false, not, List, [], ◌∷◌, Option, None, Some, option_map, is_some, fold, codes, bytes_eq, refl, sym, ap, ◌∙◌, inl, inr, true≢false}
use Rattle.std.specs.List.{list_any}
use Rattle.std.proofs.lemmas.Slice.Eq.{bytes_eq-Decides}
use Rattle.clap.specs.Lexer.{long_of, short_of}
use Rattle.clap.specs.Facts.{explicit_source}
use Rattle.clap.specs.Walk.{Held, Names, Outcome, Row, Rule, Step, Text, Waiting, Walk, done, waits, plain, refused, idle, option, positional, next, trailing, subcommand, value, after_flag}
use Rattle.clap.specs.Walk.{after_step, answers_to, arg_by_index, arg_by_long, bundle, finished, long_met, long_or_other, nothing_held, plain_word, settled, short_or_plain, subcommand_met}
use Rattle.clap.specs.Walk.{subcommand_or_other, to_positional, walk, walk_from, walked, walked_from, word_met}
use Rattle.clap.specs.Simple.{Shape, built, built_leaf, entered, help_shape, inherited, label_of, marked_built, names_of, rows_at, with_leaf_noted}
use Rattle.clap.specs.Takes.{is_given}
use Rattle.clap.specs.Kinds.{Kinds, check_kinds, or_else}
use Rattle.clap.specs.Faults.{check_fault, defaults_fault, entered_fault, fault_of, level_fault, other_fault, settle_fault, step_fault, turn_fault, walk_fault, word_fault}
use Rattle.clap.specs.Words.{subcommand_of}
use Rattle.clap.specs.declared.error.kind.ErrorKind.{ErrorKind}
use Rattle.clap.specs.declared.error.kind.ErrorKind.TheVariants.{DisplayHelp, DisplayHelpOnMissingArgumentOrSubcommand, InvalidSubcommand, MissingSubcommand}
use Rattle.command_line.specs.Program.{Formats, assess_shape, check_shape, program_app, prove_shape, top_shape, work_shape}
use Rattle.command_line.specs.Words.{IsNamed}

-- ---- kinds

abbrev is_fault : Kinds → Bool
is_fault [] = false
is_fault (k ∷ ks) = true

pub some_kind : (k : ErrorKind) (ks : Kinds) → k ∷ ks ≡ [] → ⊥
some_kind k ks e = true≢false (ap is_fault e)

first_none : (a b : Kinds) → or_else a b ≡ [] → a ≡ []
first_none [] b e = refl
first_none (k ∷ ks) b e = e

next_none : (a b : Kinds) → or_else a b ≡ [] → b ≡ []
next_none [] b e = e
next_none (k ∷ ks) b e = absurd (some_kind k ks e)

-- ---- a word that has no error does not enter `help`

abbrev is_help : Option (Text × List Text) → Bool
is_help None = false
is_help (Some p) = bytes_eq p.0 (codes "help")

abbrev enters_help : Step → Bool
enters_help (subcommand name) = bytes_eq name (codes "help")
enters_help _ = false

positional_stays : (c : List Rule) (a : Option Rule) (word : Text) (w : Walk) (h : Held) → is_help w.stopped ≡ false → is_help (to_positional c a word w h).stopped ≡ false
positional_stays c None word w h n = n
positional_stays c (Some a) word w h n = refl

step_stays : (c : List Rule) (word : Text) (w : Walk) (h : Held) (step : Step) → is_help w.stopped ≡ false → enters_help step ≡ false → is_help (after_step c word w h step).stopped ≡ false
step_stays c word w h (next waiting) n e = n
step_stays c word w h (trailing position) n e = n
step_stays c word w h (subcommand name) n e = e
step_stays c word w h value n e = positional_stays c (arg_by_index c w.position) word w h n

plain_stays : (c : List Rule) (waiting : Waiting) (word : Text) (h : Held) → enters_help (plain_word c waiting word h).1 ≡ false
plain_stays c idle word h = refl
plain_stays c (option id) word h = refl
plain_stays c positional word h = refl

flag_stays : (c : List Rule) (waiting : Waiting) (word : Text) (h : Held) (o : Outcome) → enters_help (after_flag c waiting word h o).1 ≡ false
flag_stays c waiting word h done = refl
flag_stays c waiting word h (waits id) = refl
flag_stays c waiting word h plain = plain_stays c waiting word h
flag_stays c waiting word h refused = plain_stays c waiting word h

short_stays : (c : List Rule) (waiting : Waiting) (word : Text) (o : Option Text) (h : Held) → enters_help (short_or_plain c waiting word o h).1 ≡ false
short_stays c waiting word (Some flags) h = flag_stays c waiting word (bundle c flags h).0 (bundle c flags h).1
short_stays c waiting word None h = plain_stays c waiting word h

long_stays : (c : List Rule) (waiting : Waiting) (word : Text) (o : Option (Text × Option Text)) (h : Held) → enters_help (long_or_other c waiting word o h).1 ≡ false
long_stays c waiting word (Some p) h = flag_stays c waiting word (long_met c (arg_by_long c p.0) p.1 h).0 (long_met c (arg_by_long c p.0) p.1 h).1
long_stays c waiting word None h = short_stays c waiting word (short_of word) h

either_stays : (b : Bool) (x y : Held × Step) → enters_help x.1 ≡ false → enters_help y.1 ≡ false → enters_help (cond b x y).1 ≡ false
either_stays true x y e f = e
either_stays false x y e f = f

-- where `help` is not disabled, the word that names it has an error
not_named : (b d : Bool) (k : ErrorKind) (ks : Kinds) → d ≡ false → cond (b && not d) (k ∷ ks) [] ≡ [] → b ≡ false
not_named false d k ks on e = refl
not_named true true k ks on e = absurd (true≢false on)
not_named true false k ks on e = absurd (some_kind k ks e)

other_stays : (s : Shape) (o : Option Text) (waiting : Waiting) (position : ℕ) (word : Text) (h : Held) → s.disable_help_subcommand ≡ false → other_fault s o word h ≡ []
    → enters_help (subcommand_or_other s.rules o waiting position word h).1 ≡ false
other_stays s (Some name) waiting position word h on e = not_named (bytes_eq name (codes "help")) s.disable_help_subcommand DisplayHelp (InvalidSubcommand ∷ []) on e
other_stays s None waiting position word h on e =
    either_stays (bytes_eq word (45 ∷ 45 ∷ [])) (h, trailing position) (long_or_other s.rules waiting word (long_of word) h) refl (long_stays s.rules waiting word (long_of word) h)

met_stays : (s : Shape) (names : Names) (is_trailing : Bool) (waiting : Waiting) (position : ℕ) (word : Text) (h : Held) → s.disable_help_subcommand ≡ false
    → word_fault s names is_trailing waiting word h ≡ []
    → enters_help (word_met s.rules names is_trailing waiting position word h).1 ≡ false
met_stays s names true waiting position word h on e = refl
met_stays s names false waiting position word h on e = other_stays s (subcommand_met names waiting word) waiting position word h on e

turn_stays : (s : Shape) (names : Names) (o : Option (Text × List Text)) (w : Walk) (word : Text) (after : Kinds) → s.disable_help_subcommand ≡ false → is_help w.stopped ≡ false → is_help o ≡ false
    → cond (is_some o) [] (or_else (word_fault s names w.is_trailing w.waiting word w.held) after) ≡ [] → is_help (walked_from s.rules names o w word).stopped ≡ false
turn_stays s names (Some p) w word after on n m e = m
turn_stays s names None w word after on n m e =
    let met = word_met s.rules names w.is_trailing w.waiting w.position word w.held in
    let fine = first_none (word_fault s names w.is_trailing w.waiting word w.held) after e in
    step_stays s.rules word w met.0 met.1 n (met_stays s names w.is_trailing w.waiting w.position word w.held on fine)

walk_stays : (s : Shape) (names : Names) (w : Walk) (words : List Text) → s.disable_help_subcommand ≡ false → is_help w.stopped ≡ false → walk_fault s names w words ≡ []
    → is_help (fold (walked s.rules names) w words).stopped ≡ false
unfolding walk_fault walked
walk_stays s names w [] on n e = n
walk_stays s names w (word ∷ rest) on n e =
    let met = word_met s.rules names w.is_trailing w.waiting w.position word w.held in
    let turn = turn_fault s names w word in
    let later = walk_fault s names (walked s.rules names w word) rest in
    walk_stays s names (walked s.rules names w word) rest on (turn_stays s names w.stopped w word (step_fault s w.position met.0 met.1) on n n (first_none turn later e)) (next_none turn later e)

-- ---- a level that has no error

wanted : (help name argument : Bool) → check_kinds help name argument ≡ [] → name ≡ false
wanted true name argument e = absurd (some_kind DisplayHelpOnMissingArgumentOrSubcommand [] e)
wanted false true argument e = absurd (some_kind MissingSubcommand [] e)
wanted false false argument e = refl

has_one : (s : Shape) (rows : List Row) (has : Bool) → s.subcommand_required ≡ true → check_fault s rows has ≡ [] → has ≡ true
has_one s rows true wants e = refl
has_one s rows false wants e =
    let help = s.arg_required_else_help && not (list_any (λ (r : Row). explicit_source r.source) rows) in
    let argument = not (s.subcommand_negates_reqs && false) && list_any (λ (a : Rule). a.required && not (is_given a.id rows)) s.rules in
    absurd (true≢false (sym wants ∙ wanted help s.subcommand_required argument e))

level_parts : (s : Shape) (names : Names) (h : Held) (words : List Text) (has : Bool) (below : Kinds) → s.disable_help_subcommand ≡ false → s.subcommand_required ≡ true
    → level_fault s names h words has below ≡ []
    → (is_help (walk s.rules names h words).stopped ≡ false) × (has ≡ true)
level_parts s names h words has below on wants e =
    let end = (walk s.rules names h words).held in
    let words_fault = walk_fault s names (walk_from h) words in
    let settling = settle_fault s.rules s.args_override_self end in
    let defaults = defaults_fault (settled s.rules end).rows s.rules in
    let check = check_fault s (finished s.rules end) has in
    let fourth = or_else defaults check in
    let third = or_else settling fourth in
    let second = or_else below third in
    let last = next_none defaults check (next_none settling fourth (next_none below third (next_none words_fault second e))) in
    (walk_stays s names (walk_from h) words on refl (first_none words_fault second e), has_one s (finished s.rules end) has wants last)

-- ---- the program's subcommands

abbrev top_noted : Shape
top_noted = with_leaf_noted (marked_built (record top_shape { is_leaf = false }))

implied : (a b : Bool) → (a ≡ true → b ≡ true) → b ≡ false → a ≡ false
implied true b f n = absurd (true≢false (sym (f refl) ∙ n))
implied false b f n = refl

not_help : (name : Text) → bytes_eq name (codes "help") ≡ false → answers_to name (label_of (built_leaf help_shape)) ≡ false
not_help name n =
    let other : bytes_eq (codes "help") name ≡ false = implied (bytes_eq (codes "help") name) (bytes_eq name (codes "help"))
    (λ e. (bytes_eq-Decides name (codes "help")).1 (sym ((bytes_eq-Decides (codes "help") name).0 e))) n in
    ap (λ (b : Bool). b || false) other

abbrev picked : (u v w x z : Bool) (a b c d f : Shape) → Option Shape
picked u v w x z a b c d f = cond u (Some a) (cond v (Some b) (cond w (Some c) (cond x (Some d) (cond z (Some f) None))))

pick : (u v w x z : Bool) (a b c d f : Shape) (words : List Text) → a.name ≡ codes "work" → b.name ≡ codes "check" → c.name ≡ codes "prove" → d.name ≡ codes "assess"
    → z ≡ false → is_some (option_map (λ (s : Shape). rows_at s words) (picked u v w x z a b c d f)) ≡ true
    → IsNamed (option_map (λ (s : Shape). rows_at s words) (picked u v w x z a b c d f))
pick true v w x z a b c d f words work check prove assess n has = inl work
pick false true w x z a b c d f words work check prove assess n has = inr (inl check)
pick false false true x z a b c d f words work check prove assess n has = inr (inr (inl prove))
pick false false false true z a b c d f words work check prove assess n has = inr (inr (inr assess))
pick false false false false true a b c d f words work check prove assess n has = absurd (true≢false n)
pick false false false false false a b c d f words work check prove assess n has = absurd (true≢false (sym has))

entered_named : (formats : Formats) (stop : Option (Text × List Text)) → is_help stop ≡ false → is_some (entered (built (program_app formats)) stop) ≡ true
    → IsNamed (entered (built (program_app formats)) stop)
entered_named formats None n has = absurd (true≢false (sym has))
entered_named formats (Some p) n has =
    let work = built_leaf (inherited top_noted (work_shape formats.0)) in
    let check = built_leaf (inherited top_noted (check_shape (codes "check"))) in
    let prove = built_leaf (inherited top_noted (prove_shape formats.1)) in
    let assess = built_leaf (inherited top_noted (assess_shape formats.2)) in
    let help = built_leaf help_shape in
    pick (answers_to p.0 (label_of work)) (answers_to p.0 (label_of check)) (answers_to p.0 (label_of prove)) (answers_to p.0 (label_of assess))
    (answers_to p.0 (label_of help)) work check prove assess help p.1 refl refl refl refl (not_help p.0 n) has

-- the words name one of the program's subcommands
pub names_one : (formats : Formats) (words : List Text) → fault_of (program_app formats) words ≡ [] → IsNamed (subcommand_of (program_app formats) words)
names_one formats words e =
    let app = built (program_app formats) in
    let stop = (walk app.top.rules (names_of app) nothing_held words).stopped in
    let parts = level_parts app.top (names_of app) nothing_held words (is_some (entered app stop)) (entered_fault app stop) refl refl e in
    entered_named formats stop parts.0 parts.1
