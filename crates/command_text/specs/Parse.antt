-- The command that words name, or the first error.
use Rattle.std.specs.Prelude.{ℕ, ◌<◌, IfSome, true, false, List, [], ◌∷◌, length, codes, Option, None, Some, Result}
use Rattle.std.specs.Prelude.{Ok, Err, option_map, ◌==◌, if◌then◌else◌}
use Rattle.std.specs.Borrow.{Bor}
use Rattle.std.specs.Map.{lookup}
use Rattle.std.specs.Option.{ok_or}
use Rattle.picture.specs.Readers.{◌>>=◌}
use Rattle.picture.specs.declared.line_id.Axis.{Axis}
use Rattle.picture.specs.declared.line_id.Axis.TheVariants.{Across, Down}
use Rattle.picture.specs.declared.line_id.LineId.{LineId}
use Rattle.picture.specs.declared.rgb.Rgb.{Rgb}
use Rattle.edits.specs.declared.edit.Edit.{Edit}
use Rattle.edits.specs.declared.edit.Edit.TheVariants as edit
use Rattle.command_text.specs.declared.command.Command.{Command}
use Rattle.command_text.specs.declared.command.Command.TheVariants as command
use Rattle.command_text.specs.declared.fault.CommandFault.{CommandFault}
use Rattle.command_text.specs.declared.fault.CommandFault.TheVariants.{UnknownWord, WordCount, BadNumber, BadColour}
use Rattle.command_text.specs.Numbers.{colour_of, number_of, place_named, sample_of}
use Rattle.command_text.specs.Words.{Texts, is_word, words_of}

-- ---- values, word by word from the left

-- a reader of the first words: a value and the words after it, or the first error
abbrev pub Reader : Type 0 → Type 0
Reader X = Texts → Result (X × Texts) CommandFault

-- the next word
abbrev pub word_at : Reader (List ℕ)
word_at [] = Err WordCount
word_at (word ∷ words) = Ok (word, words)

-- the value of the next word
abbrev pub field_at : {X : Type 0} → (List ℕ → Option X) → CommandFault → Reader X
field_at value fault words = word_at words >>= λ word. ok_or (value word.0) fault >>= λ x. Ok (x, word.1)

abbrev pub place_at : Reader ℕ
place_at words = field_at place_named BadNumber words

abbrev pub sample_at : Reader ℕ
sample_at words = field_at sample_of BadNumber words

abbrev pub colour_at : Reader ℕ
colour_at words = field_at colour_of BadColour words

-- `off`, or how many splits are allowed
abbrev pub allowance_of : List ℕ → Option (Option ℕ)
allowance_of word = if is_word word (codes "off") then Some None else option_map Some (number_of word)

abbrev pub axis_at : Reader Axis
axis_at words =
    field_at (λ word. lookup (is_word word) ((codes "row", Across) ∷ (codes "column", Down) ∷ [])) UnknownWord words

-- one value, and then another
abbrev pub both : {X Y : Type 0} → Reader X → Reader Y → Reader (X × Y)
both one other words = one words >>= λ x. other x.1 >>= λ y. Ok ((x.0, y.0), y.1)

-- a row and a column
unfoldable pub row_and_column_at : Reader (ℕ × ℕ)
row_and_column_at words = both place_at place_at words

-- three samples
unfoldable pub rgb_at : Reader Rgb
rgb_at words = both (both sample_at sample_at) sample_at words
    >>= λ x. Ok (record { r = x.0.0.0; g = x.0.0.1; b = x.0.1 }, x.1)

-- ---- all words that are left

-- a reader of all the words: what they say, or the first error
abbrev pub Meaning : Type 0 → Type 0
Meaning X = Texts → Result X CommandFault

-- the words, where there are exactly `count`
abbrev pub counted : ℕ → Meaning Texts
counted count words = if length words == count then Ok words else Err WordCount

-- a value of `count` words, with nothing after it
abbrev pub exactly : {X : Type 0} → ℕ → Reader X → Meaning X
exactly count read words = counted count words >>= read >>= λ x. Ok x.0

-- what `make` gives for what is read
abbrev pub made : {X Y : Type 0} → (X → Y) → Meaning X → Meaning Y
made make read words = read words >>= λ x. Ok (make x)

-- the reader that a table has for the next word, on the words after that
abbrev pub read_by : {X : Type 0} → List (List ℕ × Meaning X) → Meaning X
read_by table words = field_at (λ word. lookup (is_word word) table) UnknownWord words >>= λ read. read.0 read.1

-- a row and a column, and no more
unfoldable pub cell_alone_at : Meaning (ℕ × ℕ)
cell_alone_at words = exactly 2 row_and_column_at words

-- a cell and a colour
unfoldable pub spot_at : Meaning ((ℕ × ℕ) × ℕ)
spot_at words = exactly 3 (both row_and_column_at colour_at) words

-- a row or a column
unfoldable pub line_at : Meaning LineId
line_at words = axis_at words >>= λ axis. made (λ at. record { axis = axis.0; at = at }) (exactly 1 place_at) axis.1

-- ---- the edits

unfoldable pub fill_at : Meaning Edit
fill_at words = made (λ x. edit.Fill x.0.0.0 x.0.0.1 x.0.1.0 x.0.1.1 x.1)
    (exactly 5 (both (both row_and_column_at row_and_column_at) colour_at)) words

unfoldable pub swap_at : Meaning Edit
swap_at words =
    axis_at words >>= λ axis. made (λ x. edit.SwapLines axis.0 x.0 x.1) (exactly 2 (both place_at place_at)) axis.1

abbrev pub palette_at : Meaning Edit
palette_at words = read_by ((codes "add", made edit.AddColour (exactly 3 rgb_at))
    ∷ (codes "set", made (λ x. edit.SetColour x.0 x.1) (exactly 4 (both colour_at rgb_at))) ∷ []) words

-- ---- the other commands

-- a command without a value
abbrev pub bare_at : Command → Meaning Command
bare_at c words = counted 0 words >>= λ none. Ok c

-- `off` takes away the bound on splits
unfoldable pub assess_at : Meaning Command
assess_at [] = Ok (command.Assess false)
assess_at (word ∷ words) = read_by ((codes "off", bare_at (command.Assess true)) ∷ []) (word ∷ words)

-- ---- the command

-- A colour is a number below 16, and an allowance one of at most five digits.
abbrev pub IsBounded : Command → Type 0
IsBounded (command.Edit edit) = Unit {0}
IsBounded command.Undo = Unit {0}
IsBounded command.Redo = Unit {0}
IsBounded command.Clues = Unit {0}
IsBounded command.Map = Unit {0}
IsBounded command.Verdict = Unit {0}
IsBounded (command.Why row col colour) = colour < 16
IsBounded command.Certify = Unit {0}
IsBounded command.WritePpm = Unit {0}
IsBounded command.WriteNon = Unit {0}
IsBounded command.Report = Unit {0}
IsBounded (command.Assess is_off) = Unit {0}
IsBounded command.Path = Unit {0}
IsBounded (command.Allow allowance) = IfSome allowance (λ splits. splits < 100000)

-- the commands by their first words
abbrev pub commands : List (List ℕ × Meaning Command)
commands =
    (codes "paint", made (λ spot. command.Edit (edit.Paint spot.0.0 spot.0.1 spot.1)) spot_at)
    ∷ (codes "fill", made command.Edit fill_at)
    ∷ (codes "recolour", made (λ x. command.Edit (edit.Recolour x.0 x.1)) (exactly 2 (both colour_at colour_at)))
    ∷ (codes "insert", made (λ line. command.Edit (edit.InsertLine line)) line_at)
    ∷ (codes "delete", made (λ line. command.Edit (edit.DeleteLine line)) line_at)
    ∷ (codes "swap", made command.Edit swap_at)
    ∷ (codes "colour", made command.Edit palette_at)
    ∷ (codes "pin", made (λ cell. command.Edit (edit.Pin cell.0 cell.1)) cell_alone_at)
    ∷ (codes "unpin", made (λ cell. command.Edit (edit.Unpin cell.0 cell.1)) cell_alone_at)
    ∷ (codes "undo", bare_at command.Undo)
    ∷ (codes "redo", bare_at command.Redo)
    ∷ (codes "clues", bare_at command.Clues)
    ∷ (codes "map", bare_at command.Map)
    ∷ (codes "verdict", bare_at command.Verdict)
    ∷ (codes "why", made (λ spot. command.Why spot.0.0 spot.0.1 spot.1) spot_at)
    ∷ (codes "certify", bare_at command.Certify)
    ∷ (codes "write", read_by ((codes "ppm", bare_at command.WritePpm) ∷ (codes "non", bare_at command.WriteNon) ∷ []))
    ∷ (codes "report", bare_at command.Report)
    ∷ (codes "path", bare_at command.Path)
    ∷ (codes "assess", assess_at)
    ∷ (codes "allow", made command.Allow (exactly 1 (field_at allowance_of BadNumber))) ∷ []

-- ---- the answers of functions that read words

-- a word, and the words that are left
abbrev pub word_seen : Bor (List ℕ) × Bor (List ℕ) → List ℕ × Texts
word_seen x = (x.0.now, words_of x.1.now)

-- a value, and the words that are left
abbrev pub field_seen : {X : Type 0} → X × Bor (List ℕ) → X × Texts
field_seen x = (x.0, words_of x.1.now)
