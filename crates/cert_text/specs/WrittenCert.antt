-- The text that is written for a certificate.
use Rattle.std.specs.Prelude.{◌≡◌, ℕ, List, [], ◌∷◌, ◌++◌, codes, decimal, Ok}
use Rattle.std.specs.List.{flat_map}
use Rattle.picture.specs.declared.line_id.Axis.{Axis}
use Rattle.picture.specs.declared.line_id.Axis.TheVariants.{Across, Down}
use Rattle.picture.specs.Writers.{number_text}
use Rattle.cert_text.specs.declared.cert_line.LineNumber.{LineNumber}
use Rattle.cert_text.specs.declared.cert_line.CellNumber.{CellNumber}
use Rattle.cert_text.specs.declared.cert_line.CertLine.{CertLine}
use Rattle.cert_text.specs.declared.cert_line.CertLine.TheVariants.{Line, Use, Split, Dead, Broken, Done, Part, Lemma}
use Rattle.cert_text.specs.declared.cert_line.CertLine.TheVariants.{Deny, Forget}
use Rattle.cert_text.specs.declared.cert_line.Literal.{Literal}
use Rattle.cert_text.specs.declared.form.Form.{Form}
use Rattle.cert_text.specs.declared.form.Form.TheVariants.{Tree, GivenTree, Lemmas, LemmaRuns}
use Rattle.cert_text.specs.Cert.{Certificate, cut_into}
use Rattle.cert_text.specs.Letters.{letters_text}
use Rattle.cert_text.specs.Reading.{cert_of}

-- ---- a line with one step

-- the letter of an axis, and a space
abbrev pub axis_text : Axis → List ℕ
axis_text Across = codes "r "
axis_text Down = codes "c "

-- a line of a text that names a row or a column
abbrev pub named_text : List ℕ → LineNumber → List ℕ
named_text word line = word ++ (axis_text line.axis ++ number_text line.number 10)

-- a line of a text that names a cell
abbrev pub cell_text : List ℕ → CellNumber → List ℕ
cell_text word cell = word ++ (number_text cell.row 32 ++ number_text cell.col 10)

-- a line of a text that names a lemma
abbrev pub numbered_text : List ℕ → ℕ → List ℕ
numbered_text word number = word ++ number_text number 10

-- a line of a text that names a cell and colours
abbrev pub place_text : List ℕ → CellNumber → List ℕ
place_text word cell = word ++ (number_text cell.row 32 ++ number_text cell.col 32)

abbrev pub colours_text : ℕ → List ℕ
colours_text colours = letters_text colours ++ 10 ∷ []

abbrev pub literal_text : List ℕ → Literal → List ℕ
literal_text word literal = place_text word literal.cell ++ colours_text literal.colours

abbrev pub given_text : CellNumber → List ℕ
given_text cell = cell_text (codes "given ") cell

abbrev pub line_text : CertLine → List ℕ
line_text (Line line) = named_text (codes "line ") line
line_text (Use lemma) = numbered_text (codes "use ") lemma
line_text (Split cell) = cell_text (codes "split ") cell
line_text (Dead line) = named_text (codes "dead ") line
line_text (Broken lemma) = numbered_text (codes "dead l ") lemma
line_text Done = codes "done\n"
line_text (Part literal) = literal_text (codes "part ") literal
line_text Lemma = codes "lemma\n"
line_text (Deny literal) = literal_text (codes "deny ") literal
line_text (Forget lemma) = numbered_text (codes "drop ") lemma

-- ---- a line with several steps

-- a space, and the letter of an axis
abbrev pub axis_joined : Axis → List ℕ
axis_joined Across = codes " r"
axis_joined Down = codes " c"

-- a space, and the word that names a step behind `line`, `use` or `drop`
abbrev pub word_text : CertLine → List ℕ
word_text (Line line) = axis_joined line.axis ++ decimal line.number
word_text (Use lemma) = codes " " ++ decimal lemma
word_text (Forget lemma) = codes " " ++ decimal lemma
word_text _ = []

-- a word, and the steps that follow it on one line
abbrev pub words_text : List ℕ → List CertLine → List ℕ
words_text word steps = word ++ (flat_map word_text steps ++ codes "\n")

-- the line of a run
abbrev pub run_text : List CertLine → List ℕ
run_text [] = []
run_text (Line line ∷ steps) = words_text (codes "line") (Line line ∷ steps)
run_text (Use lemma ∷ steps) = words_text (codes "use") (Use lemma ∷ steps)
run_text (Forget lemma ∷ steps) = words_text (codes "drop") (Forget lemma ∷ steps)
run_text (step ∷ steps) = line_text step

-- ---- the whole text

-- the first line
abbrev pub form_text : Form → List ℕ
form_text Tree = codes "nonocert 1\n"
form_text GivenTree = codes "nonocert 2\n"
form_text Lemmas = codes "nonolemma 1\n"
form_text LemmaRuns = codes "nonolemma 2\n"

-- the lines below the givens
abbrev pub steps_text : Form → List CertLine → List ℕ → List ℕ
steps_text LemmaRuns steps runs = flat_map run_text (cut_into runs steps)
steps_text _ steps runs = flat_map line_text steps

-- the first line, the givens and the steps
abbrev pub cert_text : Certificate → List ℕ
cert_text cert =
    form_text cert.form ++ (flat_map given_text cert.givens ++ steps_text cert.form cert.lines cert.runs)

-- What is written is read as the same certificate.
abbrev pub IsReadAgain : Certificate → Type 0
IsReadAgain cert = cert_of (cert_text cert) ≡ Ok cert
