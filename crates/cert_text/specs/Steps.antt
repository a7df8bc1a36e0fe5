-- The steps that a line of a certificate's text has, below the givens.
use Rattle.std.specs.Prelude.{◌≡◌, ℕ, List, [], ◌∷◌, length, codes, Option, None, Some, option_and_then, option_map}
use Rattle.std.specs.Prelude.{◌++◌, nat_le, if◌then◌else◌}
use Rattle.std.specs.Borrow.{Bor}
use Rattle.cert_text.specs.declared.cert_line.CertLine.{CertLine}
use Rattle.cert_text.specs.declared.cert_line.CertLine.TheVariants.{Line, Use, Split, Dead, Broken, Done, Part, Lemma}
use Rattle.cert_text.specs.declared.cert_line.CertLine.TheVariants.{Deny, Forget}
use Rattle.cert_text.specs.declared.form.Form.{Form}
use Rattle.cert_text.specs.declared.form.Form.TheVariants.{Tree, GivenTree, Lemmas, LemmaRuns}
use Rattle.cert_text.specs.declared.runs.RunWord.{RunWord}
use Rattle.cert_text.specs.declared.runs.RunWord.TheVariants.{Lines, Uses, Forgets}
use Rattle.cert_text.specs.Cert.{AreOfForm, IsRun}
use Rattle.cert_text.specs.Text.{cell_named, is_word, joined_named, lemma_named, line_named}
use Rattle.cert_text.specs.Text.{literal_named}
use Rattle.cert_text.specs.Text.{three_of, words_of}

-- ---- trees

-- the line of three words: the first says what is done, the others name a line or a cell
abbrev pub line_by : List ℕ × List ℕ × List ℕ → Option CertLine
line_by t =
    if is_word t.0 (codes "line") then option_map Line (line_named t.1 t.2)
    else if is_word t.0 (codes "dead") then option_map Dead (line_named t.1 t.2)
    else if is_word t.0 (codes "split") then option_map Split (cell_named t.1 t.2)
    else None

-- the step of a line of a tree
unfoldable pub tree_line : List ℕ → Option CertLine
tree_line line = if is_word line (codes "done") then Some Done else option_and_then line_by (three_of (words_of line))

-- ---- certificates with lemmas, one step on a line

abbrev pub one_word : List ℕ → Option CertLine
one_word word =
    if is_word word (codes "lemma") then Some Lemma else if is_word word (codes "done") then Some Done else None

abbrev pub two_words : List ℕ → List ℕ → Option CertLine
two_words word number =
    if is_word word (codes "use") then option_map Use (lemma_named number)
    else if is_word word (codes "drop") then option_map Forget (lemma_named number)
    else None

-- what is dead: a lemma, or a line of the grid
abbrev pub dead_named : List ℕ → List ℕ → Option CertLine
dead_named first second = if is_word first (codes "l") then option_map Broken (lemma_named second)
    else option_map Dead (line_named first second)

abbrev pub three_words : List ℕ → List ℕ → List ℕ → Option CertLine
three_words word first second =
    if is_word word (codes "line") then option_map Line (line_named first second)
    else if is_word word (codes "dead") then dead_named first second
    else None

abbrev pub four_words : List ℕ → List ℕ → List ℕ → List ℕ → Option CertLine
four_words word row col letters =
    if is_word word (codes "part") then option_map Part (literal_named row col letters)
    else if is_word word (codes "deny") then option_map Deny (literal_named row col letters)
    else None

abbrev pub by_words : List (List ℕ) → Option CertLine
by_words (word ∷ []) = one_word word
by_words (word ∷ number ∷ []) = two_words word number
by_words (word ∷ first ∷ second ∷ []) = three_words word first second
by_words (word ∷ row ∷ col ∷ letters ∷ []) = four_words word row col letters
by_words _ = None

-- the step of a line
unfoldable pub lemma_line : List ℕ → Option CertLine
lemma_line line = by_words (words_of line)

-- ---- certificates with lemmas, several steps on a line

-- the words that several steps can follow
abbrev pub run_word : List ℕ → Option RunWord
run_word word =
    if is_word word (codes "line") then Some Lines
    else if is_word word (codes "use") then Some Uses
    else if is_word word (codes "drop") then Some Forgets
    else None

-- the step that a word names behind one of these
abbrev pub step_named : RunWord → List ℕ → Option CertLine
step_named Lines word = option_map Line (joined_named word)
step_named Uses word = option_map Use (lemma_named word)
step_named Forgets word = option_map Forget (lemma_named word)

abbrev pub one : CertLine → List CertLine
one step = step ∷ []

-- the steps that words name, one each
unfoldable pub each_named : RunWord → List (List ℕ) → Option (List CertLine)
each_named kind [] = Some []
each_named kind (word ∷ words) =
    option_and_then (λ step. option_map (λ steps. step ∷ steps) (each_named kind words)) (step_named kind word)

-- the steps that words name, of which there may be 1000
abbrev pub run_named : RunWord → List (List ℕ) → Option (List CertLine)
run_named kind words = if nat_le (length words) 1000 then each_named kind words else None

-- the steps of a line by its first word and the others, of which there is one at least
abbrev pub run_or_step : List ℕ → List (List ℕ) → Option RunWord → Option (List CertLine)
run_or_step first words None = option_map one (by_words (first ∷ words))
run_or_step first words (Some kind) = run_named kind words

abbrev pub run_by : List (List ℕ) → Option (List CertLine)
run_by (first ∷ word ∷ words) = run_or_step first (word ∷ words) (run_word first)
run_by words = option_map one (by_words words)

-- the steps of a line
unfoldable pub run_line : List ℕ → Option (List CertLine)
run_line line = run_by (words_of line)

-- ---- all forms

-- the step of a line that has one
abbrev pub step_of : Form → List ℕ → Option CertLine
step_of Tree line = tree_line line
step_of GivenTree line = tree_line line
step_of Lemmas line = lemma_line line
step_of LemmaRuns line = lemma_line line

-- the steps of a line, from the left
abbrev pub steps_of : Form → List ℕ → Option (List CertLine)
steps_of LemmaRuns line = run_line line
steps_of form line = option_map one (step_of form line)

-- ---- what the reader's functions answer

-- the word that several steps can follow, and these; or the line is not such
abbrev pub IsRunBegun : List ℕ → Option (RunWord × Bor (List ℕ)) → Type 0
IsRunBegun line None = run_line line ≡ option_map one (lemma_line line)
IsRunBegun line (Some x) = run_line line ≡ run_named x.0 (words_of x.1.now)

-- the steps of a line were appended, as many as is said; or there are none
abbrev pub IsPushed : Form → Option (List CertLine) → List CertLine → List CertLine → Option ℕ → Type 0
IsPushed form steps old new None = steps ≡ None
IsPushed form steps old new (Some n) = (pushed : List CertLine) × ((steps ≡ Some pushed) × (new ≡ old ++ pushed)
    × (n ≡ length pushed) × AreOfForm form pushed × IsRun pushed)
