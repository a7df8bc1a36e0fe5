-- The text that is written for a certificate is read as the same certificate.
use Rattle.std.proofs.Common.{◌≡◌, ℕ, ◌+◌, ◌<◌, Bool, true, cond, List, [], ◌∷◌, ◌++◌, length, take, drop, map, append_assoc, Option, None, Some, Result, Ok, Err, refl, sym, ap, ◌∙◌}
use Rattle.std.proofs.Common.{subst, arith, codes, decimal, nat_le, option_map}
use Rattle.std.specs.List.{AllByRecursion, flat_map}
use Rattle.std.specs.Option.{ok_or, option_and_then}
use Rattle.std.proofs.lemmas.Bool.{le-leb}
use Rattle.std.proofs.lemmas.List.{append-nil, length-map, length-take-le, take-append-drop}
use Rattle.picture.specs.Readers.{◌>>=◌}
use Rattle.picture.specs.Writers.{number_text}
use Rattle.picture.specs.declared.line_id.Axis.{Axis}
use Rattle.picture.specs.declared.line_id.Axis.TheVariants.{Across, Down}
use Rattle.cert_text.specs.declared.fault.CertFault.{CertFault}
use Rattle.cert_text.specs.declared.fault.CertFault.TheVariants.{BadLine}
use Rattle.cert_text.specs.declared.cert_line.CellNumber.{CellNumber}
use Rattle.cert_text.specs.declared.cert_line.CertLine.{CertLine}
use Rattle.cert_text.specs.declared.cert_line.CertLine.TheVariants.{Line, Use, Split, Dead, Broken, Done, Part, Lemma, Deny, Forget}
use Rattle.cert_text.specs.declared.cert_line.LineNumber.{LineNumber}
use Rattle.cert_text.specs.declared.cert_line.Literal.{Literal}
use Rattle.cert_text.specs.declared.form.Form.{Form}
use Rattle.cert_text.specs.declared.form.Form.TheVariants.{Tree, GivenTree, Lemmas, LemmaRuns}
use Rattle.cert_text.specs.declared.runs.RunWord.{RunWord}
use Rattle.cert_text.specs.declared.runs.RunWord.TheVariants.{Lines, Uses, Forgets}
use Rattle.cert_text.specs.Cert.{Certificate, certificate, AreOfForm, AreOrdered, AreRuns, CanHaveGivens, HasRuns, IsCert, IsOfLemmas, IsOfTree, IsRun, IsWritable, ShareWord, cut_into, rank}
use Rattle.cert_text.specs.Letters.{colours_named, letters_text}
use Rattle.cert_text.specs.Reading.{below_givens, cert_of_lines, each_line, joined, lengths, steps_below}
use Rattle.cert_text.specs.Steps.{by_words, each_named, lemma_line, line_by, one, run_by, run_line, run_named, step_named, steps_of, tree_line}
use Rattle.cert_text.specs.Text.{cell_named, given_line, given_lines, is_word, line_number, lines_of, literal, literal_named, take_given, three_of}
use Rattle.cert_text.specs.WrittenCert.{IsReadAgain, axis_joined, axis_text, given_text, line_text, run_text, steps_text, word_text, words_text}
use Rattle.cert_text.proofs.ColoursAgain.{colours_again, letters_are}
use Rattle.cert_text.proofs.ReadLemmas.{none_each}
use Rattle.cert_text.proofs.RunLemmas.{IsNamedBy}
use Rattle.cert_text.proofs.WordLemmas.{lines_none}
use Rattle.cert_text.proofs.WordsAgain.{AreWords, IsWord, axis_is, axis_named, axis_word, cell_named_again, decimal_is, first_line_is, joined_again, joined_is, lemma_again, number_is, spaced}
use Rattle.cert_text.proofs.WordsAgain.{spaced_lacks, words_again}

-- a line that is written for steps is read as these, and gives no cell
record Again (form : Form) (written : List ℕ) (run : List CertLine) : Type 0 where
  text : List ℕ
  first : (rest : List ℕ) → lines_of (written ++ rest) ≡ text ∷ lines_of rest
  reads : steps_of form text ≡ Some run
  no_given : given_line text ≡ None

-- what three words give
abbrev given_of_three : Option (List ℕ × List ℕ × List ℕ) → Option CellNumber
given_of_three words = option_and_then (λ (t : List ℕ × List ℕ × List ℕ). cond (is_word t.0 (codes "given")) (cell_named t.1 t.2) None) words

of_words : (form : Form) (written : List ℕ) (run : List CertLine) (word : List ℕ) (words : List (List ℕ)) → AreWords (word ∷ words) → written ≡ spaced word words ++ 10 ∷ []
    → steps_of form (spaced word words) ≡ Some run → given_of_three (three_of (word ∷ words)) ≡ None → Again form written run
unfolding given_line
of_words form written run word words are is reads other =
    let text = spaced word words in
    record {
      text = text;
      first = λ rest. ap (λ (t : List ℕ). lines_of (t ++ rest)) is ∙ (ap lines_of (append_assoc text (10 ∷ []) rest) ∙ first_line_is text rest (spaced_lacks word words are));
      reads = reads;
      no_given = ap (λ (ws : List (List ℕ)). given_of_three (three_of ws)) (words_again word words are) ∙ other;
    }

-- ---- a line with one step: its first word, and the others

abbrev first_word : CertLine → List ℕ
first_word (Line line) = codes "line"
first_word (Use lemma) = codes "use"
first_word (Split cell) = codes "split"
first_word (Dead line) = codes "dead"
first_word (Broken lemma) = codes "dead"
first_word Done = codes "done"
first_word (Part l) = codes "part"
first_word Lemma = codes "lemma"
first_word (Deny l) = codes "deny"
first_word (Forget lemma) = codes "drop"

abbrev literal_words : Literal → List (List ℕ)
literal_words l = decimal l.cell.row ∷ decimal l.cell.col ∷ letters_text l.colours ∷ []

abbrev other_words : CertLine → List (List ℕ)
other_words (Line line) = axis_word line.axis ∷ decimal line.number ∷ []
other_words (Use lemma) = decimal lemma ∷ []
other_words (Split cell) = decimal cell.row ∷ decimal cell.col ∷ []
other_words (Dead line) = axis_word line.axis ∷ decimal line.number ∷ []
other_words (Broken lemma) = codes "l" ∷ decimal lemma ∷ []
other_words Done = []
other_words (Part l) = literal_words l
other_words Lemma = []
other_words (Deny l) = literal_words l
other_words (Forget lemma) = decimal lemma ∷ []

abbrev line_of : CertLine → List ℕ
line_of step = spaced (first_word step) (other_words step)

named_is : (axis : Axis) (n : ℕ) → axis_text axis ++ number_text n 10 ≡ (axis_word axis ++ 32 ∷ decimal n) ++ 10 ∷ []
named_is Across n = refl
named_is Down n = refl

cell_parts : (a b c : List ℕ) → (a ++ 32 ∷ []) ++ ((b ++ 32 ∷ []) ++ (c ++ 10 ∷ [])) ≡ (a ++ 32 ∷ (b ++ 32 ∷ c)) ++ 10 ∷ []
cell_parts a b c = simp append_assoc

literal_parts : (a b c d : List ℕ) → ((a ++ 32 ∷ []) ++ ((b ++ 32 ∷ []) ++ (c ++ 32 ∷ []))) ++ (d ++ 10 ∷ []) ≡ (a ++ 32 ∷ (b ++ 32 ∷ (c ++ 32 ∷ d))) ++ 10 ∷ []
literal_parts a b c d = simp append_assoc

is_text : (step : CertLine) → line_text step ≡ line_of step ++ 10 ∷ []
is_text (Line line) = ap (λ (t : List ℕ). codes "line " ++ t) (named_is line.axis line.number)
is_text (Use lemma) = refl
is_text (Split cell) = cell_parts (codes "split") (decimal cell.row) (decimal cell.col)
is_text (Dead line) = ap (λ (t : List ℕ). codes "dead " ++ t) (named_is line.axis line.number)
is_text (Broken lemma) = refl
is_text Done = refl
is_text (Part l) = literal_parts (codes "part") (decimal l.cell.row) (decimal l.cell.col) (letters_text l.colours)
is_text Lemma = refl
is_text (Deny l) = literal_parts (codes "deny") (decimal l.cell.row) (decimal l.cell.col) (letters_text l.colours)
is_text (Forget lemma) = refl

first_is : (step : CertLine) → IsWord (first_word step)
first_is (Line line) = record { no_space = refl; no_feed = refl }
first_is (Use lemma) = record { no_space = refl; no_feed = refl }
first_is (Split cell) = record { no_space = refl; no_feed = refl }
first_is (Dead line) = record { no_space = refl; no_feed = refl }
first_is (Broken lemma) = record { no_space = refl; no_feed = refl }
first_is Done = record { no_space = refl; no_feed = refl }
first_is (Part l) = record { no_space = refl; no_feed = refl }
first_is Lemma = record { no_space = refl; no_feed = refl }
first_is (Deny l) = record { no_space = refl; no_feed = refl }
first_is (Forget lemma) = record { no_space = refl; no_feed = refl }

gives_nothing : (step : CertLine) → given_of_three (three_of (first_word step ∷ other_words step)) ≡ None
gives_nothing (Line line) = refl
gives_nothing (Use lemma) = refl
gives_nothing (Split cell) = refl
gives_nothing (Dead line) = refl
gives_nothing (Broken lemma) = refl
gives_nothing Done = refl
gives_nothing (Part l) = refl
gives_nothing Lemma = refl
gives_nothing (Deny l) = refl
gives_nothing (Forget lemma) = refl

named_words : (line : LineNumber) → line.number < 1000 → AreWords (axis_word line.axis ∷ decimal line.number ∷ [])
named_words line w = (axis_is line.axis, (number_is line.number w, tt))

literal_are : (l : Literal) → IsWritable l → AreWords (literal_words l)
literal_are l w = (number_is l.cell.row w.0, (number_is l.cell.col w.1, (letters_are l.colours, tt)))

lemma_word : (lemma : ℕ) → lemma < 65536 → AreWords (decimal lemma ∷ [])
lemma_word lemma w = (decimal_is lemma (omega (arith, w)), tt)

tree_are : (step : CertLine) → IsOfTree step → AreWords (other_words step)
tree_are (Line line) w = named_words line w
tree_are (Split cell) w = (number_is cell.row w.0, (number_is cell.col w.1, tt))
tree_are (Dead line) w = named_words line w
tree_are Done w = tt
tree_are _ w = absurd w

lemmas_are : (step : CertLine) → IsOfLemmas step → AreWords (other_words step)
lemmas_are (Line line) w = named_words line w
lemmas_are (Use lemma) w = lemma_word lemma w
lemmas_are (Split cell) w = absurd w
lemmas_are (Dead line) w = named_words line w
lemmas_are (Broken lemma) w = (record { no_space = refl; no_feed = refl }, lemma_word lemma w)
lemmas_are Done w = tt
lemmas_are (Part l) w = literal_are l w
lemmas_are Lemma w = tt
lemmas_are (Deny l) w = literal_are l w
lemmas_are (Forget lemma) w = lemma_word lemma w

literal_again : (l : Literal) → IsWritable l → literal_named (decimal l.cell.row) (decimal l.cell.col) (letters_text l.colours) ≡ Some l
literal_again l w =
    ap (option_and_then (λ (cell : CellNumber). option_map (literal cell) (colours_named (letters_text l.colours)))) (cell_named_again l.cell.row l.cell.col w.0 w.1)
    ∙ ap (λ (colours : Option ℕ). option_map (literal l.cell) colours) (colours_again l.colours w.2 w.3)

tree_reads : (step : CertLine) → IsOfTree step → tree_line (line_of step) ≡ Some step
unfolding tree_line
tree_reads (Line line) w =
    ap (λ (ws : List (List ℕ)). option_and_then line_by (three_of ws)) (words_again (codes "line") (other_words (Line line)) (first_is (Line line), named_words line w))
    ∙ ap (option_map Line) (axis_named line.axis line.number w)
tree_reads (Split cell) w =
    ap (λ (ws : List (List ℕ)). option_and_then line_by (three_of ws)) (words_again (codes "split") (other_words (Split cell)) (first_is (Split cell), tree_are (Split cell) w))
    ∙ ap (option_map Split) (cell_named_again cell.row cell.col w.0 w.1)
tree_reads (Dead line) w =
    ap (λ (ws : List (List ℕ)). option_and_then line_by (three_of ws)) (words_again (codes "dead") (other_words (Dead line)) (first_is (Dead line), named_words line w))
    ∙ ap (option_map Dead) (axis_named line.axis line.number w)
tree_reads Done w = refl
tree_reads _ w = absurd w

dead_again : (axis : Axis) (n : ℕ) → n < 1000 → by_words (codes "dead" ∷ axis_word axis ∷ decimal n ∷ []) ≡ Some (Dead (line_number axis n))
dead_again Across n l = ap (option_map Dead) (axis_named Across n l)
dead_again Down n l = ap (option_map Dead) (axis_named Down n l)

words_read : (step : CertLine) → IsOfLemmas step → by_words (first_word step ∷ other_words step) ≡ Some step
words_read (Line line) w = ap (option_map Line) (axis_named line.axis line.number w)
words_read (Use lemma) w = ap (option_map Use) (lemma_again lemma w)
words_read (Split cell) w = absurd w
words_read (Dead line) w = dead_again line.axis line.number w
words_read (Broken lemma) w = ap (option_map Broken) (lemma_again lemma w)
words_read Done w = refl
words_read (Part l) w = ap (option_map Part) (literal_again l w)
words_read Lemma w = refl
words_read (Deny l) w = ap (option_map Deny) (literal_again l w)
words_read (Forget lemma) w = ap (option_map Forget) (lemma_again lemma w)

lemmas_read : (step : CertLine) → IsOfLemmas step → lemma_line (line_of step) ≡ Some step
unfolding lemma_line
lemmas_read step w = ap by_words (words_again (first_word step) (other_words step) (first_is step, lemmas_are step w)) ∙ words_read step w

one_again : (form : Form) (step : CertLine) → AreWords (other_words step) → steps_of form (line_of step) ≡ Some (one step) → Again form (line_text step) (one step)
one_again form step are reads = of_words form (line_text step) (one step) (first_word step) (other_words step) (first_is step, are) (is_text step) reads (gives_nothing step)

tree_again : (form : Form) (step : CertLine) → (steps_of form (line_of step) ≡ option_map one (tree_line (line_of step))) → IsOfTree step → Again form (line_text step) (one step)
tree_again form step e w = one_again form step (tree_are step w) (e ∙ ap (option_map one) (tree_reads step w))

lemmas_again : (step : CertLine) → IsOfLemmas step → Again Lemmas (line_text step) (one step)
lemmas_again step w = one_again Lemmas step (lemmas_are step w) (ap (option_map one) (lemmas_read step w))

-- ---- a line with several steps

-- a step that cannot share its line
abbrev IsAlone : CertLine → Type 0
IsAlone (Line line) = ⊥
IsAlone (Use lemma) = ⊥
IsAlone (Forget lemma) = ⊥
IsAlone _ = Unit {0}

runs_alone : (step : CertLine) → IsAlone step → IsOfLemmas step → run_by (first_word step ∷ other_words step) ≡ option_map one (by_words (first_word step ∷ other_words step))
runs_alone (Line line) a w = absurd a
runs_alone (Use lemma) a w = absurd a
runs_alone (Forget lemma) a w = absurd a
runs_alone (Split cell) a w = absurd w
runs_alone _ a w = refl

alone_again : (step : CertLine) → IsAlone step → IsOfLemmas step → Again LemmaRuns (line_text step) (one step)
unfolding run_line
alone_again step a w =
    one_again LemmaRuns step (lemmas_are step w)
    (ap run_by (words_again (first_word step) (other_words step) (first_is step, lemmas_are step w)) ∙ (runs_alone step a w ∙ ap (option_map one) (words_read step w)))

abbrev run_first : RunWord → List ℕ
run_first Lines = codes "line"
run_first Uses = codes "use"
run_first Forgets = codes "drop"

-- the word that names a step
abbrev named_word : CertLine → List ℕ
named_word (Line line) = axis_word line.axis ++ decimal line.number
named_word (Use lemma) = decimal lemma
named_word (Forget lemma) = decimal lemma
named_word _ = []

-- what is written for a step behind a word, and how that is read
pub record WordAgain (kind : RunWord) (step : CertLine) : Type 0 where
  pub is : word_text step ≡ 32 ∷ named_word step
  pub word : IsWord (named_word step)
  pub reads : step_named kind (named_word step) ≡ Some step

line_word : (axis : Axis) (n : ℕ) → axis_joined axis ++ decimal n ≡ 32 ∷ (axis_word axis ++ decimal n)
line_word Across n = refl
line_word Down n = refl

word_again : (kind : RunWord) (step : CertLine) → IsNamedBy kind step → IsOfLemmas step → WordAgain kind step
word_again Lines step p w =
    subst (λ (s : CertLine). IsOfLemmas s → WordAgain Lines s) (sym p.1)
    (λ v. record { is = line_word p.0.axis p.0.number; word = joined_is p.0.axis p.0.number v; reads = ap (option_map Line) (joined_again p.0.axis p.0.number v) }) w
word_again Uses step p w =
    subst (λ (s : CertLine). IsOfLemmas s → WordAgain Uses s) (sym p.1) (λ v. record { is = refl; word = (lemma_word p.0 v).0; reads = ap (option_map Use) (lemma_again p.0 v) }) w
word_again Forgets step p w =
    subst (λ (s : CertLine). IsOfLemmas s → WordAgain Forgets s) (sym p.1) (λ v. record { is = refl; word = (lemma_word p.0 v).0; reads = ap (option_map Forget) (lemma_again p.0 v) }) w

module _ (kind : RunWord) where
  all_again : (steps : List CertLine) → AllByRecursion (IsNamedBy kind) steps → AllByRecursion IsOfLemmas steps → AllByRecursion (WordAgain kind) steps
  all_again [] p w = tt
  all_again (step ∷ steps) p w = (word_again kind step p.0 w.0, all_again steps p.1 w.1)

  each_again : (steps : List CertLine) → AllByRecursion (WordAgain kind) steps → each_named kind (map named_word steps) ≡ Some steps
  unfolding each_named
  each_again [] a = refl
  each_again (step ∷ steps) a =
      ap (option_and_then (λ (s : CertLine). option_map (λ (ss : List CertLine). s ∷ ss) (each_named kind (map named_word steps)))) a.0.reads
      ∙ ap (option_map (λ (ss : List CertLine). step ∷ ss)) (each_again steps a.1)

  each_are : (steps : List CertLine) → AllByRecursion (WordAgain kind) steps → AreWords (map named_word steps)
  each_are [] a = tt
  each_are (step ∷ steps) a = (a.0.word, each_are steps a.1)

  spaced_is : (word : List ℕ) (steps : List CertLine) → AllByRecursion (WordAgain kind) steps → spaced word (map named_word steps) ≡ word ++ flat_map word_text steps
  spaced_is word [] a = sym (append-nil word)
  spaced_is word (step ∷ steps) a =
      ap (λ (t : List ℕ). word ++ 32 ∷ t) (spaced_is (named_word step) steps a.1) ∙ ap (λ (t : List ℕ). word ++ (t ++ flat_map word_text steps)) (sym a.0.is)

  run_first_is : IsWord (run_first kind)
  run_first_is = by kind
    where
      by : (k : RunWord) → IsWord (run_first k)
      by Lines = record { no_space = refl; no_feed = refl }
      by Uses = record { no_space = refl; no_feed = refl }
      by Forgets = record { no_space = refl; no_feed = refl }

begins_run : (kind : RunWord) (word : List ℕ) (words : List (List ℕ)) → run_by (run_first kind ∷ word ∷ words) ≡ run_named kind (word ∷ words)
begins_run Lines word words = refl
begins_run Uses word words = refl
begins_run Forgets word words = refl

run_gives_nothing : (kind : RunWord) (words : List (List ℕ)) → given_of_three (three_of (run_first kind ∷ words)) ≡ None
run_gives_nothing kind [] = refl
run_gives_nothing kind (a ∷ []) = refl
run_gives_nothing Lines (a ∷ b ∷ []) = refl
run_gives_nothing Uses (a ∷ b ∷ []) = refl
run_gives_nothing Forgets (a ∷ b ∷ []) = refl
run_gives_nothing kind (a ∷ b ∷ c ∷ words) = refl

run_again : (kind : RunWord) (step : CertLine) (steps : List CertLine) → AllByRecursion (IsNamedBy kind) (step ∷ steps) → AllByRecursion IsOfLemmas (step ∷ steps) → length steps < 1000
    → Again LemmaRuns (words_text (run_first kind) (step ∷ steps)) (step ∷ steps)
unfolding run_line
run_again kind step steps p w few =
    let all = step ∷ steps in
    let a = all_again kind all p w in
    let words = map named_word all in
    let are : AreWords (run_first kind ∷ words) = (run_first_is kind, each_are kind all a) in
    let short : nat_le (length words) 1000 ≡ true = le-leb (length words) 1000 (omega (arith, few, length-map all named_word)) in
    of_words LemmaRuns (words_text (run_first kind) all) all (run_first kind) words are
    (sym (append_assoc (run_first kind) (flat_map word_text all) (10 ∷ [])) ∙ ap (λ (t : List ℕ). t ++ 10 ∷ []) (sym (spaced_is kind (run_first kind) all a)))
    (ap run_by (words_again (run_first kind) words are)
    ∙ (begins_run kind (named_word step) (map named_word steps) ∙ (ap (λ (t : Bool). cond t (each_named kind words) None) short ∙ each_again kind all a)))
    (run_gives_nothing kind words)

shared_lines : (line : LineNumber) (steps : List CertLine) → AllByRecursion (ShareWord (Line line)) steps → AllByRecursion (IsNamedBy Lines) steps
shared_lines line [] s = tt
shared_lines line (Line other ∷ steps) s = ((other, refl), shared_lines line steps s.1)
shared_lines line (step ∷ steps) s = absurd s.0

shared_uses : (lemma : ℕ) (steps : List CertLine) → AllByRecursion (ShareWord (Use lemma)) steps → AllByRecursion (IsNamedBy Uses) steps
shared_uses lemma [] s = tt
shared_uses lemma (Use other ∷ steps) s = ((other, refl), shared_uses lemma steps s.1)
shared_uses lemma (step ∷ steps) s = absurd s.0

shared_forgets : (lemma : ℕ) (steps : List CertLine) → AllByRecursion (ShareWord (Forget lemma)) steps → AllByRecursion (IsNamedBy Forgets) steps
shared_forgets lemma [] s = tt
shared_forgets lemma (Forget other ∷ steps) s = ((other, refl), shared_forgets lemma steps s.1)
shared_forgets lemma (step ∷ steps) s = absurd s.0

is_run_again : (run : List CertLine) → IsRun run → AllByRecursion IsOfLemmas run → Again LemmaRuns (run_text run) run
is_run_again [] r w = absurd r
is_run_again (Line line ∷ steps) r w = run_again Lines (Line line) steps ((line, refl), shared_lines line steps r.1) w r.0
is_run_again (Use lemma ∷ steps) r w = run_again Uses (Use lemma) steps ((lemma, refl), shared_uses lemma steps r.1) w r.0
is_run_again (Forget lemma ∷ steps) r w = run_again Forgets (Forget lemma) steps ((lemma, refl), shared_forgets lemma steps r.1) w r.0
is_run_again (step ∷ []) r w = alone_again step tt w.0
is_run_again (step ∷ other ∷ steps) r w = absurd r.1.0

-- ---- all lines

-- a text does not begin with a given
record HasNoGiven (text : List ℕ) : Type 0 where
  none : (n least : ℕ) → given_lines n least (lines_of text) ≡ Ok ([], lines_of text)

module _ {X : Type 0} (form : Form) (written : X → List ℕ) (run : X → List CertLine) where
  lines_again : (xs : List X) (n : ℕ) → AllByRecursion (λ x. Again form (written x) (run x)) xs → each_line form n (lines_of (flat_map written xs)) ≡ Ok (map run xs)
  unfolding each_line
  lines_again [] n a = ap (each_line form n) lines_none
  lines_again (x ∷ xs) n a =
      ap (each_line form n) (a.0.first (flat_map written xs))
      ∙ (ap (λ (o : Option (List CertLine)). ok_or o (BadLine n) >>= λ first. (each_line form (n + 1) (lines_of (flat_map written xs)) >>= λ rest. Ok (first ∷ rest))) a.0.reads
      ∙ ap (λ (r : Result (List (List CertLine)) CertFault). r >>= λ rest. Ok (run x ∷ rest)) (lines_again xs (n + 1) a.1))

  none_given : (xs : List X) → AllByRecursion (λ x. Again form (written x) (run x)) xs → HasNoGiven (flat_map written xs)
  unfolding given_lines
  none_given [] a = record { none = λ n least. ap (given_lines n least) lines_none ∙ ap (λ (ls : List (List ℕ)). Ok ([], ls)) (sym lines_none) }
  none_given (x ∷ xs) a =
      let rest = lines_of (flat_map written xs) in
      let first = a.0.first (flat_map written xs) in
      record {
        none = λ n least.
            ap (given_lines n least) first
            ∙ (ap (λ (o : Option CellNumber). take_given n least (a.0.text ∷ rest) o (λ from. given_lines (n + 1) from rest)) a.0.no_given
            ∙ ap (λ (ls : List (List ℕ)). Ok ([], ls)) (sym first));
      }

-- the steps below the givens, as they are written and read
record StepsAgain (form : Form) (lines : List CertLine) (runs : List ℕ) : Type 0 where
  reads : (n : ℕ) → steps_below form n (lines_of (steps_text form lines runs)) ≡ Ok (lines, runs)
  no_given : HasNoGiven (steps_text form lines runs)

joined_ones : (lines : List CertLine) → joined (map one lines) ≡ lines
joined_ones [] = refl
joined_ones (line ∷ lines) = ap (λ (ls : List CertLine). line ∷ ls) (joined_ones lines)

abbrev after_lines : Form → Result (List (List CertLine)) CertFault → Result (List CertLine × List ℕ) CertFault
after_lines form read = read >>= λ runs. Ok (joined runs, lengths form runs)

ones_again : (form : Form) (lines : List CertLine) (runs : List ℕ) → AllByRecursion (λ step. Again form (line_text step) (one step)) lines → steps_text form lines runs ≡ flat_map line_text lines
    → lengths form (map one lines) ≡ [] → runs ≡ [] → StepsAgain form lines runs
ones_again form lines runs a text none e = record {
  reads = λ n.
      ap (λ (t : List ℕ). steps_below form n (lines_of t)) text
      ∙ (ap (after_lines form) (lines_again form line_text one lines n a)
      ∙ (ap (λ (ls : List CertLine). Ok (ls, lengths form (map one lines))) (joined_ones lines) ∙ ap (λ (ns : List ℕ). Ok (lines, ns)) (none ∙ sym e)));
  no_given = subst HasNoGiven (sym text) (none_given form line_text one lines a);
}

trees_again : (form : Form) (lines : List CertLine) → ((line : List ℕ) → steps_of form line ≡ option_map one (tree_line line)) → AllByRecursion IsOfTree lines
    → AllByRecursion (λ step. Again form (line_text step) (one step)) lines
trees_again form [] e w = tt
trees_again form (line ∷ lines) e w = (tree_again form line (e (line_of line)) w.0, trees_again form lines e w.1)

each_lemma_again : (lines : List CertLine) → AllByRecursion IsOfLemmas lines → AllByRecursion (λ step. Again Lemmas (line_text step) (one step)) lines
each_lemma_again [] w = tt
each_lemma_again (line ∷ lines) w = (lemmas_again line w.0, each_lemma_again lines w.1)

-- steps cut into runs

all_left : (P : CertLine → Type 0) (xs ys : List CertLine) → AllByRecursion P (xs ++ ys) → AllByRecursion P xs × AllByRecursion P ys
all_left P [] ys all = (tt, all)
all_left P (x ∷ xs) ys all = let rest = all_left P xs ys all.1 in ((all.0, rest.0), rest.1)

cut_joins : (runs : List ℕ) (lines : List CertLine) → AreRuns runs lines → joined (cut_into runs lines) ≡ lines
cut_joins [] lines are = sym are
cut_joins (run ∷ runs) lines are = ap (λ (rest : List CertLine). take run lines ++ rest) (cut_joins runs (drop run lines) are.2) ∙ take-append-drop run lines

cut_lengths : (runs : List ℕ) (lines : List CertLine) → AreRuns runs lines → lengths LemmaRuns (cut_into runs lines) ≡ runs
cut_lengths [] lines are = refl
cut_lengths (run ∷ runs) lines are =
    ap (λ (n : ℕ). n ∷ lengths LemmaRuns (cut_into runs (drop run lines))) (length-take-le run lines are.0) ∙ ap (λ (ns : List ℕ). run ∷ ns) (cut_lengths runs (drop run lines) are.2)

abbrev itself : List CertLine → List CertLine
itself run = run

map_itself : (runs : List (List CertLine)) → map itself runs ≡ runs
map_itself [] = refl
map_itself (run ∷ runs) = ap (λ (rs : List (List CertLine)). run ∷ rs) (map_itself runs)

cut_again : (runs : List ℕ) (lines : List CertLine) → AreRuns runs lines → AllByRecursion IsOfLemmas lines → AllByRecursion (λ run. Again LemmaRuns (run_text run) run) (cut_into runs lines)
cut_again [] lines are w = tt
cut_again (run ∷ runs) lines are w =
    let parts = all_left IsOfLemmas (take run lines) (drop run lines) (subst (AllByRecursion IsOfLemmas) (sym (take-append-drop run lines)) w) in
    (is_run_again (take run lines) are.1 parts.0, cut_again runs (drop run lines) are.2 parts.1)

runs_again : (lines : List CertLine) (runs : List ℕ) → AllByRecursion IsOfLemmas lines → AreRuns runs lines → StepsAgain LemmaRuns lines runs
runs_again lines runs w are =
    let cut = cut_into runs lines in
    let a = cut_again runs lines are w in
    record {
      reads = λ n.
          ap (after_lines LemmaRuns) (lines_again LemmaRuns run_text itself cut n a ∙ ap Ok (map_itself cut))
          ∙ (ap (λ (ls : List CertLine). Ok (ls, lengths LemmaRuns cut)) (cut_joins runs lines are) ∙ ap (λ (ns : List ℕ). Ok (lines, ns)) (cut_lengths runs lines are));
      no_given = none_given LemmaRuns run_text itself cut a;
    }

steps_again : (form : Form) (lines : List CertLine) (runs : List ℕ) → AreOfForm form lines → HasRuns form runs lines → StepsAgain form lines runs
steps_again Tree lines runs w e = ones_again Tree lines runs (trees_again Tree lines (λ line. refl) w) refl (none_each (map one lines)) e
steps_again GivenTree lines runs w e = ones_again GivenTree lines runs (trees_again GivenTree lines (λ line. refl) w) refl (none_each (map one lines)) e
steps_again Lemmas lines runs w e = ones_again Lemmas lines runs (each_lemma_again lines w) refl (none_each (map one lines)) e
steps_again LemmaRuns lines runs w are = runs_again lines runs w are

-- ---- givens

abbrev given_words : CellNumber → List (List ℕ)
given_words cell = decimal cell.row ∷ decimal cell.col ∷ []

given_are : (cell : CellNumber) → cell.row < 1000 → cell.col < 1000 → AreWords (codes "given" ∷ given_words cell)
given_are cell l m = (record { no_space = refl; no_feed = refl }, (number_is cell.row l, (number_is cell.col m, tt)))

given_again : (cell : CellNumber) → cell.row < 1000 → cell.col < 1000 → given_line (spaced (codes "given") (given_words cell)) ≡ Some cell
unfolding given_line
given_again cell l m =
    ap (λ (ws : List (List ℕ)). given_of_three (three_of ws))
    (words_again (codes "given") (given_words cell) (given_are cell l m)) ∙ cell_named_again cell.row cell.col l m

given_first : (cell : CellNumber) → cell.row < 1000 → cell.col < 1000 → (rest : List ℕ) → lines_of (given_text cell ++ rest) ≡ spaced (codes "given") (given_words cell) ∷ lines_of rest
given_first cell l m rest =
    let text = spaced (codes "given") (given_words cell) in
    ap (λ (t : List ℕ). lines_of (t ++ rest)) (cell_parts (codes "given") (decimal cell.row) (decimal cell.col))
    ∙ (ap lines_of (append_assoc text (10 ∷ []) rest)
    ∙ first_line_is text rest (spaced_lacks (codes "given") (given_words cell) (given_are cell l m)))

givens_again : (givens : List CellNumber) (below : List ℕ) (n least : ℕ) → AreOrdered least givens → HasNoGiven below
    → given_lines n least (lines_of (flat_map given_text givens ++ below)) ≡ Ok (givens, lines_of below)
unfolding given_lines
givens_again [] below n least o w = w.none n least
givens_again (cell ∷ cells) below n least o w =
    let rest = lines_of (flat_map given_text cells ++ below) in
    let text = spaced (codes "given") (given_words cell) in
    let further = λ (from : ℕ). given_lines (n + 1) from rest in
    let passes : nat_le least (rank cell) ≡ true = le-leb least (rank cell) (let l = o.2 in omega arith) in
    ap (given_lines n least) (ap lines_of (append_assoc (given_text cell) (flat_map given_text cells) below) ∙ given_first cell o.0 o.1 (flat_map given_text cells ++ below))
    ∙ (ap (λ (c : Option CellNumber). take_given n least (text ∷ rest) c further) (given_again cell o.0 o.1)
    ∙ (ap (λ (t : Bool). cond t (further (rank cell + 1) >>= λ read. Ok (cell ∷ read.0, read.1)) (Err (BadLine n))) passes
    ∙ ap (λ (r : Result (List CellNumber × List (List ℕ)) CertFault). r >>= λ read. Ok (cell ∷ read.0, read.1)) (givens_again cells below (n + 1) (rank cell + 1) o.3 w)))

-- ---- the whole text

abbrev below : Form → List CellNumber → Result (List CertLine × List ℕ) CertFault → Result Certificate CertFault
below form givens read = read >>= λ steps. Ok (certificate form givens steps.0 steps.1)

ungiven_again : (givens : List CellNumber) (lines : List CertLine) (runs : List ℕ) → givens ≡ [] → StepsAgain Tree lines runs → IsReadAgain (certificate Tree givens lines runs)
ungiven_again givens lines runs e a =
    let P : List CellNumber → Type 0 = λ cells. IsReadAgain (certificate Tree cells lines runs) in
    subst P (sym e) (ap cert_of_lines (first_line_is (codes "nonocert 1") (steps_text Tree lines runs) refl) ∙ ap (below Tree []) (a.reads 2))

-- behind the first line of a form with givens
given_part : (form : Form) (givens : List CellNumber) (lines : List CertLine) (runs : List ℕ) → AreOrdered 0 givens → StepsAgain form lines runs
    → (given_lines 2 0 (lines_of (flat_map given_text givens ++ steps_text form lines runs)) >>= below_givens form) ≡ Ok (certificate form givens lines runs)
given_part form givens lines runs o a =
    ap (λ (r : Result (List CellNumber × List (List ℕ)) CertFault). r >>= below_givens form) (givens_again givens (steps_text form lines runs) 2 0 o a.no_given)
    ∙ ap (below form givens) (a.reads (2 + length givens))

by_form : (form : Form) (givens : List CellNumber) (lines : List CertLine) (runs : List ℕ) → CanHaveGivens form givens → StepsAgain form lines runs → IsReadAgain (certificate form givens lines runs)
by_form Tree givens lines runs e a = ungiven_again givens lines runs e a
by_form GivenTree givens lines runs o a =
    ap cert_of_lines (first_line_is (codes "nonocert 2") (flat_map given_text givens ++ steps_text GivenTree lines runs) refl) ∙ given_part GivenTree givens lines runs o a
by_form Lemmas givens lines runs o a =
    ap cert_of_lines (first_line_is (codes "nonolemma 1") (flat_map given_text givens ++ steps_text Lemmas lines runs) refl) ∙ given_part Lemmas givens lines runs o a
by_form LemmaRuns givens lines runs o a =
    ap cert_of_lines (first_line_is (codes "nonolemma 2") (flat_map given_text givens ++ steps_text LemmaRuns lines runs) refl) ∙ given_part LemmaRuns givens lines runs o a

pub is_read_again : (cert : Certificate) → IsCert cert → IsReadAgain cert
is_read_again cert is = by_form cert.form cert.givens cert.lines cert.runs is.givens (steps_again cert.form cert.lines cert.runs is.lines is.runs)
