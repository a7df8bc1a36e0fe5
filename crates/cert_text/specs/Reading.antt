-- A certificate read from the lines of a text.
use Rattle.std.specs.Prelude.{ℕ, ◌+◌, List, [], ◌∷◌, length, codes, Option, None, Some, Result, Ok, Err, ok_or}
use Rattle.std.specs.Prelude.{if◌then◌else◌}
use Rattle.std.proofs.Common.{Vec, Global}
use Rattle.std.specs.List.{flat_map}
use Rattle.picture.specs.Readers.{◌>>=◌}
use Rattle.cert_text.specs.declared.fault.CertFault.{CertFault}
use Rattle.cert_text.specs.declared.fault.CertFault.TheVariants.{NotCert, BadLine}
use Rattle.cert_text.specs.declared.cert_line.CellNumber.{CellNumber}
use Rattle.cert_text.specs.declared.cert_line.CertLine.{CertLine}
use Rattle.cert_text.specs.declared.form.Form.{Form}
use Rattle.cert_text.specs.declared.form.Form.TheVariants.{Tree, GivenTree, Lemmas, LemmaRuns}
use Rattle.cert_text.specs.Cert.{Certificate, certificate}
use Rattle.cert_text.specs.Steps.{steps_of}
use Rattle.cert_text.specs.Text.{given_lines, is_word, lines_of}

-- the steps of each line below the givens, of which the first has number n
unfoldable pub each_line : Form → ℕ → List (List ℕ) → Result (List (List CertLine)) CertFault
each_line form n [] = Ok []
each_line form n (line ∷ lines) =
    ok_or (steps_of form line) (BadLine n) >>= λ steps. (each_line form (n + 1) lines >>= λ rest. Ok (steps ∷ rest))

-- the form that the first line says
abbrev pub form_of : List ℕ → Option Form
form_of line =
    if is_word line (codes "nonocert 1") then Some Tree
    else if is_word line (codes "nonocert 2") then Some GivenTree
    else if is_word line (codes "nonolemma 1") then Some Lemmas
    else if is_word line (codes "nonolemma 2") then Some LemmaRuns
    else None

-- the givens, and the lines below them: `nonocert 1` has no givens
abbrev pub givens_of : Form → List (List ℕ) → Result (List CellNumber × List (List ℕ)) CertFault
givens_of Tree lines = Ok ([], lines)
givens_of _ lines = given_lines 2 0 lines

-- how many steps each line has, in the form where it may have several
abbrev pub length_of : Form → ℕ → List ℕ
length_of LemmaRuns n = n ∷ []
length_of _ n = []

abbrev pub lengths : Form → List (List CertLine) → List ℕ
lengths form runs = flat_map (λ run. length_of form (length run)) runs

abbrev pub joined : List (List CertLine) → List CertLine
joined runs = flat_map (λ run. run) runs

-- the steps of lines of which the first has number n, and how many each line has
abbrev pub steps_below : Form → ℕ → List (List ℕ) → Result (List CertLine × List ℕ) CertFault
steps_below form n lines = each_line form n lines >>= λ runs. Ok (joined runs, lengths form runs)

abbrev pub below_givens : Form → List CellNumber × List (List ℕ) → Result Certificate CertFault
below_givens form read = steps_below form (2 + length read.0) read.1 >>= λ steps.
    Ok (certificate form read.0 steps.0 steps.1)

-- the certificate of lines, of which the first says the form
abbrev pub cert_of_lines : List (List ℕ) → Result Certificate CertFault
cert_of_lines [] = Err (NotCert 1)
cert_of_lines (first ∷ lines) =
    ok_or (form_of first) (NotCert 1) >>= λ form. (givens_of form lines >>= below_givens form)

-- the certificate of a text, or the first error
abbrev pub cert_of : List ℕ → Result Certificate CertFault
cert_of text = cert_of_lines (lines_of text)

-- what reading lines answers: the steps, and how many each line has
abbrev pub lines_seen : Vec CertLine Global × Vec ℕ Global → List CertLine × List ℕ
lines_seen read = (read.0.items, read.1.items)
