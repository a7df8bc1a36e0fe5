-- Lines read one by one: what is read so far, and what is left to read.
use Rattle.std.proofs.Common.{◌≡◌, ℕ, ◌+◌, ◌<◌, ◌≤◌, Bool, true, false, cond, List, [], ◌∷◌, ◌++◌, length, take, drop, Option, None, Some, Result, Ok, Err, append_assoc, refl, sym, ap, subst, ◌∙◌}
use Rattle.std.proofs.Common.{arith, inl, inr}
use Rattle.std.proofs.Common.{nat_le, length-append}
use Rattle.std.specs.List.{AllByRecursion, flat_map}
use Rattle.std.specs.Option.{ok_or}
use Rattle.std.proofs.lemmas.Bool.{le-leb}
use Rattle.std.proofs.lemmas.Bool.Decides.{leb_tells}
use Rattle.std.proofs.lemmas.List.{append-nil}
use Rattle.std.proofs.lemmas.List.Concat.{flat_map-append}
use Rattle.std.proofs.Math.Seq.{drop-append_seam, take-append_seam}
use Rattle.picture.proofs.ColourLaws.{every_append}
use Rattle.picture.specs.Readers.{◌>>=◌}
use Rattle.cert_text.specs.declared.fault.CertFault.{CertFault}
use Rattle.cert_text.specs.declared.fault.CertFault.TheVariants.{BadLine}
use Rattle.cert_text.specs.declared.form.Form.{Form}
use Rattle.cert_text.specs.declared.form.Form.TheVariants.{Tree, GivenTree, Lemmas, LemmaRuns}
use Rattle.cert_text.specs.declared.cert_line.CellNumber.{CellNumber}
use Rattle.cert_text.specs.declared.cert_line.CertLine.{CertLine}
use Rattle.cert_text.specs.Cert.{AreOfForm, AreOrdered, AreRuns, HasRuns, IsOfForm, IsRun, rank}
use Rattle.cert_text.specs.Reading.{each_line, joined, length_of, lengths, steps_below}
use Rattle.cert_text.specs.Steps.{IsPushed, steps_of}
use Rattle.cert_text.specs.Text.{given_line, given_lines, take_given}

-- ---- runs

first_run : (run steps : List CertLine) → (take (length run) (run ++ steps) ≡ run) × (drop (length run) (run ++ steps) ≡ steps) × (length run ≤ length (run ++ steps))
first_run run steps = (take-append_seam run steps, drop-append_seam run steps, omega (arith, length-append run steps))

are_runs_of : (runs : List (List CertLine)) → AllByRecursion IsRun runs → AreRuns (lengths LemmaRuns runs) (joined runs)
are_runs_of [] are = refl
are_runs_of (run ∷ runs) are =
    let f = first_run run (joined runs) in
    (f.2, subst IsRun (sym f.0) are.0, subst (AreRuns (lengths LemmaRuns runs)) (sym f.1) (are_runs_of runs are.1))

-- a form where each line has one step notes no lengths
abbrev pub no_length : List CertLine → List ℕ
no_length run = []

pub none_each : (runs : List (List CertLine)) → flat_map no_length runs ≡ []
none_each [] = refl
none_each (run ∷ runs) = none_each runs

runs_of : (form : Form) (runs : List (List CertLine)) → AllByRecursion IsRun runs → HasRuns form (lengths form runs) (joined runs)
runs_of LemmaRuns runs are = are_runs_of runs are
runs_of Tree runs are = none_each runs
runs_of GivenTree runs are = none_each runs
runs_of Lemmas runs are = none_each runs

-- ---- the lines

abbrev Runs : Type 0
Runs = Result (List (List CertLine)) CertFault

-- what is read where these lines come before the others
abbrev after : Form → List (List CertLine) → Runs → Result (List CertLine × List ℕ) CertFault
after form front read = read >>= λ rest. Ok (joined (front ++ rest), lengths form (front ++ rest))

after_more : (form : Form) (front : List (List CertLine)) (run : List CertLine) (read : Runs) → after form (front ++ (run ∷ [])) read ≡ after form front (read >>= λ rest. Ok (run ∷ rest))
after_more form front run (Ok rest) = ap (λ (all : List (List CertLine)). Ok (joined all, lengths form all)) (append_assoc front (run ∷ []) rest)
after_more form front run (Err e) = refl

-- what is read from here, after the lines so far, is what is read from the beginning
pub record LinesLeft (form : Form) (steps : List CertLine) (runs : List ℕ) (n : ℕ) (lines : List (List ℕ)) (whole : Result (List CertLine × List ℕ) CertFault) : Type 0 where
  pub front : List (List CertLine)
  pub joins : steps ≡ joined front
  pub notes : runs ≡ lengths form front
  pub is : after form front (each_line form n lines) ≡ whole
  pub of_form : AreOfForm form steps
  pub are_runs : AllByRecursion IsRun front

pub lines_start : (form : Form) (n : ℕ) (lines : List (List ℕ)) → LinesLeft form [] [] n lines (steps_below form n lines)
lines_start form n lines = record { front = []; joins = refl; notes = refl; is = refl; of_form = tt; are_runs = tt }

module _ (form : Form) (steps : List CertLine) (runs : List ℕ) (n : ℕ) (lines : List (List ℕ)) (whole : Result (List CertLine × List ℕ) CertFault)
    (left : LinesLeft form steps runs n lines whole) where
  module _ (text : List ℕ) (rest : List (List ℕ)) (e : lines ≡ text ∷ rest) where
    by_line : (o : Option (List CertLine)) → steps_of form text ≡ o → after form left.front (ok_or o (BadLine n) >>= λ first. (each_line form (n + 1) rest >>= λ read. Ok (first ∷ read))) ≡ whole
    unfolding each_line
    by_line o s =
        sym (ap (λ (p : Option (List CertLine)). after form left.front (ok_or p (BadLine n) >>= λ first. (each_line form (n + 1) rest >>= λ read. Ok (first ∷ read)))) s)
        ∙ (ap (λ (ls : List (List ℕ)). after form left.front (each_line form n ls)) (sym e) ∙ left.is)

    pub lines_more : (new : List CertLine) (news : List ℕ) (m : ℕ) → IsPushed form (steps_of form text) steps new (Some m) → news ≡ runs ++ length_of form m
        → LinesLeft form new news (n + 1) rest whole
    lines_more new news m pushed r = record {
      front = left.front ++ (pushed.0 ∷ []);
      joins =
          pushed.1.1
          ∙ (ap (λ (ss : List CertLine). ss ++ pushed.0) left.joins
          ∙ (ap (λ (ss : List CertLine). joined left.front ++ ss) (sym (append-nil pushed.0)) ∙ sym (flat_map-append (λ (run : List CertLine). run) left.front (pushed.0 ∷ []))));
      notes =
          r
          ∙ (ap (λ (ns : List ℕ). ns ++ length_of form m) left.notes
          ∙ (ap (λ (k : ℕ). lengths form left.front ++ length_of form k) pushed.1.2
          ∙ (ap (λ (ns : List ℕ). lengths form left.front ++ ns) (sym (append-nil (length_of form (length pushed.0))))
          ∙ sym (flat_map-append (λ (run : List CertLine). length_of form (length run)) left.front (pushed.0 ∷ [])))));
      is = after_more form left.front pushed.0 (each_line form (n + 1) rest) ∙ by_line (Some pushed.0) pushed.1.0;
      of_form = subst (AreOfForm form) (sym pushed.1.1) (every_append (IsOfForm form) steps pushed.0 left.of_form pushed.1.3);
      are_runs = every_append IsRun left.front (pushed.0 ∷ []) left.are_runs (pushed.1.4, tt);
    }

    pub lines_stop : steps_of form text ≡ None → whole ≡ Err (BadLine n)
    lines_stop s = sym (by_line None s)

  pub lines_end : lines ≡ [] → whole ≡ Ok (steps, runs)
  unfolding each_line
  lines_end e =
      sym left.is
      ∙ (ap (λ (ls : List (List ℕ)). after form left.front (each_line form n ls)) e
      ∙ (ap (λ (all : List (List CertLine)). Ok (joined all, lengths form all)) (append-nil left.front)
      ∙ (ap (λ (ss : List CertLine). Ok (ss, lengths form left.front)) (sym left.joins) ∙ ap (λ (ns : List ℕ). Ok (steps, ns)) (sym left.notes))))

  pub lines_of_form : AreOfForm form steps
  lines_of_form = left.of_form

  pub lines_have_runs : HasRuns form runs steps
  lines_have_runs = subst (HasRuns form runs) (sym left.joins) (subst (λ (ns : List ℕ). HasRuns form ns (joined left.front)) (sym left.notes) (runs_of form left.front left.are_runs))

pub ruleset line_reading = (lines_start, lines_more, lines_stop, lines_end, lines_of_form, lines_have_runs)

-- ---- the givens

abbrev Read : Type 0
Read = Result (List CellNumber × List (List ℕ)) CertFault

abbrev givens_behind : List CellNumber → Read → Read
givens_behind front read = read >>= λ r. Ok (front ++ r.0, r.1)

given_more : (front : List CellNumber) (cell : CellNumber) (read : Read) → givens_behind (front ++ (cell ∷ [])) read ≡ givens_behind front (read >>= λ r. Ok (cell ∷ r.0, r.1))
given_more front cell (Ok r) = ap (λ (cells : List CellNumber). Ok (cells, r.1)) (append_assoc front (cell ∷ []) r.0)
given_more front cell (Err e) = refl

pub record GivensLeft (front : List CellNumber) (n least : ℕ) (lines : List (List ℕ)) (whole : Read) : Type 0 where
  pub is : givens_behind front (given_lines n least lines) ≡ whole
  pub ordered : (more : List CellNumber) → AreOrdered least more → AreOrdered 0 (front ++ more)

pub givens_start : (lines : List (List ℕ)) → GivensLeft [] 2 0 lines (given_lines 2 0 lines)
givens_start lines = record { is = none_before (given_lines 2 0 lines); ordered = λ more o. o }
  where
    none_before : (read : Read) → givens_behind [] read ≡ read
    none_before (Ok r) = refl
    none_before (Err e) = refl

not_below : (a b : ℕ) → b < a → nat_le a b ≡ false
not_below a b l = elim (leb_tells a b) [ inl p ↦ absurd (let q = p.1 in omega arith) | inr p ↦ p.0 ]

-- the first line, by whether it is a given
by_first : (front : List CellNumber) (text : List ℕ) (n least : ℕ) (lines rest : List (List ℕ)) (whole : Read) (o : Option CellNumber) → lines ≡ text ∷ rest → o ≡ given_line text
    → GivensLeft front n least lines whole → givens_behind front (take_given n least (text ∷ rest) o (λ from. given_lines (n + 1) from rest)) ≡ whole
unfolding given_lines
by_first front text n least lines rest whole o e g left =
    ap (λ (p : Option CellNumber). givens_behind front (take_given n least (text ∷ rest) p (λ from. given_lines (n + 1) from rest))) g
    ∙ (ap (λ (ls : List (List ℕ)). givens_behind front (given_lines n least ls)) (sym e) ∙ left.is)

pub givens_more : (front new : List CellNumber) (cell : CellNumber) (text : List ℕ) (n m least : ℕ) (lines rest : List (List ℕ)) (whole : Read) → lines ≡ text ∷ rest → Some cell ≡ given_line text
    → (cell.row < 1000) × (cell.col < 1000) → least ≤ rank cell → new ≡ front ++ (cell ∷ []) → m ≡ n + 1 → GivensLeft front n least lines whole → GivensLeft new m (rank cell + 1) rest whole
givens_more front new cell text n m least lines rest whole e g short l p q left =
    let yes_test : nat_le least (rank cell) ≡ true = le-leb least (rank cell) l in
    let P : List CellNumber → Type 0 = λ f. GivensLeft f m (rank cell + 1) rest whole in
    let Q : ℕ → Type 0 = λ k. GivensLeft (front ++ (cell ∷ [])) k (rank cell + 1) rest whole in
    subst P (sym p) (subst Q (sym q) (record {
      is =
          given_more front cell (given_lines (n + 1) (rank cell + 1) rest)
          ∙ (ap (λ (b : Bool). givens_behind front (cond b (given_lines (n + 1) (rank cell + 1) rest >>= λ read. Ok (cell ∷ read.0, read.1)) (Err (BadLine n)))) (sym yes_test)
          ∙ by_first front text n least lines rest whole (Some cell) e g left);
      ordered = λ more o. subst (AreOrdered 0) (sym (append_assoc front (cell ∷ []) more)) (left.ordered (cell ∷ more) (short.0, short.1, (let k : least < rank cell + 1 = omega arith in k), o));
    }))

pub givens_stop : (front : List CellNumber) (cell : CellNumber) (text : List ℕ) (n least : ℕ) (lines rest : List (List ℕ)) (whole : Read) → lines ≡ text ∷ rest → Some cell ≡ given_line text
    → rank cell < least → GivensLeft front n least lines whole → whole ≡ Err (BadLine n)
givens_stop front cell text n least lines rest whole e g l left =
    let no_test : nat_le least (rank cell) ≡ false = not_below least (rank cell) l in
    sym (by_first front text n least lines rest whole (Some cell) e g left)
    ∙ ap (λ (b : Bool). givens_behind front (cond b (given_lines (n + 1) (rank cell + 1) rest >>= λ read. Ok (cell ∷ read.0, read.1)) (Err (BadLine n)))) no_test

pub givens_end : (front : List CellNumber) (text : List ℕ) (n least : ℕ) (lines rest : List (List ℕ)) (whole : Read) → lines ≡ text ∷ rest → None ≡ given_line text
    → GivensLeft front n least lines whole → whole ≡ Ok (front, lines)
givens_end front text n least lines rest whole e g left =
    sym (by_first front text n least lines rest whole None e g left)
    ∙ (ap (λ (cells : List CellNumber). Ok (cells, text ∷ rest)) (append-nil front) ∙ ap (λ (ls : List (List ℕ)). Ok (front, ls)) (sym e))

pub givens_out : (front : List CellNumber) (n least : ℕ) (lines : List (List ℕ)) (whole : Read) → lines ≡ [] → GivensLeft front n least lines whole → whole ≡ Ok (front, lines)
unfolding given_lines
givens_out front n least lines whole e left =
    sym left.is
    ∙ (ap (λ (ls : List (List ℕ)). givens_behind front (given_lines n least ls)) e
    ∙ (ap (λ (cells : List CellNumber). Ok (cells, [])) (append-nil front) ∙ ap (λ (ls : List (List ℕ)). Ok (front, ls)) (sym e)))

pub givens_ordered : (front : List CellNumber) (n least : ℕ) (lines : List (List ℕ)) (whole : Read) → GivensLeft front n least lines whole → AreOrdered 0 front
givens_ordered front n least lines whole left = subst (AreOrdered 0) (append-nil front) (left.ordered [] tt)

pub ruleset given_reading = (givens_start, givens_more, givens_stop, givens_end, givens_out, givens_ordered)
