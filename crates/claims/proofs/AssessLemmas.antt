-- What comes of assessments: the files that they open, and what their status says.
use Rattle.std.proofs.Common.{◌≡◌, ◌==◌, ◌∙◌, ◌+◌, ℕ, suc, Bool, true, false, List, [], ◌∷◌, ◌++◌, Option, None, Some, Result, Ok, Err}
use Rattle.std.proofs.Common.{inl, inr, refl, sym, ap, take, append-nil, append_assoc, length, not}
use Rattle.std.specs.Borrow.{Bor}
use Rattle.std.specs.Io.KnownBytes.{Appends, Keeps}
use Rattle.picture.proofs.SendingLaws.{both_sent}
use Rattle.program_options.specs.declared.assessing.AssessOptions.{AssessOptions}
use Rattle.program_options.specs.declared.fault.ProgramFault.{ProgramFault}
use Rattle.program_options.specs.declared.fault.ProgramFault.TheVariants as fault
use Rattle.answers.specs.declared.assessing.Block.{Block}
use Rattle.answers.specs.Assess.{Assesses}
use Rattle.program.specs.declared.assessing.Asked.{Asked}
use Rattle.program.specs.declared.assessing.Standing.{Standing}
use Rattle.program.specs.declared.assessing.Standing.TheVariants.{Fit, Unfit, Unread}
use Rattle.program.specs.Assess.{AssessesAll, AssessesNamed, Comes, StopsAt, ended, heading_text, named, number_of, outcome_text, standing_after, standing_by, standing_of, text_in, worse}
use Rattle.program.specs.Files.{Held, IsContent}
use Rattle.program.specs.Run.{texts}
use Rattle.program.specs.World.{World}
use Rattle.claims.specs.Assessments.{AreFit, HasAssessed, IsFitBlock, files_assessed}
use Rattle.command_text.specs.Words.{Texts}

-- ---- what was written

none_sent : (old new : Option (List ℕ)) → Keeps old new → Appends old new []
none_sent None new k = tt
none_sent (Some xs) None k = k
none_sent (Some xs) (Some ys) k = k ∙ sym (append-nil xs)

-- ---- puzzles that are fit

ended_fit : (s : Standing) → Ok tt ≡ ended s → s ≡ Fit
ended_fit Fit e = refl
ended_fit Unfit e = absurd cc
ended_fit Unread e = absurd cc

worse_fit : (a b : Standing) → worse a b ≡ Fit → (a ≡ Fit) × (b ≡ Fit)
worse_fit Fit b e = (refl, e)
worse_fit Unfit Fit e = absurd cc
worse_fit Unfit Unfit e = absurd cc
worse_fit Unfit Unread e = absurd cc
worse_fit Unread b e = absurd cc

after_fit : (f : ProgramFault) → standing_after f ≡ Fit → ⊥
after_fit fault.Read e = absurd cc
after_fit f e = absurd cc

by_fit : (b : Bool) → standing_by b ≡ Fit → b ≡ true
by_fit true e = refl
by_fit false e = absurd cc

-- the outcome of a puzzle that is fit is its block
fit_block : (held : Held) (asked : Asked) (file text : List ℕ) → IsContent held file → (outcome : Result Block ProgramFault)
    → Assesses file (text_in asked.givens) (text_in asked.cert) asked.options outcome → text ≡ outcome_text outcome → standing_of outcome ≡ Fit
    → (block : Block) × (IsFitBlock held asked block × (text ≡ block.text.items))
fit_block held asked file text content (Ok block) assesses is fit =
    (block, (record { file = file; content = content; assesses = assesses; fit = by_fit block.is_fit fit }, is))
fit_block held asked file text content (Err f) assesses is fit = absurd cc

fit_comes : (held : Held) (asked : Asked) (faults later : ℕ) (text : List ℕ) (standing : Standing) → Comes held asked faults later text standing → standing ≡ Fit
    → (block : Block) × (IsFitBlock held asked block × (text ≡ block.text.items))
fit_comes held asked faults later text standing (inl (f, (unread, (cause, not_read)))) fit = absurd (after_fit f (sym not_read.stands ∙ fit))
fit_comes held asked faults later text standing (inr (file, (content, (same, assessed)))) fit =
    fit_block held asked file text content assessed.outcome assessed.assesses assessed.is (sym assessed.stands ∙ fit)

abbrev no_fault : Result (Unit {0}) ProgramFault
no_fault = Ok tt

no_end : (f : ProgramFault) → no_fault ≡ Err f → ⊥
no_end f e = absurd cc

module _ (held : List ℕ → Held) (asked : Asked) (several : Bool) where
  -- where all puzzles are fit, their blocks were written
  all_fit : (number : ℕ) (paths : List (Bor (List ℕ))) (worst : Standing) (before after : World) → AssessesAll held asked several number paths worst before after (Ok tt)
      → (worst ≡ Fit) × ((text : List ℕ) × (AreFit held asked several number paths text × Appends before.output after.output text))
  all_fit number [] worst before after (is, only) = (ended_fit worst is, ([], (refl, none_sent before.output after.output only.output)))
  all_fit number (path ∷ paths) worst before after (inl (f, (is, one))) = absurd (no_end f is)
  all_fit number (path ∷ paths) worst before after (inr (between, (standing, ((told, (is_told, out)), rest)))) =
      let later = all_fit (number + 1) paths (worse worst standing) between after rest in
      let both = worse_fit worst standing later.0 in
      let block = fit_comes (held path.now) asked before.faults between.faults is_told.text standing is_told.comes both.1 in
      let text = told ++ later.1.0 in
      let is : text ≡ (heading_text (number_of several number) ++ block.0.text.items) ++ later.1.0 =
      ap (λ (x : List ℕ). x ++ later.1.0) (is_told.is ∙ ap (λ (x : List ℕ). heading_text (number_of several number) ++ x) block.1.1) in
      (both.0, (text, ((block.0, (block.1.0, (later.1.0, (is, later.1.1.0)))), both_sent before.output between.output after.output told later.1.0 out later.1.1.1)))

  -- the first of the files are opened
  all_opened : (number : ℕ) (paths : List (Bor (List ℕ))) (worst : Standing) (before after : World) (r : Result (Unit {0}) ProgramFault)
      → AssessesAll held asked several number paths worst before after r → (count : ℕ) × (after.opened ≡ before.opened ++ take count (texts paths))
  all_opened number [] worst before after r (is, only) = (0, only.opened ∙ sym (append-nil before.opened))
  all_opened number (path ∷ paths) worst before after r (inl (f, (is, inl short))) = (1, short.names)
  all_opened number (path ∷ paths) worst before after r (inl (f, (is, inr (told, (standing, (is_told, why)))))) = (1, is_told.names)
  all_opened number (path ∷ paths) worst before after r (inr (between, (standing, ((told, (is_told, out)), rest)))) =
      let later = all_opened (number + 1) paths (worse worst standing) between after r rest in (
        suc later.0,
        later.1
            ∙ (ap (λ (xs : Texts). xs ++ take later.0 (texts paths)) is_told.names ∙ append_assoc before.opened (path.now ∷ []) (take later.0 (texts paths))),
      )

  -- unless a write failed, whole blocks were written
  all_written : (f : ProgramFault) → (f ≡ fault.Write → ⊥) → (number : ℕ) (paths : List (Bor (List ℕ))) (worst : Standing) (before after : World)
      → AssessesAll held asked several number paths worst before after (Err f) → (text : List ℕ) × Appends before.output after.output text
  all_written f wrote number [] worst before after (is, only) = ([], none_sent before.output after.output only.output)
  all_written f wrote number (path ∷ paths) worst before after (inl (g, (is, inl short))) = ([], none_sent before.output after.output short.output)
  all_written f wrote number (path ∷ paths) worst before after (inl (g, (is, inr (told, (standing, (is_told, (write, front))))))) =
      absurd (wrote (let same : f ≡ g = cc in same ∙ write))
  all_written f wrote number (path ∷ paths) worst before after (inr (between, (standing, ((told, (is_told, out)), rest)))) =
      let later = all_written f wrote (number + 1) paths (worse worst standing) between after rest in
      (told ++ later.0, both_sent before.output between.output after.output told later.0 out later.1)

-- ---- the files beside a puzzle's

never_stops : (held : List ℕ → Held) (path : Option (Bor (List ℕ))) (first : Texts) (before after : World) → StopsAt held path first before after (Ok tt) → ⊥
never_stops held None first before after stops = stops
never_stops held (Some path) first before after stops = no_end stops.fault stops.is

stops_kept : (held : List ℕ → Held) (path : Option (Bor (List ℕ))) (first : Texts) (before after : World) (r : Result (Unit {0}) ProgramFault)
    → StopsAt held path first before after r → Keeps before.output after.output
stops_kept held None first before after r stops = absurd stops
stops_kept held (Some path) first before after r stops = stops.only.output

-- ---- the task

pub assessed : (held : List ℕ → Held) (paths : List (Bor (List ℕ))) (givens cert : Option (Bor (List ℕ))) (options : AssessOptions) (before after : World)
    → AssessesNamed held paths givens cert options before after (Ok tt) → HasAssessed held paths givens cert options before after
assessed held paths givens cert options before after (inl stops) = absurd (never_stops held givens [] before after stops)
assessed held paths givens cert options before after (inr (inl stops)) = absurd (never_stops held cert (named givens) before after stops)
assessed held paths givens cert options before after (inr (inr w)) =
    let fit = (all_fit held w.asked (not (length paths == 1)) 1 paths Fit w.start after w.runs).1 in
    record {
      asked = w.asked;
      options_are = w.options_are;
      givens_are = w.givens_are;
      cert_is = w.cert_is;
      text = fit.0;
      are_fit = fit.1.0;
      went_out = both_sent before.output w.start.output after.output [] fit.0 (none_sent before.output w.start.output w.output) fit.1.1;
    }

-- names behind others
behind : (before start after first more : Texts) → start ≡ before ++ first → after ≡ start ++ more → after ≡ before ++ (first ++ more)
behind before start after first more s a = a ∙ (ap (λ (xs : Texts). xs ++ more) s ∙ append_assoc before first more)

opened_with : (givens cert : Option (Bor (List ℕ))) (paths : List (Bor (List ℕ))) (before start after : Texts) (count : ℕ) → start ≡ before ++ (named givens ++ named cert)
    → after ≡ start ++ take count (texts paths) → (total : ℕ) × (after ≡ before ++ take total (files_assessed paths givens cert))
opened_with None None paths before start after count s a = (count, behind before start after [] (take count (texts paths)) s a)
opened_with None (Some cert) paths before start after count s a = (suc count, behind before start after (cert.now ∷ []) (take count (texts paths)) s a)
opened_with (Some givens) None paths before start after count s a = (suc count, behind before start after (givens.now ∷ []) (take count (texts paths)) s a)
opened_with (Some givens) (Some cert) paths before start after count s a =
    (suc (suc count), behind before start after (givens.now ∷ cert.now ∷ []) (take count (texts paths)) s a)

pub files_opened : (held : List ℕ → Held) (paths : List (Bor (List ℕ))) (givens cert : Option (Bor (List ℕ))) (options : AssessOptions) (before after : World)
    (r : Result (Unit {0}) ProgramFault) → AssessesNamed held paths givens cert options before after r
    → (count : ℕ) × (after.opened ≡ before.opened ++ take count (files_assessed paths givens cert))
files_opened held paths None cert options before after r (inl stops) = absurd stops
files_opened held paths (Some givens) cert options before after r (inl stops) = (1, stops.only.names)
files_opened held paths givens None options before after r (inr (inl stops)) = absurd stops
files_opened held paths None (Some cert) options before after r (inr (inl stops)) = (1, stops.only.names)
files_opened held paths (Some givens) (Some cert) options before after r (inr (inl stops)) = (2, stops.only.names)
files_opened held paths givens cert options before after r (inr (inr w)) =
    let later = all_opened held w.asked (not (length paths == 1)) 1 paths Fit w.start after r w.runs in
    opened_with givens cert paths before.opened w.start.opened after.opened later.0 w.names later.1

pub blocks_written : (held : List ℕ → Held) (paths : List (Bor (List ℕ))) (givens cert : Option (Bor (List ℕ))) (options : AssessOptions) (before after : World) (f : ProgramFault)
    → (f ≡ fault.Write → ⊥) → AssessesNamed held paths givens cert options before after (Err f) → (text : List ℕ) × Appends before.output after.output text
blocks_written held paths givens cert options before after f wrote (inl stops) = ([], none_sent before.output after.output (stops_kept held givens [] before after (Err f) stops))
blocks_written held paths givens cert options before after f wrote (inr (inl stops)) =
    ([], none_sent before.output after.output (stops_kept held cert (named givens) before after (Err f) stops))
blocks_written held paths givens cert options before after f wrote (inr (inr w)) =
    let later = all_written held w.asked (not (length paths == 1)) f wrote 1 paths Fit w.start after w.runs in
    (later.0, both_sent before.output w.start.output after.output [] later.0 (none_sent before.output w.start.output w.output) later.1)
