-- What status 0 says of puzzles that are assessed.
use Rattle.std.proofs.Common.{◌≡◌, ◌∙◌, ◌==◌, ◌+◌, ℕ, Bool, List, [], ◌∷◌, Option, None, Some, ap, inl, inr, length, not, option_map, subst, sym}
use Rattle.std.specs.Borrow.{Bor}
use Rattle.std.specs.List.{AllByRecursion}
use Rattle.program_options.specs.declared.assessing.AssessOptions.{AssessOptions}
use Rattle.command_line.specs.declared.words.Task.{Task}
use Rattle.command_line.specs.declared.words.Task.TheVariants.{Assess, Check, Clues, Help, Prove, Work}
use Rattle.command_text.specs.Words.{Texts}
use Rattle.program.specs.declared.assessing.Asked.{Asked}
use Rattle.program.specs.Assess.{HasText, text_in}
use Rattle.program.specs.Files.{Held, Holds, IsContent}
use Rattle.program.specs.Run.{texts}
use Rattle.program.specs.World.{World}
use Rattle.claims.specs.Fit.{FitPuzzlesAreFit, IsFitText}
use Rattle.claims.specs.Assessments.{AreFit}
use Rattle.claims.specs.Outcome.{Comes, IsDone, Opens}
use Rattle.claims.specs.Runs.{AskOnly, AssessedAreFit, HoldsIf, IsAssessOn}

-- the text that was read of a file is the one that its name holds
text_is : (held : List ℕ → Held) (path : Option (Bor (List ℕ))) (text known : Option (List ℕ)) → HasText held path text → HoldsIf held (option_map (λ p. p.now) path) known → text ≡ known
text_is held None text known has holds = has ∙ sym holds
text_is held (Some path) None known has holds = absurd has
text_is held (Some path) (Some text) None has holds = absurd holds
text_is held (Some path) (Some text) (Some known) has holds = ap Some (subst (λ (h : Held). IsContent h text) holds has)

read_is : (held : List ℕ → Held) (path : Option (Bor (List ℕ))) (name text known : Option (List ℕ)) → option_map (λ p. p.now) path ≡ name → HasText held path text → HoldsIf held name known
    → text ≡ known
read_is held path name text known is has holds = text_is held path text known has (subst (λ (n : Option (List ℕ)). HoldsIf held n known) (sym is) holds)

moved : (file f : List ℕ) (givens g : Option (List ℕ)) (options o : AssessOptions) → f ≡ file → g ≡ givens → o ≡ options → IsFitText f g o → IsFitText file givens options
moved file f givens g options o same_file same_givens same_options fit =
    let one : IsFitText file g o = subst (λ (x : List ℕ). IsFitText x g o) same_file fit in
    let two : IsFitText file givens o = subst (λ (x : Option (List ℕ)). IsFitText file x o) same_givens one in
    subst (λ (x : AssessOptions). IsFitText file givens x) same_options two

module _ (law : FitPuzzlesAreFit) (held : List ℕ → Held) (asked : Asked) (givens : Option (List ℕ)) (options : AssessOptions) (same_givens : text_in asked.givens ≡ givens)
    (same_options : asked.options ≡ options) where
  fit_files : (several : Bool) (number : ℕ) (paths : List (Bor (List ℕ))) (text : List ℕ) → AreFit held asked several number paths text
      → AllByRecursion (λ path. (file : List ℕ) → held path ≡ Holds file → IsFitText file givens options) (texts paths)
  fit_files several number [] text are = tt
  fit_files several number (path ∷ paths) text (block, (is, (rest, (text_is_both, more)))) = (
    λ file holds.
        moved file is.file givens (text_in asked.givens) options asked.options (subst (λ (h : Held). IsContent h is.file) holds is.content) same_givens
        same_options (law is.file (text_in asked.givens) (text_in asked.cert) asked.options block is.assesses is.fit),
    fit_files several (number + 1) paths rest more,
  )

module _ (law : FitPuzzlesAreFit) (held : List ℕ → Held) (before after : World) (paths : Texts) (givens_path cert_path : Option (List ℕ)) (options : AssessOptions)
    (givens cert : Option (List ℕ)) (givens_are : HoldsIf held givens_path givens) (cert_is : HoldsIf held cert_path cert) where
  abbrev AllFit : Type 0
  AllFit = AllByRecursion (λ path. (file : List ℕ) → held path ≡ Holds file → IsFitText file givens options) paths

  only_fit : (task : Task) → IsAssessOn paths givens_path cert_path options task → IsDone held before after task → AllFit
  only_fit Clues is done = absurd is
  only_fit (Work file chosen) is done = absurd is
  only_fit (Check file proof beside chosen) is done = absurd is
  only_fit (Prove file beside chosen) is done = absurd is
  only_fit (Help shown) is done = absurd is
  only_fit (Assess files chosen beside proof) is done =
      let same_givens = read_is held beside givens_path (text_in done.asked.givens) givens is.1.0 done.givens_are givens_are in
      subst (λ (xs : Texts). AllByRecursion (λ path. (file : List ℕ) → held path ≡ Holds file → IsFitText file givens options) xs) is.0
      (fit_files law held done.asked givens options same_givens (done.options_are ∙ is.1.1.1) (not (length files.items == 1)) 1 files.items done.text done.are_fit)

  opened_fit : (arguments : Texts) (status : ℕ) → AskOnly arguments (IsAssessOn paths givens_path cert_path options) → status ≡ 0 → Opens arguments held before after status → AllFit
  opened_fit arguments status asks well (inl none) = absurd (none.1 well)
  opened_fit arguments status asks well (inr (task, (asked, (count, (names, done))))) = only_fit task (asks.task task asked) (done well)

pub assessed_fit : (arguments : Texts) (held : List ℕ → Held) (before after : World) (status : ℕ) → FitPuzzlesAreFit → Comes arguments held before after status → AssessedAreFit arguments held status
assessed_fit arguments held before after status law comes paths givens_path cert_path options givens cert asks givens_are cert_is well =
    opened_fit law held before after paths givens_path cert_path options givens cert givens_are cert_is arguments status asks well comes.opens
