-- Words that ask for help, and words that begin with the name of a command.
use Rattle.std.proofs.Common.{◌≡◌, ◌∙◌, ◌++◌, true, false, List, [], ◌∷◌, codes, fold, Option, None, Some, Ok, Err, String, Global, ap, inl, inr, refl, sym, subst, true≢false}
use Rattle.clap.specs.Simple.{App, built, entered, names_of}
use Rattle.clap.specs.Walk.{Names, Row, Rule, Text, Walk, nothing_held, walk_from, walked, walked_from}
use Rattle.clap.specs.Words.{Kinds, fault_of, subcommand_of}
use Rattle.clap.proofs.OnLiterals.{clap_on_literals}
use Rattle.program_options.specs.declared.fault.ProgramFault.{ProgramFault}
use Rattle.command_line.specs.declared.words.Task.{Task}
use Rattle.command_line.specs.declared.words.Task.TheVariants.{Assess, Check, Clues, Help, Prove, Work}
use Rattle.command_line.specs.Laws.{Begins, CommandsAreKept, IsAssessing, IsChecking, IsProving, IsSession}
use Rattle.command_line.specs.Program.{Formats, program_app}
use Rattle.command_line.specs.Words.{IsAsked, IsNamed, IsTaskBy, IsTaskOf, asks_alone}

-- ---- help

module _ (text : String Global) where
  -- no subcommand is asked for help
  not_entered : (stop : Option (Text × List Row)) → IsNamed stop → IsAsked stop (Ok (Help text)) → ⊥
  not_entered None named asked = named
  not_entered (Some (name, rows)) (inl is) asked = asked.work rows (ap (λ (n : Text). Some (n, rows)) is)
  not_entered (Some (name, rows)) (inr (inl is)) asked = asked.check rows (ap (λ (n : Text). Some (n, rows)) is)
  not_entered (Some (name, rows)) (inr (inr (inl is))) asked = asked.prove rows (ap (λ (n : Text). Some (n, rows)) is)
  not_entered (Some (name, rows)) (inr (inr (inr is))) asked = asked.assess rows (ap (λ (n : Text). Some (n, rows)) is)

  shown_by : (kinds : Kinds) (formats : Formats) (words : List Text) → IsTaskBy kinds (program_app formats) words (Ok (Help text)) → asks_alone words ≡ true
  shown_by [] formats words h = absurd (not_entered (subcommand_of (program_app formats) words) h.0 h.1)
  shown_by (kind ∷ kinds) formats words h = h.1.1.1.1

not_refused : (f : ProgramFault) (task : Task) → Ok task ≡ Err f → ⊥
not_refused f task is = absurd cc

shown_alone : (words : List Text) (text : String Global) → IsTaskOf words (Ok (Help text)) → asks_alone words ≡ true
shown_alone words text (inl is) = absurd (not_refused _ (Help text) is)
shown_alone words text (inr (formats, (are, by))) = shown_by text (fault_of (program_app formats) words) formats words by

-- ---- the first word

-- where a walk has met a subcommand, it stays in it
stays : (c : List Rule) (names : Names) (name : Text) (seen rest : List Text) (w : Walk) → w.stopped ≡ Some (name, seen)
    → (more : List Text) × ((fold (walked c names) w rest).stopped ≡ Some (name, more))
unfolding walked
stays c names name seen [] w is = (seen, is)
stays c names name seen (word ∷ rest) w is =
    stays c names name (seen ++ word ∷ []) rest (walked c names w word) (ap (λ (s : Option (Text × List Text)). (walked_from c names s w word).stopped) is)

abbrev Enters : Text → Type 0
Enters name = (formats : Formats) (rest : List Text) → (rows : List Row) × (subcommand_of (program_app formats) (name ∷ rest) ≡ Some (name, rows))

enters_by : (app : App) (name : Text) (rest : List Text) (w : Walk) → w.stopped ≡ Some (name, []) → ((more : List Text) → (rows : List Row) × (entered app (Some (name, more)) ≡ Some (name, rows)))
    → (rows : List Row) × (entered app (fold (walked app.top.rules (names_of app)) w rest).stopped ≡ Some (name, rows))
enters_by app name rest w is there =
    let end = stays app.top.rules (names_of app) name [] rest w is in
    let found = there end.0 in
    (found.0, ap (entered app) end.1 ∙ found.1)

abbrev rows_in : Option (Text × List Row) → List Row
rows_in None = []
rows_in (Some p) = p.1

-- the walk after the first word
abbrev first_walked : Formats → Text → Walk
first_walked formats word = walked (built (program_app formats)).top.rules (names_of (built (program_app formats))) (walk_from nothing_held) word

enters_work : Enters (codes "work")
unfolding clap_on_literals
enters_work formats rest = enters_by (built (program_app formats)) (codes "work") rest (first_walked formats (codes "work")) refl (λ more. (rows_in (entered (built (program_app formats)) (Some (codes "work", more))), refl))

enters_check : Enters (codes "check")
unfolding clap_on_literals
enters_check formats rest = enters_by (built (program_app formats)) (codes "check") rest (first_walked formats (codes "check")) refl (λ more. (rows_in (entered (built (program_app formats)) (Some (codes "check", more))), refl))

enters_prove : Enters (codes "prove")
unfolding clap_on_literals
enters_prove formats rest = enters_by (built (program_app formats)) (codes "prove") rest (first_walked formats (codes "prove")) refl (λ more. (rows_in (entered (built (program_app formats)) (Some (codes "prove", more))), refl))

enters_assess : Enters (codes "assess")
unfolding clap_on_literals
enters_assess formats rest = enters_by (built (program_app formats)) (codes "assess") rest (first_walked formats (codes "assess")) refl (λ more. (rows_in (entered (built (program_app formats)) (Some (codes "assess", more))), refl))

-- ---- what is asked for

-- what is asked of an entered subcommand, where that is one kind of task
module _ (name : Text) (Is : Task → Type 0) (enters : Enters name)
    (asked : (rows : List Row) (task : Task) → IsAsked (Some (name, rows)) (Ok task) → Is task) where
  entered_by : (kinds : Kinds) (formats : Formats) (rest : List Text) (task : Task) → asks_alone (name ∷ rest) ≡ false → IsTaskBy kinds (program_app formats) (name ∷ rest) (Ok task) → Is task
  entered_by [] formats rest task more h =
      let there = enters formats rest in
      asked there.0 task (subst (λ (s : Option (Text × List Row)). IsAsked s (Ok task)) there.1 h.1)
  entered_by (kind ∷ kinds) formats rest (Help text) more h = absurd (true≢false (sym h.1.1.1.1 ∙ more))
  entered_by (kind ∷ kinds) formats rest Clues more h = absurd h.1.1.1
  entered_by (kind ∷ kinds) formats rest (Work file options) more h = absurd h.1.1.1
  entered_by (kind ∷ kinds) formats rest (Check file cert givens background) more h = absurd h.1.1.1
  entered_by (kind ∷ kinds) formats rest (Prove file givens options) more h = absurd h.1.1.1
  entered_by (kind ∷ kinds) formats rest (Assess files options givens cert) more h = absurd h.1.1.1

  begins : Begins name Is
  begins rest task more (inl is) = absurd (not_refused _ task is)
  begins rest task more (inr (formats, (are, by))) = entered_by (fault_of (program_app formats) (name ∷ rest)) formats rest task more by

only_work : (rows : List Row) (task : Task) → IsAsked (Some (codes "work", rows)) (Ok task) → IsSession task
only_work rows (Work file options) a = tt
only_work rows task a = absurd (a.work rows refl)

only_check : (rows : List Row) (task : Task) → IsAsked (Some (codes "check", rows)) (Ok task) → IsChecking task
only_check rows (Check file cert givens background) a = tt
only_check rows task a = absurd (a.check rows refl)

only_prove : (rows : List Row) (task : Task) → IsAsked (Some (codes "prove", rows)) (Ok task) → IsProving task
only_prove rows (Prove file givens options) a = tt
only_prove rows task a = absurd (a.prove rows refl)

only_assess : (rows : List Row) (task : Task) → IsAsked (Some (codes "assess", rows)) (Ok task) → IsAssessing task
only_assess rows (Assess files options givens cert) a = tt
only_assess rows task a = absurd (a.assess rows refl)

pub kept_commands : CommandsAreKept
kept_commands = record {
  help = shown_alone;
  work = begins (codes "work") IsSession enters_work only_work;
  check = begins (codes "check") IsChecking enters_check only_check;
  prove = begins (codes "prove") IsProving enters_prove only_prove;
  assess = begins (codes "assess") IsAssessing enters_assess only_assess;
}

pub ruleset kept = (kept_commands)
