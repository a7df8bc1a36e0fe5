-- Words and what they ask for.
use Rattle.std.proofs.Common.{◌≡◌, ◌≢◌, ℕ, true, List, [], ◌∷◌, map, Vec, String, Global, string_bytes, Option, Result, Ok, Err, MatchResult, ap, sym, inl, inr, refl, subst, ◌∙◌}
use Rattle.std.specs.Borrow.{Bor}
use Rattle.std.specs.Io.KnownBytes.{Appends}
use Rattle.std.specs.Process.{exit_status}
use Rattle.program_options.specs.declared.fault.ProgramFault.{ProgramFault}
use Rattle.command_line.specs.declared.words.Task.{Task}
use Rattle.command_line.specs.declared.words.Task.TheVariants.{Clues}
use Rattle.command_line.specs.Words.{IsTaskOf}
use Rattle.program.specs.declared.ending.Ended.{Ended}
use Rattle.program.specs.Endings.{line_after, status_after}
use Rattle.program.specs.Files.{Held}
use Rattle.program.specs.Run.{Answers, AnswersAll, Ends, IsRefused, IsTask, texts}
use Rattle.program.specs.World.{IsUntouched, World}
use Rattle.program.proofs.FileLemmas.{keeps_same}
use Rattle.command_text.specs.Words.{Texts}

pub task_so : (words : List (Bor (List ℕ))) (r : Result Task ProgramFault) → (words ≡ [] → r ≡ Ok Clues) → (words ≢ [] → IsTaskOf (texts words) r) → IsTask (texts words) r
task_so [] r none asked = none refl
task_so (word ∷ words) r none asked = asked (λ e. cc)

untouched : (w : World) → IsUntouched w w
untouched w = record { opened = refl; faults = refl; input = keeps_same w.input; output = keeps_same w.output }

pub refused : (words : List (Bor (List ℕ))) (held : List ℕ → Held) (before : World) (fault : ProgramFault) (r : Result (Unit {0}) ProgramFault) → r ≡ Err fault → IsTask (texts words) (Err fault)
    → Answers (texts words) held before before r
refused words held before fault r is task = inl (fault, (task, record { is = is; only = untouched before }))

-- what is done for words is done for their texts
pub answered : (words : List (Bor (List ℕ))) (items : List (Bor (List ℕ))) (texts_are : Texts) (held : List ℕ → Held) (before after : World) (r : Result (Unit {0}) ProgramFault)
    → words ≡ items → texts items ≡ texts_are → Answers (texts words) held before after r → AnswersAll texts_are held before after r
answered words items texts_are held before after r same is answers =
    inr (subst (λ (xs : Texts). Answers xs held before after r) (ap texts same ∙ is) answers)

-- how the program ends, by what came of its arguments, or by the error with which reading them failed
pub ends_ok : (arguments : Result (Vec (String Global) Global) ProgramFault) (vec : Vec (String Global) Global) (now : List (String Global)) (held : List ℕ → Held) (before after : World)
    (had has : Option (List ℕ)) (outcome : Result (Unit {0}) ProgramFault) (ended : Ended)
    → arguments ≡ Ok vec → now ≡ vec.items → AnswersAll (map (λ (text : String Global). string_bytes text) now) held before after outcome
    → exit_status ended.code ≡ status_after outcome → (ended.told ≡ true → Appends had has (line_after outcome))
    → Ends (λ (r : Result (Unit {0}) ProgramFault). MatchResult arguments (λ texts. AnswersAll (map (λ (text : String Global). string_bytes text) texts.items) held before after r)
    (λ fault. IsRefused fault before after r)) had has ended
ends_ok arguments vec now held before after had has outcome ended is same answers status line =
    let Comes : Result (Vec (String Global) Global) ProgramFault
    → Type 0 = λ x. MatchResult x (λ texts. AnswersAll (map (λ (text : String Global). string_bytes text) texts.items) held before after outcome) (λ fault. IsRefused fault before after outcome) in
    let there = subst (λ (xs : List (String Global)). AnswersAll (map (λ (text : String Global). string_bytes text) xs) held before after outcome) same answers in
    record { outcome = outcome; comes = subst Comes (sym is) there; status = status; line = line }

pub ends_err : (arguments : Result (Vec (String Global) Global) ProgramFault) (fault : ProgramFault) (held : List ℕ → Held) (before : World) (had has : Option (List ℕ)) (ended : Ended)
    → arguments ≡ Err fault → exit_status ended.code ≡ status_after (Err fault) → (ended.told ≡ true → Appends had has (line_after (Err fault)))
    → Ends (λ (r : Result (Unit {0}) ProgramFault). MatchResult arguments (λ texts. AnswersAll (map (λ (text : String Global). string_bytes text) texts.items) held before before r)
    (λ fault. IsRefused fault before before r)) had has ended
ends_err arguments fault held before had has ended is status line =
    let Comes : Result (Vec (String Global) Global) ProgramFault → Type 0 =
    λ x. MatchResult x (λ texts. AnswersAll (map (λ (text : String Global). string_bytes text) texts.items) held before before (Err fault)) (λ f. IsRefused f before before (Err fault)) in
    let there : IsRefused fault before before (Err fault) = record { is = refl; only = untouched before } in
    record { outcome = Err fault; comes = subst Comes (sym is) there; status = status; line = line }
