-- The walk over the lines of a certificate: the facts at hand, the branches that wait after them, and the lemmas.
use Rattle.std.specs.Prelude.{◌≡◌, ℕ, ◌≤◌, List, [], ◌∷◌, ◌++◌, length, set, Option, Some, None}
use Rattle.line_facts.specs.Masks.{Masks}
use Rattle.picture.specs.Picture.{IsPicture}
use Rattle.picture.specs.Rows.{width_of, Rows}
use Rattle.clues.specs.ClueBook.{Clues, clues_of}
use Rattle.cert_text.specs.declared.cert_line.Literal.{Literal}
use Rattle.cert_check.specs.declared.stage.Stage.{Stage}
use Rattle.cert_check.specs.declared.stage.Stage.TheVariants.{Free, Denying, Refuting}
use Rattle.cert_check.specs.Lemmas.{Lemmas, held_off, no_lemmas}

-- The facts at hand, and those that wait after them; the lemmas; and how far the lemma is that is being proved, if one
-- is, with its literals so far: then the last facts that wait are at hand once it is kept.
pub record Walk : Type 0 where
  pub at_hand : List (List ℕ)
  pub behind : List (List (List ℕ))
  pub lemmas : Lemmas
  pub denied : List Literal
  pub stage : Stage

abbrev pub walk_of : List (List ℕ) → List (List (List ℕ)) → Lemmas → List Literal → Stage → Walk
walk_of at_hand behind lemmas denied stage =
    record { at_hand = at_hand; behind = behind; lemmas = lemmas; denied = denied; stage = stage }

-- where a walk begins
abbrev pub root : Masks → Walk
root facts = walk_of facts [] no_lemmas [] Free

-- other facts at hand
abbrev pub at_facts : Walk → Masks → Walk
at_facts walk facts = walk_of facts walk.behind walk.lemmas walk.denied walk.stage

-- no more literals are taken
abbrev pub taken : Stage → Stage
taken Free = Free
taken Denying = Refuting
taken Refuting = Refuting

abbrev pub settled : Walk → Walk
settled walk = walk_of walk.at_hand walk.behind walk.lemmas walk.denied (taken walk.stage)

-- the lemmas once the last facts that wait are at hand: with the one whose denial was refuted
abbrev pub lasting : Stage → Lemmas → List Literal → Lemmas
lasting Free lemmas denied = lemmas
lasting _ lemmas denied = lemmas ++ Some denied ∷ []

-- the last facts that wait are at hand
abbrev pub last_at : Walk → Masks → Walk
last_at walk facts = walk_of facts [] (lasting walk.stage walk.lemmas walk.denied) [] Free

-- the first of these branches is at hand, and the others wait; None where there is none: the proof is complete
abbrev pub next_at : Walk → List (List (List ℕ)) → Option Walk
next_at walk [] = None
next_at walk (facts ∷ []) = Some (last_at walk facts)
next_at walk (facts ∷ other ∷ others) = Some (walk_of facts (other ∷ others) walk.lemmas walk.denied walk.stage)

-- a lemma begins, without literals; the facts wait until it is kept
abbrev pub begun : Walk → Walk
begun walk = walk_of walk.at_hand (walk.at_hand ∷ []) walk.lemmas [] Denying

-- the lemma that begins gets a literal, which is denied
abbrev pub denied : Walk → Literal → Walk
denied walk literal =
    walk_of (held_off walk.at_hand literal) walk.behind walk.lemmas (walk.denied ++ literal ∷ []) Denying

-- a lemma is kept no longer
abbrev pub without : Walk → ℕ → Walk
without walk n = walk_of walk.at_hand [] (set walk.lemmas n None) [] Free

-- a picture and its clues, and no line is longer than an engine takes
pub record CanCheck (picture : Rows) (clues : Clues) (longest : ℕ) : Type 0 where
  pub is_picture : IsPicture picture
  pub clues_are : clues ≡ clues_of picture
  pub wide : width_of picture ≤ longest
  pub tall : length picture ≤ longest
