-- The walk over the settled cells of a line.
use Rattle.std.proofs.Common.{◌≡◌, ◌≢◌, ℕ, ◌+◌, ◌<◌, ◌≤◌, ◌++◌, List, [], ◌∷◌, length, get_or, drop, drop-cons, replicate, sym, ap, ◌∙◌, add-one}
use Rattle.std.proofs.lemmas.List.{drop_all}
use Rattle.clues.specs.Clue.{clue_of, blocks_of}
use Rattle.clues.proofs.RunLaws.{clue_of-run, clue_of-last_run, replicate-more}
use Rattle.grade.specs.Needs.{known_colour, known_colours}

-- the colours from cell i on
colours_on : (masks : List ℕ) (i : ℕ) → i < length masks → known_colours (drop i masks) ≡ known_colour (get_or masks i 0) ∷ known_colours (drop (i + 1) masks)
colours_on masks i h = rw add-one (ap known_colours (drop-cons masks i 0 h))

-- the open run, one cell longer
pub run_longer : (n x : ℕ) (masks : List ℕ) (i : ℕ) → i < length masks → known_colour (get_or masks i 0) ≡ x
    → replicate (n + 1) x ++ known_colours (drop (i + 1) masks) ≡ replicate n x ++ known_colours (drop i masks)
run_longer n x masks i h e =
    replicate-more n x (known_colours (drop (i + 1) masks))
    ∙ ap (λ cells. replicate n x ++ cells) (ap (λ y. y ∷ known_colours (drop (i + 1) masks)) (sym e) ∙ sym (colours_on masks i h))

-- the open run, where another colour ends it
pub run_ends : (n x : ℕ) (masks : List ℕ) (i : ℕ) → (x ≢ 0 → 0 < n) → i < length masks → known_colour (get_or masks i 0) ≢ x
    → clue_of (replicate n x ++ known_colours (drop i masks)) ≡ blocks_of n x ++ clue_of (known_colours (drop i masks))
run_ends n x masks i some h n0 = rw colours_on (clue_of-run n x (known_colour (get_or masks i 0)) (known_colours (drop (i + 1) masks)) some n0)

-- the run that begins there
pub run_begins : (masks : List ℕ) (i : ℕ) → i < length masks → replicate 1 (known_colour (get_or masks i 0)) ++ known_colours (drop (i + 1) masks) ≡ known_colours (drop i masks)
run_begins masks i h = sym (colours_on masks i h)

-- no cell is to come
pub colours_past : (masks : List ℕ) (i : ℕ) → length masks ≤ i → known_colours (drop i masks) ≡ []
colours_past masks i h = ap known_colours (drop_all i masks h)

pub ruleset walking = (run_longer, run_ends, run_begins, colours_past, clue_of-last_run)
