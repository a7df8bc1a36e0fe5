-- The clue of a line is its maximal runs, and these alone.
use Rattle.std.proofs.Common.{◌≡◌, ◌≢◌, ℕ, zero, suc, ◌<◌, List, [], ◌∷◌, ◌++◌, length, replicate, refl, inl, inr, sym, ap, subst, ◌∙◌, add-one, arith}
use Rattle.std.proofs.lemmas.Bool.{cases_eq, eq-eqb, ne_eqb}
use Rattle.clues.specs.declared.block.Block.{Block}
use Rattle.clues.specs.Clue.{block, longer, joined, clue_of, blocks_of}
use Rattle.clues.proofs.RunLaws.{blocks_of-coloured, clue_of-run, clue_of-last_run}
use Rattle.claims.specs.MaximalRuns.{AreRuns, CluesAreMaximalRuns, HasEnded, IsFirstRun}

-- ---- runs are the clue

after_gap : (n : ℕ) (rest : List ℕ) → clue_of (replicate n 0 ++ rest) ≡ clue_of rest
after_gap zero rest = refl
after_gap (suc n) rest = after_gap n rest

no_runs : (n : ℕ) → clue_of (replicate n 0) ≡ []
no_runs zero = refl
no_runs (suc n) = no_runs n

after_run : (len colour : ℕ) (rest : List ℕ) → 0 < len → HasEnded colour rest → clue_of (replicate len colour ++ rest) ≡ blocks_of len colour ++ clue_of rest
after_run len colour [] some ended = clue_of-last_run len colour (λ c. some)
after_run len colour (y ∷ rest) some ended = clue_of-run len colour y rest (λ c. some) ended

one_block : (len colour : ℕ) → colour ≢ 0 → blocks_of len colour ≡ block len colour ∷ []
one_block len zero coloured = absurd (coloured refl)
one_block len (suc x) coloured = blocks_of-coloured len x

first_block : (line : List ℕ) (run : Block) (rest : List ℕ) → IsFirstRun line run rest → clue_of line ≡ run ∷ clue_of rest
first_block line run rest first =
    ap clue_of first.cells
    ∙ (after_gap first.gap (replicate run.len run.colour ++ rest)
    ∙ (after_run run.len run.colour rest first.has_cells first.has_ended
    ∙ ap (λ (blocks : List Block). blocks ++ clue_of rest) (one_block run.len run.colour first.has_colour)))

only_runs : (line : List ℕ) (blocks : List Block) → AreRuns line blocks → blocks ≡ clue_of line
only_runs line [] all = sym (ap clue_of all ∙ no_runs (length line))
only_runs line (run ∷ runs) (rest, first, others) = ap (λ (blocks : List Block). run ∷ blocks) (only_runs rest runs others) ∙ sym (first_block line run rest first)

-- ---- the clue is runs

after_background : (line : List ℕ) (blocks : List Block) → AreRuns line blocks → AreRuns (0 ∷ line) blocks
after_background line [] all = ap (λ (cells : List ℕ). 0 ∷ cells) all
after_background line (run ∷ runs) (rest, first, others) = (
  rest,
  record {
    gap = suc first.gap;
    cells = ap (λ (cells : List ℕ). 0 ∷ cells) first.cells;
    has_cells = first.has_cells;
    has_colour = first.has_colour;
    has_ended = first.has_ended;
  },
  others,
)

new_run : (x : ℕ) (rest : List ℕ) (blocks : List Block) → HasEnded (suc x) rest → AreRuns rest blocks → AreRuns (suc x ∷ rest) (block 1 (suc x) ∷ blocks)
new_run x rest blocks ended runs = (
  rest,
  record {
    gap = 0;
    cells = refl;
    has_cells = omega arith;
    has_colour = λ e. absurd cc;
    has_ended = ended;
  },
  runs,
)

-- a line that begins with a colour begins with its first run
no_gap : (x gap len colour : ℕ) (cells rest : List ℕ) → suc x ∷ cells ≡ replicate gap 0 ++ (replicate len colour ++ rest) → 0 < len → (suc x ≡ colour) × (suc x ∷ cells ≡ replicate len colour ++ rest)
no_gap x (suc gap) len colour cells rest e some = absurd cc
no_gap x zero zero colour cells rest e some = absurd (omega arith)
no_gap x zero (suc len) colour cells rest e some = (cc, e)

longer_run : (x : ℕ) (cells : List ℕ) (blocks : List Block) → AreRuns (suc x ∷ cells) blocks → AreRuns (suc x ∷ suc x ∷ cells) (longer blocks)
longer_run x cells [] all = absurd cc
longer_run x cells (run ∷ runs) (rest, first, others) =
    let at = no_gap x first.gap run.len run.colour cells rest first.cells first.has_cells in (
      rest,
      record {
        gap = 0;
        cells = rw add-one (ap (λ (c : ℕ). c ∷ suc x ∷ cells) at.0 ∙ ap (λ (cs : List ℕ). run.colour ∷ cs) at.1);
        has_cells = omega arith;
        has_colour = first.has_colour;
        has_ended = first.has_ended;
      },
      others,
    )

joined_runs : (x : ℕ) (rest : List ℕ) (blocks : List Block) → AreRuns rest blocks → AreRuns (suc x ∷ rest) (joined (suc x) rest blocks)
joined_runs x [] blocks runs = new_run x [] blocks tt runs
joined_runs x (y ∷ cells) blocks runs = elim (cases_eq (suc x) y) [
  | inl e ↦
      rw (eq-eqb (suc x) y e)
      (subst (λ (c : ℕ). AreRuns (suc x ∷ c ∷ cells) (longer blocks)) e (longer_run x cells blocks (subst (λ (c : ℕ). AreRuns (c ∷ cells) blocks) (sym e) runs)))
  | inr d ↦ rw (ne_eqb (suc x) y d) (new_run x (y ∷ cells) blocks (λ e. d (sym e)) runs)
]

has_runs : (line : List ℕ) → AreRuns line (clue_of line)
has_runs [] = refl
has_runs (zero ∷ rest) = after_background rest (clue_of rest) (has_runs rest)
has_runs (suc x ∷ rest) = joined_runs x rest (clue_of rest) (has_runs rest)

pub maximal_runs : CluesAreMaximalRuns
maximal_runs line blocks = (
  only_runs line blocks,
  λ e. subst (λ (bs : List Block). AreRuns line bs) (sym e) (has_runs line),
)
