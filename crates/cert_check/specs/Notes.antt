-- The notes of a bounded trail: which branches wait, and that there is room for all that can be noted.
use Rattle.std.specs.Prelude.{◌≡◌, ◌⊎◌, ℕ, ◌+◌, ◌-◌, ◌*◌, ◌<◌, ◌≤◌, List, [], ◌∷◌, length, count_ones}
use Rattle.std.specs.Prelude.{Option, None, Some}
use Rattle.line_facts.specs.Masks.{Masks}
use Rattle.picture.specs.Rows.{cell_at, width_of, with_cell}
use Rattle.cert_check.specs.declared.note.CellMask.{CellMask}
use Rattle.cert_check.specs.declared.note.Branch.{Branch}
use Rattle.cert_check.specs.declared.note.Note.{Note}
use Rattle.cert_check.specs.declared.note.Note.TheVariants.{Restore, Wait}
use Rattle.cert_check.specs.Strays.{tally}

abbrev pub with_mask : Masks → CellMask → Masks
with_mask facts cell = with_cell facts cell.row cell.col cell.mask

-- the facts of the branches that wait, the newest first
abbrev pub behind_of : Masks → List Note → List Masks
behind_of facts [] = []
behind_of facts (Restore cell ∷ notes) = behind_of (with_mask facts cell) notes
behind_of facts (Wait branch ∷ notes) = with_mask facts branch.cell ∷ behind_of facts notes

-- the numbers that are kept for them
abbrev pub numbers_of : List Note → List ℕ
numbers_of [] = []
numbers_of (Restore cell ∷ notes) = numbers_of notes
numbers_of (Wait branch ∷ notes) = branch.strays ∷ numbers_of notes

abbrev pub IsInside : Masks → CellMask → Type 0
IsInside facts cell = (cell.row < length facts) × (cell.col < width_of facts)

abbrev pub AreInside : Masks → List Note → Type 0
AreInside facts [] = Unit {0}
AreInside facts (Restore cell ∷ notes) = IsInside facts cell × AreInside (with_mask facts cell) notes
AreInside facts (Wait branch ∷ notes) = IsInside facts branch.cell × AreInside facts notes

-- how many colours are left in all cells
abbrev pub colours_left : Masks → ℕ
colours_left facts = tally (λ row. tally (λ col. count_ones (cell_at facts row col)) (width_of facts)) (length facts)

-- Each branch that waits has room for its notes once it is at hand, two for each colour that is left in it; and the
-- oldest note is a branch.
abbrev pub HaveRoom : ℕ → Masks → List Note → Type 0
HaveRoom most facts [] = Unit {0}
HaveRoom most facts (Restore cell ∷ notes) = (0 < length notes) × HaveRoom most (with_mask facts cell) notes
HaveRoom most facts (Wait branch ∷ notes) =
    (length notes + 1 + 2 * colours_left (with_mask facts branch.cell) ≤ most) × HaveRoom most facts notes

-- the most notes that there can be where so many parts are made
abbrev pub most_notes : ℕ → ℕ → ℕ → ℕ
most_notes height width parts = 32 * (height * width) + 1 + parts

-- there is room for the notes of the facts at hand, of each branch that waits, and of so many parts
pub record IsBounded (facts : Masks) (notes : List Note) (parts capacity : ℕ) : Type 0 where
  pub inside : AreInside facts notes
  pub fits : length notes + 2 * colours_left facts + parts ≤ capacity
  pub room : HaveRoom (capacity - parts) facts notes
  pub enough : most_notes (length facts) (width_of facts) parts ≤ capacity

-- the note of a cell's mask
abbrev pub noted : Masks → CellMask → Note
noted facts cell = Restore (record { row = cell.row; col = cell.col; mask = cell_at facts cell.row cell.col })

-- The notes once a cell gets a mask: its old one is noted where the two differ and a branch waits.
abbrev pub Notes : Masks → CellMask → List Note → List Note → Type 0
Notes facts cell old new =
    (((cell_at facts cell.row cell.col ≡ cell.mask) ⊎ (old ≡ [])) × (new ≡ old))
    ⊎ ((cell_at facts cell.row cell.col ≡ cell.mask → ⊥) × (0 < length old) × (new ≡ noted facts cell ∷ old))

-- how many parts may still be made: one fewer where a part leaves nothing on one side
abbrev pub Spends : ℕ → ℕ → ℕ → ℕ → Type 0
Spends held rest old new = (new + 1 ≡ old) ⊎ ((new ≡ old) × (0 < held) × (0 < rest))

-- the facts at hand and those that wait, the numbers that are kept for these, and how many parts may still be made
pub record Walked : Type 0 where
  pub at_hand : Masks
  pub behind : List Masks
  pub waits : List ℕ
  pub parts : ℕ

abbrev pub walked : Masks → List Masks → List ℕ → ℕ → Walked
walked at_hand behind waits parts = record { at_hand = at_hand; behind = behind; waits = waits; parts = parts }

-- the newest branch that waited, with the facts that it was made from; or none waits
abbrev pub PutsBack : Masks → List Note → Masks → List Note → Option Branch → Type 0
PutsBack old notes new rest None = (behind_of old notes ≡ []) × (rest ≡ [])
PutsBack old notes new rest (Some branch) =
    (behind_of old notes ≡ with_mask new branch.cell ∷ behind_of new rest)
    × (numbers_of notes ≡ branch.strays ∷ numbers_of rest) × IsInside new branch.cell
    × ((most : ℕ) → HaveRoom most old notes
    → (length rest + 1 + 2 * colours_left (with_mask new branch.cell) ≤ most) × HaveRoom most new rest)
