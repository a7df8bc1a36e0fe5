-- What a look needs of its line, and whether all blocks of the line stand before it.
use Rattle.std.specs.Prelude.{◌≡◌, ◌↔◌, ℕ, ◌-◌, ◌==◌, List, length, map, slice_index, IsBitSet, if◌then◌else◌}
use Rattle.std.specs.Prelude.{Option, None, Some}
use Rattle.std.specs.Int.{trailing_zeros, w16}
use Rattle.std.specs.List.{filter_map, range_with_len}
use Rattle.clues.specs.declared.block.Block.{Block}
use Rattle.clues.specs.Clue.{clue_of}
use Rattle.line_facts.specs.Fits.{CanHave}
use Rattle.line_facts.specs.Masks.{all_sixteen}
use Rattle.line_settle.specs.LeftOut.{LeavesOut}
use Rattle.justify.specs.declared.premise.Premise.{Premise}
use Rattle.grade.specs.Looks.{is_open}

-- ---- premises

-- after a look a cell can have just the colours that some list has there that fitted the line before
abbrev pub AreLeft : List Block → List ℕ → List ℕ → Type 0
AreLeft clue before after = (i k : ℕ) → IsBitSet (slice_index after i) k ↔ CanHave clue before i k

-- the exclusions that are drawn between two lists of masks: what the first has and the second does not
abbrev pub AreDrawn : List ℕ → List ℕ → List ℕ → Type 0
AreDrawn before after drawn = (i k : ℕ)
    → IsBitSet (slice_index drawn i) k ↔ (IsBitSet (slice_index before i) k × (IsBitSet (slice_index after i) k → ⊥))

-- what a mask excludes in the cell at a place, if anything
abbrev pub premise_at : List ℕ → ℕ → Option Premise
premise_at masks i =
    if slice_index masks i == all_sixteen then None
    else Some (record { at = i; colours = 65535 - slice_index masks i })

-- what the masks of a line exclude, by rising place
abbrev pub premises_of : List ℕ → List Premise
premises_of masks = filter_map (premise_at masks) (range_with_len 0 (length masks))

-- Premises of a look that leads from some masks of its line to others. Each has all colours that were excluded in its
-- cell. Together they force all that is drawn, and none of them can be left out: the line would then not force it all.
pub record AreNeeded (clue : List Block) (before after : List ℕ) (premises : List Premise) : Type 0 where
  pub drawn : List ℕ
  pub is_drawn : AreDrawn before after drawn
  pub kept : List ℕ
  pub trimmed : LeavesOut clue drawn before kept
  pub are : premises ≡ premises_of kept

-- ---- blocks

-- the colour of a settled cell, and the background for an open one
abbrev pub known_colour : ℕ → ℕ
known_colour mask = if is_open mask then 0 else trailing_zeros w16 mask

abbrev pub known_colours : List ℕ → List ℕ
known_colours masks = map known_colour masks

-- all blocks of a line stand: its settled cells alone have its clue
abbrev pub Stand : List Block → List ℕ → Type 0
Stand clue masks = clue_of (known_colours masks) ≡ clue
