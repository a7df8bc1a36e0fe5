-- A clue spelled cell by cell: its pattern, and the states that a line goes through as it is read along the pattern.
use Rattle.std.specs.Prelude.{ℕ, zero, suc, ◌+◌, ◌-◌, ◌*◌, ◌/◌, ◌^◌, List, [], ◌∷◌, ◌++◌, Bool, false, cond, ◌&&◌, ◌||◌}
use Rattle.std.specs.Prelude.{not, ◌==◌, nat_le, nat_lt, length, slice_index, slice_index_or, bit_and, replicate}
use Rattle.clues.specs.declared.block.Block.{Block}

-- one background cell where two blocks of one colour follow each other
abbrev pub gap : Bool → List ℕ
gap is_gap = cond is_gap (0 ∷ []) []

-- the blocks written out as cells, after a block of colour `last`
abbrev pub spelled_after : ℕ → List Block → List ℕ
spelled_after last [] = []
spelled_after last (b ∷ bs) = gap (b.colour == last) ++ (replicate b.len b.colour ++ spelled_after b.colour bs)

-- a clue's shortest line, after one background cell
abbrev pub pattern_of : List Block → List ℕ
pattern_of blocks = 0 ∷ spelled_after 0 blocks

-- colour k is left in a mask, as a program tests it
abbrev pub allows : ℕ → ℕ → Bool
allows mask k = bit_and (mask / 2 ^ k) 1 == 1

-- State q of a line: the pattern is spelled up to its cell q. Background may be read without leaving the state where
-- the pattern is at its end, or goes on with a colour that is not the one just spelled.
abbrev pub waits : List ℕ → ℕ → Bool
waits pattern q = nat_le (length pattern) (q + 1)
    || (not (slice_index pattern (q + 1) == 0) && not (slice_index pattern (q + 1) == slice_index pattern q))

-- A cell with one of the mask's colours leads a line from state q to the next state, or leaves it in state q, and
-- `later` holds for the state after the cell.
abbrev pub advances : List ℕ → ℕ → (ℕ → Bool) → ℕ → Bool
advances pattern mask later q =
    nat_lt (q + 1) (length pattern) && (allows mask (slice_index pattern (q + 1)) && later (q + 1))

abbrev pub rests : List ℕ → ℕ → (ℕ → Bool) → ℕ → Bool
rests pattern mask later q = waits pattern q && (allows mask 0 && later q)

-- a line can go from state q to the end, where `later` says from which states the cells after its first one can
abbrev pub finish_step : List ℕ → ℕ → (ℕ → Bool) → ℕ → Bool
finish_step pattern mask later q = advances pattern mask later q || rests pattern mask later q

-- a line of cells with these masks can go from state q to the pattern's end
abbrev pub finishes : List ℕ → List ℕ → ℕ → Bool
finishes pattern [] q = q + 1 == length pattern
finishes pattern (mask ∷ masks) q = finish_step pattern mask (finishes pattern masks) q

-- a cell with one of the mask's colours can lead to state q, where `before` says which states are reached before it
abbrev pub reach_step : List ℕ → ℕ → (ℕ → Bool) → ℕ → Bool
reach_step pattern mask before q =
    (nat_lt 0 q && (allows mask (slice_index pattern q) && before (q - 1))) || rests pattern mask before q

-- the first i cells of a line with these masks can reach state q
abbrev pub reaches : List ℕ → List ℕ → ℕ → ℕ → Bool
reaches pattern masks zero q = q == 0
reaches pattern masks (suc i) q = reach_step pattern (slice_index masks i) (reaches pattern masks i) q

-- a line can pass from state q through a cell with one of the mask's colours, that colour being k
abbrev pub passes : List ℕ → ℕ → (ℕ → Bool) → (ℕ → Bool) → ℕ → ℕ → Bool
passes pattern mask before later q k =
    before q && ((advances pattern mask later q && slice_index pattern (q + 1) == k)
    || (rests pattern mask later q && 0 == k))

-- the same from some state below n
abbrev pub passes_below : List ℕ → ℕ → (ℕ → Bool) → (ℕ → Bool) → ℕ → ℕ → Bool
passes_below pattern mask before later zero k = false
passes_below pattern mask before later (suc n) k =
    passes_below pattern mask before later n k || passes pattern mask before later n k

-- the value at place q of a row of truth values, and of row i of a table of such rows; false beyond the end
abbrev pub truth_at : List Bool → ℕ → Bool
truth_at row q = slice_index_or row q false

abbrev pub table_row : List Bool → ℕ → ℕ → ℕ → Bool
table_row table width i q = slice_index_or table (i * width + q) false
