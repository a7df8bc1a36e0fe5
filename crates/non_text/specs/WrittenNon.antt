-- What the writer of .non texts returns, and what it appends.
use Rattle.std.specs.Prelude.{◌≡◌, ℕ, Bool, true, false, List, Option, Result, Ok, Err, nat_le}
use Rattle.std.specs.List.{list_all}
use Rattle.std.specs.Io.KnownBytes.{Appends, Keeps}
use Rattle.picture.specs.Rows.{Rows}
use Rattle.picture.specs.Writers.{AppendsFront}
use Rattle.non_text.specs.declared.fault.NonWriteFault.{NonWriteFault}
use Rattle.non_text.specs.declared.fault.NonWriteFault.TheVariants.{TwoColoursOnly, Write, Memory}
use Rattle.non_text.specs.Written.{non_text_of}

-- no cell has a colour above 1
abbrev pub is_two_colour : Rows → Bool
is_two_colour rows = list_all (list_all (λ cell. nat_le cell 1)) rows

-- The text is appended, or a prefix of it where a write failed. A picture with a colour above 1 is refused, and nothing
-- is appended then or where memory ran out.
abbrev pub WritesNon : Rows → Option (List ℕ) → Option (List ℕ) → Result (Unit {0}) NonWriteFault → Type 0
WritesNon rows old new (Ok done) = (is_two_colour rows ≡ true) × Appends old new (non_text_of rows)
WritesNon rows old new (Err TwoColoursOnly) = (is_two_colour rows ≡ false) × Keeps old new
WritesNon rows old new (Err Write) = (is_two_colour rows ≡ true) × AppendsFront old new (non_text_of rows)
WritesNon rows old new (Err Memory) = (is_two_colour rows ≡ true) × Keeps old new
