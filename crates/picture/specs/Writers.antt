-- What a call that writes has appended.
use Rattle.std.specs.Prelude.{ℕ, List, [], ◌∷◌, ◌++◌, take, decimal, Option}
use Rattle.std.specs.Io.KnownBytes.{Appends}

-- a prefix of the bytes was appended: the first n of them, for some n
abbrev pub AppendsFront : Option (List ℕ) → Option (List ℕ) → List ℕ → Type 0
AppendsFront old new bytes = (n : ℕ) × Appends old new (take n bytes)

-- a number in decimal digits, and the byte after it
abbrev pub number_text : ℕ → ℕ → List ℕ
number_text n close = decimal n ++ close ∷ []
