-- What a call of a host says: a status, and a text in the room that the host lends.
use Rattle.std.specs.Prelude.{◌≡◌, ◌≢◌, ◌⊎◌, ℕ, ◌-◌, ◌==◌, List, [], ◌++◌, length, take, replicate, slice_index_or}
use Rattle.std.specs.Prelude.{Option, None, Some, Result, Ok, Err, if◌then◌else◌}
use Rattle.picture.specs.declared.rgb.Rgb.{Rgb}
use Rattle.text_check.specs.declared.check.Accepted.{Accepted}
use Rattle.text_check.specs.declared.fault.CheckFault.{CheckFault}
use Rattle.text_check.specs.declared.fault.CheckFault.TheVariants.{Memory}
use Rattle.text_check.specs.Check.{IsCheckOf, IsOnlyPicture}
use Rattle.text_check.specs.Faults.{fault_text}

-- ---- the background

-- red, green and blue
abbrev pub rgb_of : List ℕ → Rgb
rgb_of samples = record {
  r = slice_index_or samples 0 0;
  g = slice_index_or samples 1 0;
  b = slice_index_or samples 2 0;
}

-- the background that samples name: `Some None` where there are none, and None where there are not three
abbrev pub background_asked : List ℕ → Option (Option Rgb)
background_asked samples = if length samples == 0 then Some None
    else (if length samples == 3 then Some (Some (rgb_of samples)) else None)

-- ---- the text

-- as much of a text as there is room for, and zeros behind it
abbrev pub put : List ℕ → ℕ → List ℕ
put text room = take room text ++ replicate (room - length text) 0

-- memory was refused, and there is no text
abbrev pub IsShort : ℕ → List ℕ → ℕ → Type 0
IsShort room out status = (status ≡ 4) × (out ≡ put [] room)

-- the background is refused, and there is no text
abbrev pub IsUnasked : ℕ → List ℕ → ℕ → Type 0
IsUnasked room out status = (status ≡ 6) × (out ≡ put [] room)

-- a file is refused, and the text says why
abbrev pub Refuses : CheckFault → ℕ → List ℕ → ℕ → Type 0
Refuses fault room out status = (status ≡ 1) × (out ≡ put (fault_text fault) room)

-- what is said of the answer to a check
abbrev pub Says : Result Accepted CheckFault → ℕ → List ℕ → ℕ → Type 0
Says (Ok accepted) room out status = (status ≡ 0) × (out ≡ put accepted.line.items room)
Says (Err fault) room out status = IsShort room out status ⊎ ((fault ≢ Memory) × Refuses fault room out status)

-- ---- the checks

-- What is said of a check: `Means` holds and the line for it is the text; memory was refused; or why it is refused.
abbrev pub SaysOf : (Result (List ℕ) CheckFault → Type 0) → Type 0 → ℕ → List ℕ → ℕ → Type 0
SaysOf Is Means room out status =
    ((status ≡ 0) × (Means × ((text : List ℕ) × (Is (Ok text) × (out ≡ put text room)))))
    ⊎ (IsShort room out status ⊎ ((fault : CheckFault) × (Is (Err fault) × Refuses fault room out status)))

-- The check of a certificate of a picture, by the givens that are published, if their text is passed. Where it is
-- accepted, no other picture has the clues and the colours in these or, without them, in the certificate's givens.
abbrev pub Checks : List ℕ → Option Rgb → Option (List ℕ) → List ℕ → ℕ → List ℕ → ℕ → Type 0
Checks file background givens cert room out status =
    SaysOf (IsCheckOf file background givens cert) (IsOnlyPicture file background givens cert) room out status
