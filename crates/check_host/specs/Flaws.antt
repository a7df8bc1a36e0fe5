-- What a call says of the flaws of a puzzle that show without a search.
use Rattle.std.specs.Prelude.{◌≡◌, ◌⊎◌, ℕ, Bool, false, List, [], ◌∷◌, not, Option, Result, Ok, Err}
use Rattle.std.specs.List.{flat_map}
use Rattle.picture.specs.declared.rgb.Rgb.{Rgb}
use Rattle.picture.specs.Document.{Content}
use Rattle.ppm_text.specs.declared.fault.PpmFault.{PpmFault}
use Rattle.ppm_text.specs.Ppm.{ppm_of}
use Rattle.flaws.specs.declared.alike.Alike.{Alike}
use Rattle.flaws.specs.Alike.{alike_pairs}
use Rattle.flaws.specs.Cells.{has_colour, is_painted}
use Rattle.text_check.specs.declared.fault.CheckFault.{CheckFault}
use Rattle.text_check.specs.declared.fault.CheckFault.TheVariants.{Memory}
use Rattle.text_check.specs.Faults.{fault_of}
use Rattle.check_host.specs.declared.flawed.Flaws.{Flaws}
use Rattle.check_host.specs.Calls.{put}

-- two colours by their numbers, the lower one first
abbrev pub pair_bytes : Alike → List ℕ
pair_bytes pair = pair.first ∷ pair.second ∷ []

-- the flaws of a document: it is blank, no cell has the background, and the pairs that look alike
pub record AreFlaws (document : Content) (is_blank lacks_background : Bool) (alike : List ℕ) : Type 0 where
  pub blank : is_blank ≡ not (is_painted document.rows)
  pub background : lacks_background ≡ not (has_colour 0 document.rows)
  pub pairs : alike ≡ flat_map pair_bytes (alike_pairs document.colours document.rows)

-- what is found in a text: its picture's flaws, why it is refused, or that memory was
abbrev pub FindsIn : Result Content PpmFault → Result Flaws CheckFault → Type 0
FindsIn (Ok document) (Ok found) =
    AreFlaws document found.is_blank found.lacks_background found.alike.items
FindsIn (Ok document) (Err fault) = fault ≡ Memory
FindsIn (Err reason) (Ok found) = ⊥
FindsIn (Err reason) (Err fault) = (fault ≡ Memory) ⊎ (fault ≡ fault_of reason)

abbrev pub Finds : List ℕ → Option Rgb → Result Flaws CheckFault → Type 0
Finds file background found = FindsIn (ppm_of file background) found

-- no flaw is told
abbrev pub NoFlaws : ℕ → Bool → Bool → List ℕ → Type 0
NoFlaws room is_blank lacks_background alike =
    (is_blank ≡ false) × ((lacks_background ≡ false) × (alike ≡ put [] room))

-- the status where a picture is refused: by its reader, or because memory was refused
abbrev pub status_of : CheckFault → ℕ
status_of Memory = 4
status_of fault = 1

-- what is told of a text: its picture's flaws, or the status where there are none to tell
abbrev pub TellsIn : Result Content PpmFault → ℕ → Bool → Bool → List ℕ → ℕ → Type 0
TellsIn (Err reason) room is_blank lacks_background alike status =
    (status ≡ 4) ⊎ (status ≡ status_of (fault_of reason))
TellsIn (Ok document) room is_blank lacks_background alike status =
    (status ≡ 4) ⊎ ((status ≡ 0) × ((pairs : List ℕ)
    × ((alike ≡ put pairs room) × AreFlaws document is_blank lacks_background pairs)))

abbrev pub TellsFlaws : List ℕ → Option Rgb → ℕ → Bool → Bool → List ℕ → ℕ → Type 0
TellsFlaws file background room is_blank lacks_background alike status =
    TellsIn (ppm_of file background) room is_blank lacks_background alike status
