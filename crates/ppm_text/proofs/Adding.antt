-- A new triple with valid samples is refused where the palette is full, and otherwise only if memory ran out.
use Rattle.std.proofs.Common.{◌≡◌, ℕ, Bool, true, false, cond, ltb, leb, length, Option, Some, None, Result, Ok, Err, refl, sym, ap, ◌∙◌, ◌⊎◌, inl, inr}
use Rattle.std.proofs.lemmas.Bool.{cases_lt, le-leb, le-ltb, lt-leb, lt-ltb}
use Rattle.picture.specs.declared.palette.PaletteFault.{PaletteFault}
use Rattle.picture.specs.declared.palette.PaletteFault.TheVariants as palette
use Rattle.picture.specs.declared.picture.TheConstants.{MAX_COLOURS}
use Rattle.picture.proofs.ColourLaws.{absent}
use Rattle.picture.specs.Palette.{Colours, fits, place_of, with_colour, add_fault}
use Rattle.ppm_text.specs.declared.fault.PpmFault.{PpmFault}
use Rattle.ppm_text.specs.declared.fault.PpmFault.TheVariants.{Memory, TooManyColours}
use Rattle.ppm_text.specs.declared.fields.Triple.{Triple}
use Rattle.ppm_text.specs.Ppm.{number_with, numbered_by}
use Rattle.ppm_text.specs.NewTriples.{adding_fault}

abbrev IsRefused : PaletteFault → Option PaletteFault → Type 0
IsRefused e fault = (fault ≡ Some e) ⊎ ((fault ≡ None) × (e ≡ palette.Memory))

by_room : (full : Bool) (place : ℕ) (e : PaletteFault) (room : Result (ℕ × Colours) PpmFault) → IsRefused e (cond full (Some palette.Full) None)
    → (adding_fault e place ≡ Memory) ⊎ (cond full (Err (TooManyColours place)) room ≡ Err (adding_fault e place))
by_room true place e room h = elim h [
  | inl p ↦ let is : palette.Full ≡ e = cc in inr (rw (← is) refl)
  | inr p ↦ absurd cc
]
by_room false place e room h = elim h [ inl p ↦ absurd cc | inr p ↦ inl (rw p.1 refl) ]

pub refused : (colours : Colours) (triple : Triple) (e : PaletteFault) → place_of triple.colour colours.triples ≡ None → fits colours.maxval triple.colour ≡ true
    → IsRefused e (add_fault colours triple.colour) → (adding_fault e triple.place ≡ Memory) ⊎ (number_with colours triple ≡ Err (adding_fault e triple.place))
refused colours triple e new lawful h =
    let n = length colours.triples in
    let room : Result (ℕ × Colours) PpmFault = Ok (n, with_colour colours triple.colour) in
    let tests : add_fault colours triple.colour ≡ cond (leb MAX_COLOURS n) (Some palette.Full) None = rw (absent triple.colour colours.triples (sym new), lawful) refl in
    let full : number_with colours triple ≡ cond (leb MAX_COLOURS n) (Err (TooManyColours triple.place)) room =
    ap (λ (o : Option ℕ). numbered_by o colours triple) new ∙ other_way n triple.place room in
    rw full (by_room (leb MAX_COLOURS n) triple.place e room (rw tests at h)) where
      other_way : (n place : ℕ) (room : Result (ℕ × Colours) PpmFault) → cond (ltb n MAX_COLOURS) room (Err (TooManyColours place)) ≡ cond (leb MAX_COLOURS n) (Err (TooManyColours place)) room
      other_way n place room = elim (cases_lt n MAX_COLOURS) [
        | inl lt ↦ rw (lt-ltb n MAX_COLOURS lt, lt-leb MAX_COLOURS n lt) refl
        | inr le ↦ rw (le-ltb n MAX_COLOURS le, le-leb MAX_COLOURS n le) refl
      ]
